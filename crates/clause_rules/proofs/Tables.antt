-- Tables of `$` parameters from which one is taken and put back.
use Rattle.std.specs.Prelude.{◌≡◌, ℕ, zero, suc, [], ◌∷◌, slice_set}
use Rattle.std.proofs.Common.{refl, ap}
use Rattle.language_model.specs.Parameters.{Tables, table_at}

pub put_back : (tables : Tables) (n : ℕ) → slice_set (slice_set tables n []) n (table_at tables n) ≡ tables
put_back [] n = refl
put_back (t ∷ ts) zero = refl
put_back (t ∷ ts) (suc n) = ap (λ rest. t ∷ rest) (put_back ts n)

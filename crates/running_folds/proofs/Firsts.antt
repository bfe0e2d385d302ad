-- The first and the last value, with one value more.
use Rattle.std.proofs.Common.{◌≡◌, true, false, true≢false, List, [], ◌∷◌, ◌++◌, slice_get, Option, Some, is_some, refl, sym, ap, ◌∙◌}
use Rattle.spl_value.specs.declared.value.Value.{Value}
use Rattle.stream_model.specs.Aggregates.{last}

pub first_comes : (o : Option Value) (vs : List Value) (v : Value) → is_some o ≡ false → o ≡ slice_get vs 0 → Some v ≡ slice_get (vs ++ v ∷ []) 0
first_comes o [] v none is = refl
first_comes o (x ∷ xs) v none is = absurd (true≢false (ap is_some (sym is) ∙ none))

pub first_stays : (o : Option Value) (vs : List Value) (v : Value) → is_some o ≡ true → o ≡ slice_get vs 0 → o ≡ slice_get (vs ++ v ∷ []) 0
first_stays o [] v some is = absurd (true≢false (sym some ∙ ap is_some is))
first_stays o (x ∷ xs) v some is = is

pub last_comes : (vs : List Value) (v : Value) → Some v ≡ last (vs ++ v ∷ [])
last_comes [] v = refl
last_comes (x ∷ []) v = refl
last_comes (x ∷ y ∷ ys) v = last_comes (y ∷ ys) v

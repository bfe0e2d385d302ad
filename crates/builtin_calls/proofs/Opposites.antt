-- The numbers of a kind have opposites in 128 bits.
use Rattle.std.proofs.Common.{◌≡◌, ◌∙◌, ℕ, ◌-◌, ◌^◌, ◌≤◌, IsTrue, ℤ, FitsSigned, to_z, of_z, subst, sym}
use Rattle.std.specs.Prelude.{neg_ℤ}
use Rattle.std.specs.Int.{w128}
use Rattle.std.proofs.lemmas.Int.{to_z-of_z}
use Rattle.spl_value.specs.declared.types.IntKind.{IntKind}
use Rattle.spl_value.specs.declared.types.SplType.TheVariants as S
use Rattle.spl_value.specs.declared.value.Value.{Value}
use Rattle.spl_value.specs.declared.value.Value.TheVariants as V
use Rattle.spl_value.proofs.FitsLaws.{fits_int}
use Rattle.spl_value.specs.Values.{fits}
use Rattle.spl_value.proofs.Widths.{within, turned, fits_128}

pub opposite_fits : (k : IntKind) (v : Value) (n : ℤ) → IsTrue (fits (S.Int k) v) → v ≡ V.Int n → FitsSigned w128 (neg_ℤ (to_z w128 (of_z w128 n)))
opposite_fits k v n f e =
    let small = within k n (sym (fits_int k n) ∙ subst (λ (u : Value). IsTrue (fits (S.Int k) u)) e f) in
    subst (λ (z : ℤ). FitsSigned w128 (neg_ℤ z)) (sym (to_z-of_z w128 n (fits_128 n small)))
    (fits_128 (neg_ℤ n) (subst (λ (m : ℕ). m ≤ 2 ^ 64) (sym (turned n)) small))

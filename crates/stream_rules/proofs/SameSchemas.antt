-- Rows of attributes that are equal are the same.
use Rattle.std.specs.Prelude.{◌≡◌, ◌↔◌, Bool, true, false, IsTrue}
use Rattle.std.proofs.Common.{refl, ap, sym}
use Rattle.spl_value.specs.declared.types.Named.{Named}
use Rattle.spl_value.specs.declared.types.SplType.{SplType}
use Rattle.spl_value.specs.declared.types.SplType.TheVariants as S
use Rattle.language_model.specs.StreamTypes.{Attributes, same_attributes}
use Rattle.language_model.proofs.TypingLaws.{same_types_law}
use Rattle.spl_value.proofs.TypesLaws.{rows_equal}

pub same_tested : (xs ys : Attributes) (b : Bool) → IsTrue b ↔ (xs ≡ ys) → b ≡ same_attributes xs ys
same_tested xs ys true h = sym ((same_types_law (S.Tuple xs) (S.Tuple ys)).1 (ap S.Tuple (h.0 refl)))
same_tested xs ys false h =
    elim (same_attributes xs ys) as (λ s. same_attributes xs ys ≡ s → false ≡ s) [
      | true ↦ λ e. h.1 (rows_equal xs ys ((same_types_law (S.Tuple xs) (S.Tuple ys)).0 e))
      | false ↦ λ e. refl
    ] refl

pub named_same : (x y : Named SplType) → x.name ≡ y.name → x.kind ≡ y.kind → x ≡ y
named_same x y e f = λ i. record { name = e i; kind = f i }

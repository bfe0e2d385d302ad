-- How the answers of calls are composed, as in the definitions.
use Rattle.std.specs.Prelude.{◌≡◌, ℕ, List, Err}
use Rattle.std.proofs.Common.{refl, ap, sym, subst, ◌∙◌}
use Rattle.spl_value.specs.declared.types.SplType.{SplType}
use Rattle.spl_value.specs.declared.types.SplType.TheOpen as O
use Rattle.spl_value.specs.declared.types.SplType.TheOpen.{SplType-F}
use Rattle.spl_value.specs.declared.types.SplType.TheVariants as S
use Rattle.spl_value.specs.declared.types.SplType.TheViews.{out-SplType, roll-SplType, roll-out-SplType}
use Rattle.language_model.specs.declared.scope.CheckRefusal.{CheckRefusal}
use Rattle.language_model.specs.StreamTypes.{Attributes, level_attributes}
use Rattle.language_model.specs.Typing.{Found, mismatch, unknown}
use Rattle.language_model.specs.declared.answer.TypeAnswer.{TypeAnswer}
use Rattle.language_model.specs.declared.answer.TypeAnswer.TheVariants.{Refused, Memory}
use Rattle.language_model.specs.Finds.{Finds, IsUnknown}

pub refused_as : {A : Type 0} (o : Found A) (a : TypeAnswer) (r : CheckRefusal) → a ≡ Refused r → o ≡ Err r → Finds o (Err a)
refused_as o a r e h = subst (λ a. Finds o (Err a)) (sym e) h

pub unknown_as : {A : Type 0} (o : Found A) (at : ℕ) (name : List ℕ) (a : TypeAnswer) → o ≡ unknown at name → IsUnknown at name a → Finds o (Err a)
unknown_as o at name (Refused r) h e = h ∙ ap Err (sym e)
unknown_as o at name Memory h e = tt

-- a type that is no tuple has no attributes
pub no_tuple : (at : ℕ) (t : SplType) → ((schema : Attributes) → t ≡ S.Tuple schema → ⊥) → level_attributes at (out-SplType t) ≡ mismatch at
no_tuple at t other = none (out-SplType t) refl
  where
    none : (x : SplType-F SplType) → out-SplType t ≡ x → level_attributes at x ≡ mismatch at
    none (O.Tuple schema) e = absurd (other schema (sym (roll-out-SplType t) ∙ ap roll-SplType (e ∙ sym (S.outs-Tuple schema)) ∙ roll-out-SplType (S.Tuple schema)))
    none (O.Int k) e = refl
    none O.Bool e = refl
    none O.Text e = refl
    none (O.List u) e = refl
    none (O.Map k u) e = refl

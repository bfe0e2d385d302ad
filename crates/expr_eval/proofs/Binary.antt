-- The outcome of an operator between two operands, by their outcomes.
use Rattle.std.specs.Prelude.{◌≡◌, ℕ, List}
use Rattle.std.proofs.Common.{refl, ap, ◌∙◌, subst}
use Rattle.spl_value.specs.declared.types.SplType.{SplType}
use Rattle.spl_value.specs.declared.types.SplType.TheVariants as T
use Rattle.spl_value.specs.declared.value.Value.{Value}
use Rattle.spl_tree.specs.declared.code.BinaryCode.{BinaryCode}
use Rattle.spl_tree.specs.declared.code.BinaryCode.TheVariants as D
use Rattle.spl_tree.specs.declared.code.Code.{Code}
use Rattle.spl_tree.specs.declared.code.Code.TheVariants as C
use Rattle.spl_tree.specs.declared.body.Function.{Function}
use Rattle.spl_tree.specs.declared.code.Slot.{Slot}
use Rattle.language_model.specs.declared.env.Env.{Env}
use Rattle.language_model.specs.CodeFits as F
use Rattle.language_model.specs.CodeFits.{BinaryGives}
use Rattle.language_model.specs.Evaluation.{World, Meaning, binary}
use Rattle.language_model.specs.Operators.{binary_of}
use Rattle.language_model.specs.Outcomes.{Done, followed, settled}
use Rattle.language_model.specs.WorldFits.{Fits}
use Rattle.expr_eval.specs.Fitting.{IsFit}
use Rattle.expr_eval.proofs.CodeParts.{binary_parts}

-- of the left operand
abbrev LeftIs : BinaryCode → SplType → Type 0
LeftIs D.And t = t ≡ T.Bool
LeftIs D.Or t = t ≡ T.Bool
LeftIs _ t = Unit {0}

left_is : (op : BinaryCode) (t u r : SplType) → BinaryGives op t u r → LeftIs op t
left_is _ _ _ _ (F.integers op k) = tt
left_is _ _ _ _ F.joins = tt
left_is _ _ _ _ (F.orders_integers op k) = tt
left_is _ _ _ _ (F.orders_texts op) = tt
left_is _ _ _ _ (F.equals t) = tt
left_is _ _ _ _ (F.differs t) = tt
left_is _ _ _ _ F.both = refl
left_is _ _ _ _ F.either = refl
left_is _ _ _ _ (F.in_list t) = tt
left_is _ _ _ _ (F.in_map k t) = tt

module _ (functions : List Function) (env : Env) (op : BinaryCode) (x y : Code Slot) (h : IsFit functions (C.Binary op x y) env) where
  left_of : (o : BinaryCode) → op ≡ o → (LeftIs o (binary_parts functions env (C.Binary op x y) h op x y refl).0)
  left_of o e =
      let p = binary_parts functions env (C.Binary op x y) h op x y refl in
      subst (λ o. LeftIs o p.0) e (left_is op p.0 p.1 h.0 p.4)

  pub and_left : op ≡ D.And → Fits functions x env T.Bool
  and_left e = let p = binary_parts functions env (C.Binary op x y) h op x y refl in subst (Fits functions x env) (left_of D.And e) p.2

  pub or_left : op ≡ D.Or → Fits functions x env T.Bool
  or_left e = let p = binary_parts functions env (C.Binary op x y) h op x y refl in subst (Fits functions x env) (left_of D.Or e) p.2

  pub left_is_fit : IsFit functions x env
  left_is_fit = let p = binary_parts functions env (C.Binary op x y) h op x y refl in (p.0, p.2)

  pub right_is_fit : IsFit functions y env
  right_is_fit = let p = binary_parts functions env (C.Binary op x y) h op x y refl in (p.1, p.3)

-- where both operands are evaluated
module _ {N : Type 0} (op : BinaryCode) (m n : Meaning N) (w : World N) (turns : ℕ) (no_and : op ≡ D.And → ⊥) (no_or : op ≡ D.Or → ⊥) where
  pub both_evaluated : binary op m n w turns ≡ followed (m w turns) (λ u turns. followed (n w turns) (λ v turns. settled (binary_of op u v) turns))
  both_evaluated = go op no_and no_or
    where
      go : (op : BinaryCode) → (op ≡ D.And → ⊥) → (op ≡ D.Or → ⊥) → binary op m n w turns ≡ followed (m w turns) (λ u turns. followed (n w turns) (λ v turns. settled (binary_of op u v) turns))
      go D.And f g = absurd (f refl)
      go D.Or f g = absurd (g refl)
      go op f g = refl

  module _ (u : Value) (after : ℕ) (first : m w turns ≡ Done u after) where
    pub on_left : binary op m n w turns ≡ followed (n w after) (λ v turns. settled (binary_of op u v) turns)
    on_left = both_evaluated ∙ ap (λ o. followed o (λ u turns. followed (n w turns) (λ v turns. settled (binary_of op u v) turns))) first

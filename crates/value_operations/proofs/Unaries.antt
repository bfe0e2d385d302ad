-- Operators and casts in front of a value, from the innermost on.
use Rattle.std.specs.Prelude.{◌≡◌, ℕ, ◌+◌, ◌-◌, ◌<◌, ◌≤◌, List, [], ◌∷◌, ◌++◌, length, take}
use Rattle.std.proofs.Common.{refl, ap, subst, ◌∙◌, get_or, arith}
use Rattle.std.proofs.lemmas.List.{take_more}
use Rattle.spl_value.specs.declared.types.SplType.{SplType}
use Rattle.spl_value.specs.declared.value.Value.{Value}
use Rattle.spl_value.specs.Calls.{Gives}
use Rattle.spl_tree.specs.declared.code.UnaryCode.{UnaryCode}
use Rattle.language_model.specs.CodeFits as F
use Rattle.language_model.specs.CodeFits.{UnaryGives, UnariesGive}
use Rattle.language_model.specs.Evaluation.{unaries_of}
use Rattle.language_model.specs.parts.Operators.{unary_of}
use Rattle.language_model.specs.Outcomes.{Outcome, Done, Faulted, Stuck, followed, settled}
use Rattle.value_operations.specs.Fitting.{FitsUnaries}
use Rattle.value_operations.specs.steps.Unaries.{FitsUnary}
use Rattle.value_operations.proofs.Operands.{unary_keeps}

done_after : (o : Outcome Value) → o ≡ followed o (λ u turns. Done u turns)
done_after (Done v turns) = refl
done_after (Faulted kind) = refl
done_after Stuck = refl

in_turn : (o : Outcome Value) (f g : Value → ℕ → Outcome Value) → followed (followed o f) g ≡ followed o (λ u turns. followed (f u turns) g)
in_turn (Done v turns) f g = refl
in_turn (Faulted kind) f g = refl
in_turn Stuck f g = refl

-- the last operator is the first that is applied
last_first : (ops : List UnaryCode) (op : UnaryCode) (v : Value) (turns : ℕ)
    → unaries_of (ops ++ op ∷ []) v turns ≡ followed (settled (unary_of op v) turns) (λ u turns. unaries_of ops u turns)
last_first [] op v turns = done_after (settled (unary_of op v) turns)
last_first (x ∷ ops) op v turns =
    ap (λ o. followed o (λ u turns. settled (unary_of x u) turns)) (last_first ops op v turns)
    ∙ in_turn (settled (unary_of op v) turns) (λ u turns. unaries_of ops u turns) (λ u turns. settled (unary_of x u) turns)

last_gives : (ops : List UnaryCode) (op : UnaryCode) (t u : SplType) → UnariesGive (ops ++ op ∷ []) t u → (r : SplType) × UnaryGives op t r × UnariesGive ops r u
last_gives [] op _ _ (F.outer _ _ _ _ u (F.no_unary t) gives) = (u, gives, F.no_unary u)
last_gives (x ∷ ops) op t _ (F.outer _ _ _ r u inner gives) = let is = last_gives ops op t r inner in (is.0, is.1, F.outer x ops is.0 r u is.2 gives)

module _ (ops : List UnaryCode) (at : ℕ) (d : UnaryCode) (within : at ≤ length ops) (some : 0 < at) where
  front : take at ops ≡ take (at - 1) ops ++ get_or ops (at - 1) d ∷ []
  front = let one : at ≡ (at - 1) + 1 = omega arith in ap (λ n. take n ops) one ∙ take_more ops (at - 1) d (omega arith)

  pub last_fits : (v : Value) → FitsUnaries (take at ops) v → FitsUnary (get_or ops (at - 1) d) v
  last_fits v h =
      let is = last_gives (take (at - 1) ops) (get_or ops (at - 1) d) h.0 h.1 (subst (λ (xs : List UnaryCode). UnariesGive xs h.0 h.1) front h.2) in
      (h.0, is.0, is.1, h.3)

  pub rest_fits : (v w : Value) → FitsUnaries (take at ops) v → unary_of (get_or ops (at - 1) d) v ≡ Gives w → FitsUnaries (take (at - 1) ops) w
  rest_fits v w h e =
      let is = last_gives (take (at - 1) ops) (get_or ops (at - 1) d) h.0 h.1 (subst (λ (xs : List UnaryCode). UnariesGive xs h.0 h.1) front h.2) in
      (is.0, h.1, is.2, unary_keeps (get_or ops (at - 1) d) h.0 is.0 v w is.1 h.3 e)

  pub applied : (v : Value) (turns : ℕ)
      → unaries_of (take at ops) v turns ≡ followed (settled (unary_of (get_or ops (at - 1) d) v) turns) (λ u turns. unaries_of (take (at - 1) ops) u turns)
  applied v turns = ap (λ xs. unaries_of xs v turns) front ∙ last_first (take (at - 1) ops) (get_or ops (at - 1) d) v turns

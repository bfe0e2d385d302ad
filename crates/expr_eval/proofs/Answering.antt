-- What is made of what evaluations answered, as outcomes are.
use Rattle.std.specs.Prelude.{◌≡◌, ◌⊎◌, ◌++◌, ◌∷◌, [], ℕ, zero, suc, List, Result, Ok, Err, MatchResult}
use Rattle.std.proofs.Common.{refl, sym, ap, ◌∙◌, subst, inl, inr}
use Rattle.spl_value.specs.declared.item.FaultKind.TheVariants as K
use Rattle.spl_value.specs.declared.value.Value.{Value}
use Rattle.spl_value.specs.Calls.{Gives}
use Rattle.spl_tree.specs.declared.body.Function.{Function}
use Rattle.spl_tree.specs.declared.code.Selector.{Selector}
use Rattle.language_model.specs.Changes.{step_of}
use Rattle.language_model.specs.Functions.{bodies_of}
use Rattle.language_model.specs.Outcomes.{Outcome, Done, Faulted, Stuck, followed, settled, enter}
use Rattle.value_operations.specs.declared.held.Held.{Held}
use Rattle.value_operations.specs.declared.stop.Stop.{Stop}
use Rattle.value_operations.specs.declared.stop.Stop.TheVariants as S
use Rattle.value_operations.specs.Answers.{StopsAs, SettlesHeld, held}
use Rattle.value_operations.proofs.Following.{followed_stops}
use Rattle.expr_eval.specs.steps.Answered.{Takes}

-- a step that was evaluated is taken as it would be
pub step_taken : (o : Outcome (Selector Value)) (r : Result Held Stop) (v : Value) (old new : List (Selector Value)) (turns : ℕ) (step : Selector Value) → o ≡ Done step turns
    → MatchResult r (λ h. (step_of step v ≡ Gives (held h)) × (new ≡ old ++ step ∷ [])) (λ stop. SettlesHeld (step_of step v) (Err stop)) → Takes o r v old new turns
step_taken o (Ok h) v old new turns step d m = (step, d, m.0, m.1)
step_taken o (Err (S.Fault kind)) v old new turns step d m =
    ap (λ o. followed o (λ step left. settled (step_of step v) left)) d ∙ ap (λ o. settled o turns) m
step_taken o (Err S.Memory) v old new turns step d m = tt

-- where a part stops, so does what goes on from there
pub stops_within : {A B C : Type 0} (o : Outcome A) (f : A → ℕ → Outcome B) (g : A → B → ℕ → Outcome C) (p : Stop) → StopsAs (followed o f) p
    → StopsAs (followed o (λ x turns. followed (f x turns) (g x))) p
stops_within (Done x turns) f g p h = followed_stops (f x turns) (g x) p h
stops_within (Faulted kind) f g (S.Fault k) h = let same : kind ≡ k = cc in ap (λ k. Faulted k) same
stops_within (Faulted kind) f g S.Memory h = tt
stops_within Stuck f g (S.Fault k) h = absurd cc
stops_within Stuck f g S.Memory h = tt

-- a turn that can't be taken, and a call that may not nest
pub no_call : (functions : List Function) (i : ℕ) (vs : List Value) (depth turns : ℕ) (stop : Stop) → stop ≡ S.Fault K.Turns → (turns ≡ 0) ⊎ (depth ≡ 0)
    → StopsAs (enter turns (λ turns. bodies_of functions depth i vs turns)) stop
no_call functions i vs depth turns stop is h = subst (StopsAs (enter turns (λ turns. bodies_of functions depth i vs turns))) (sym is) (by h) where
  at_none : (turns : ℕ) → enter turns (λ turns. bodies_of functions 0 i vs turns) ≡ Faulted K.Turns
  at_none zero = refl
  at_none (suc turns) = refl

  by : (turns ≡ 0) ⊎ (depth ≡ 0) → enter turns (λ turns. bodies_of functions depth i vs turns) ≡ Faulted K.Turns
  by (inl e) = ap (λ turns. enter turns (λ turns. bodies_of functions depth i vs turns)) e
  by (inr e) = ap (λ depth. enter turns (λ turns. bodies_of functions depth i vs turns)) e ∙ at_none turns

pub no_turn_begins : {A : Type 0} (turns : ℕ) (f : ℕ → Outcome A) (stop : Stop) → (stop ≡ S.Memory) ⊎ ((turns ≡ 0) × (stop ≡ S.Fault K.Turns)) → StopsAs (enter turns f) stop
no_turn_begins turns f stop (inl e) = subst (StopsAs (enter turns f)) (sym e) tt
no_turn_begins turns f stop (inr e) = subst (StopsAs (enter turns f)) (sym e.1) (ap (λ turns. enter turns f) e.0)

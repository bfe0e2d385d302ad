-- Codes and bodies that fit give what fits or a fault, and leave no more turns than there were.
use Rattle.std.specs.Prelude.{◌≡◌, ◌≤◌, ℕ, IsTrue}
use Rattle.std.proofs.Common.{refl}
use Rattle.spl_value.specs.declared.types.SplType.{SplType}
use Rattle.spl_value.specs.declared.value.Value.{Value}
use Rattle.spl_value.specs.Values.{fits}
use Rattle.language_model.specs.declared.env.Env.{Env}
use Rattle.language_model.specs.declared.scope.Scope.{Scope}
use Rattle.language_model.specs.BodyFits.{Purpose}
use Rattle.language_model.specs.Evaluation.{world_of}
use Rattle.language_model.specs.Functions.{value, runs}
use Rattle.language_model.specs.Outcomes.{Outcome, Done, Faulted, Stuck}
use Rattle.language_model.specs.Statements.{Left}
use Rattle.language_model.specs.WorldFits.{ComesTo, Leaves, LeftFits}
use Rattle.language_model.proofs.Calling.{never_stuck_law, body_leaves_law}
use Rattle.evaluation_laws.specs.OutcomeLaws.{EndsWithin, ValueNotStuckLaw, RunsNotStuckLaw}
use Rattle.evaluation_laws.proofs.TakenTurns.{value_turns_left, runs_turns_left}

-- an answer leaves no more
abbrev NoMore : {A : Type 0} → ℕ → Outcome A → Type 0
NoMore {A} turns o = (left : ℕ) (x : A) → o ≡ Done x left → left ≤ turns

value_ends : (t : SplType) (turns : ℕ) (o : Outcome Value) → ComesTo t o → NoMore turns o → EndsWithin (λ (v : Value). IsTrue (fits t v)) turns o
value_ends t turns (Done v left) h k = (h, k left v refl)
value_ends t turns (Faulted kind) h k = tt
value_ends t turns Stuck h k = h

runs_end : (purpose : Purpose) (scope : Scope) (env : Env) (turns : ℕ) (o : Outcome Left) → Leaves purpose scope env o → NoMore turns o → EndsWithin (LeftFits purpose scope env) turns o
runs_end purpose scope env turns (Done left rest) h k = (h, k rest left refl)
runs_end purpose scope env turns (Faulted kind) h k = tt
runs_end purpose scope env turns Stuck h k = h

pub value_not_stuck : ValueNotStuckLaw
value_not_stuck functions code env t h turns =
    value_ends t turns (value functions code (world_of env) turns) (never_stuck_law functions code env t h turns turns)
    (λ left v e. value_turns_left functions code (world_of env) turns left v e)

pub runs_not_stuck : RunsNotStuckLaw
runs_not_stuck functions row env purpose scope h turns =
    runs_end purpose scope env turns (runs functions row env turns) (body_leaves_law functions row env purpose scope h turns turns)
    (λ rest left e. runs_turns_left functions row env turns rest left e)

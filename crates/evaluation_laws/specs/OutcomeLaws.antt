-- What becomes of codes and bodies that fit: they give what fits or a fault, and no more turns are left than there were.
use Rattle.std.specs.Prelude.{◌≤◌, ℕ, IsTrue, List}
use Rattle.spl_value.specs.declared.types.SplType.{SplType}
use Rattle.spl_value.specs.declared.value.Value.{Value}
use Rattle.spl_value.specs.Values.{fits}
use Rattle.spl_tree.specs.declared.body.Function.{Function}
use Rattle.spl_tree.specs.declared.body.Statement.{Statement}
use Rattle.spl_tree.specs.declared.code.Code.{Code}
use Rattle.spl_tree.specs.declared.code.Slot.{Slot}
use Rattle.language_model.specs.declared.env.Env.{Env}
use Rattle.language_model.specs.declared.scope.Scope.{Scope}
use Rattle.language_model.specs.BodyFits.{Purpose}
use Rattle.language_model.specs.Evaluation.{world_of}
use Rattle.language_model.specs.Functions.{value, runs}
use Rattle.language_model.specs.Outcomes.{Outcome, Done, Faulted, Stuck}
use Rattle.language_model.specs.WorldFits.{BodyFits, Fits, LeftFits}

-- an answer that has the fact, with no more turns than these left, or a fault
abbrev pub EndsWithin : {A : Type 0} → (A → Type 0) → ℕ → Outcome A → Type 0
EndsWithin P turns (Done x left) = P x × (left ≤ turns)
EndsWithin P turns (Faulted kind) = Unit {0}
EndsWithin P turns Stuck = ⊥

-- a code that fits gives a value of its type, or a fault
abbrev pub ValueNotStuckLaw : Type 0
ValueNotStuckLaw = (functions : List Function) (code : Code Slot) (env : Env) (t : SplType) → Fits functions code env t
    → (turns : ℕ) → EndsWithin (λ (v : Value). IsTrue (fits t v)) turns (value functions code (world_of env) turns)

-- a body that fits leaves what fits, or ends with a fault
abbrev pub RunsNotStuckLaw : Type 0
RunsNotStuckLaw = (functions : List Function) (row : List Statement) (env : Env) (purpose : Purpose) (scope : Scope)
    → BodyFits functions row env purpose scope → (turns : ℕ) → EndsWithin (LeftFits purpose scope env) turns (runs functions row env turns)

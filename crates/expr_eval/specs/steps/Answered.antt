-- What is made of what evaluations answered.
use Rattle.std.specs.Prelude.{◌≡◌, ◌⊎◌, ℕ, suc, IsTrue, List, [], ◌∷◌, ◌++◌, Option, None, Some, Result, Ok, Err}
use Rattle.spl_value.specs.declared.item.FaultKind.TheVariants as K
use Rattle.spl_value.specs.declared.value.Value.{Value}
use Rattle.spl_value.specs.Calls.{Gives}
use Rattle.spl_value.specs.Pairs.{are_pairs, pairs_put}
use Rattle.spl_tree.specs.declared.code.Selector.{Selector}
use Rattle.language_model.specs.declared.env.Env.{Env}
use Rattle.language_model.specs.declared.flow.Flow.{Flow}
use Rattle.language_model.specs.Changes.{step_of}
use Rattle.language_model.specs.Functions.{function_env}
use Rattle.language_model.specs.Outcomes.{Outcome, Done, followed, settled}
use Rattle.language_model.specs.Statements.{returned_by}
use Rattle.value_operations.specs.declared.held.Held.{Held}
use Rattle.value_operations.specs.declared.stop.Stop.{Stop}
use Rattle.value_operations.specs.declared.stop.Stop.TheVariants as S
use Rattle.value_operations.specs.Answers.{StopsAs, held}
use Rattle.expr_eval.specs.Running.{EndsRow, EndsLoop}

-- it is added after the others
abbrev pub Adds : {A : Type 0} → Outcome A → Result (Unit {0}) Stop → List A → List A → ℕ → Type 0
Adds {A} outcome (Ok u) old new turns = (x : A) × (outcome ≡ Done x turns) × (new ≡ old ++ x ∷ [])
Adds outcome (Err stop) old new turns = StopsAs outcome stop

-- it is put at a key of a map
abbrev pub Puts : Outcome Value → Result (Unit {0}) Stop → Value → List (Value × Value) → List (Value × Value) → ℕ → Type 0
Puts outcome (Ok u) key old new turns = (v : Value) × (outcome ≡ Done v turns) × (new ≡ pairs_put old key v) × IsTrue (are_pairs new)
Puts outcome (Err stop) key old new turns = StopsAs outcome stop

-- as a step it is taken of a value, and added after those that were taken
abbrev pub Takes : Outcome (Selector Value) → Result Held Stop → Value → List (Selector Value) → List (Selector Value) → ℕ → Type 0
Takes outcome (Ok h) v old new turns = (step : Selector Value) × (outcome ≡ Done step turns) × (step_of step v ≡ Gives (held h)) × (new ≡ old ++ step ∷ [])
Takes outcome (Err stop) v old new turns = StopsAs (followed outcome (λ step left. settled (step_of step v) left)) stop

-- a turn is taken, and there is one more variable, which has the value
abbrev pub Begins : Result (Unit {0}) Stop → Value → Env → Env → ℕ → ℕ → Type 0
Begins (Ok u) v old new turns left = (turns ≡ suc left) × (new ≡ record { inputs = old.inputs; vars = old.vars ++ v ∷ []; punct = old.punct })
Begins (Err stop) v old new turns left = (new ≡ old) × ((stop ≡ S.Memory) ⊎ ((turns ≡ 0) × (stop ≡ S.Fault K.Turns)))

-- a turn is taken, and a call is left, for the environment of the call
abbrev pub Enters : Result Env Stop → List Value → ℕ → ℕ → ℕ → Type 0
Enters (Ok env) values depth turns left = (turns ≡ suc left) × (depth ≡ 0 → ⊥) × (env ≡ function_env values)
Enters (Err stop) values depth turns left = (stop ≡ S.Fault K.Turns) × ((turns ≡ 0) ⊎ (depth ≡ 0))

-- what the flow with which a body ends returns
abbrev pub Returned : Result Flow Stop → Result (Option Value) Stop → Type 0
Returned answer (Ok r) = (flow : Flow) × (answer ≡ Ok flow) × (returned_by flow ≡ Some r)
Returned answer (Err stop) = answer ≡ Err stop

-- a row ends with what a statement answered, or goes on
abbrev pub RowGoes : Result Flow Stop → Option (Result Flow Stop) → Type 0
RowGoes answer None = (flow : Flow) × (answer ≡ Ok flow) × EndsRow flow None
RowGoes answer (Some (Ok end)) = (flow : Flow) × (answer ≡ Ok flow) × EndsRow flow (Some end)
RowGoes answer (Some (Err stop)) = answer ≡ Err stop

-- a loop ends with what a turn answered, or goes on
abbrev pub LoopGoes : Result Flow Stop → Option (Result Flow Stop) → Type 0
LoopGoes answer None = (flow : Flow) × (answer ≡ Ok flow) × EndsLoop flow None
LoopGoes answer (Some (Ok end)) = (flow : Flow) × (answer ≡ Ok flow) × EndsLoop flow (Some end)
LoopGoes answer (Some (Err stop)) = answer ≡ Err stop

-- What the evaluation of arguments answers.
use Rattle.std.specs.Prelude.{◌≡◌, ℕ, List, map, Option, Result, Ok, Err}
use Rattle.spl_value.specs.declared.value.Value.{Value}
use Rattle.language_model.specs.Outcomes.{Outcome, Done}
use Rattle.value_operations.specs.declared.stop.Stop.{Stop}
use Rattle.value_operations.specs.Answers.{StopsAs}
use Rattle.aggregate_op.specs.Arguments.{blank}

-- the values of the outcome
abbrev pub EvaluatesTo : Outcome (List (Option Value)) → Result (List Value) Stop → Type 0
EvaluatesTo outcome (Ok values) = (args : List (Option Value)) × (turns : ℕ) × (outcome ≡ Done args turns) × (values ≡ map blank args)
EvaluatesTo outcome (Err stop) = StopsAs outcome stop

-- a tuple, and these values
abbrev pub HasArguments : Outcome (List (Option Value)) → List Value → Result (List Value × List Value) Stop → Type 0
HasArguments outcome t (Ok p) = (args : List (Option Value)) × (turns : ℕ) × (outcome ≡ Done args turns) × (p.0 ≡ t) × (p.1 ≡ map blank args)
HasArguments outcome t (Err stop) = StopsAs outcome stop

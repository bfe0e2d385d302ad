use Rattle.std.proofs.Common.{◌≡◌, ℕ, ◌≤◌, length, take}
use Rattle.language_model.specs.Evaluation.{unaries_of}
use Rattle.value_operations.specs.Answers.{held}
use Rattle.value_operations.specs.Fitting.{FitsUnaries}
use Rattle.value_operations.proofs.operators.unaries_of.Given as goal

abbrev pub invariant-operators : goal.invariant-operators
invariant-operators l =
    (l.at ≤ length l.operators)
    × FitsUnaries (take l.at l.operators) (held l.value)
    × ((turns : ℕ) → unaries_of l.operators (held l.fn.operand) turns ≡ unaries_of (take l.at l.operators) (held l.value) turns)

abbrev pub decreases-operators : goal.decreases-operators
decreases-operators l = l.at

use Rattle.std.proofs.Common.{◌≡◌, drop}
use Rattle.language_model.specs.Evaluation.{field_at}
use Rattle.aggregate_op.specs.steps.Summing.{fields_of}
use Rattle.aggregate_op.proofs.sums.attribute_of.Given as goal

-- what is left gets the attribute as all assignments do
abbrev pub invariant-loop-k : goal.invariant-loop-k
invariant-loop-k l = field_at l.attribute (fields_of (drop l.k l.output) (drop l.k l.answers)) ≡ field_at l.attribute (fields_of l.output l.answers)

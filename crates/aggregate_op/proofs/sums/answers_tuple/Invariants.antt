use Rattle.std.proofs.Common.{◌≡◌, ◌-◌, ◌++◌, List, Some, length}
use Rattle.std.specs.Option.{option_map}
use Rattle.spl_value.specs.declared.value.Value.{Value}
use Rattle.language_model.specs.Evaluation.{tuple_from}
use Rattle.aggregate_op.specs.steps.Summing.{fields_of, tuple_with}
use Rattle.aggregate_op.proofs.sums.answers_tuple.Given as goal

-- the values so far and those of the attributes that are left are the tuple's
abbrev pub invariant-loop-attribute : goal.invariant-loop-attribute
invariant-loop-attribute l = (vs : List Value) → tuple_with l.output l.answers ≡ Some vs
    → option_map (λ more. l.values ++ more) (tuple_from l.attribute (length l.output - l.attribute) (fields_of l.output l.answers)) ≡ Some vs

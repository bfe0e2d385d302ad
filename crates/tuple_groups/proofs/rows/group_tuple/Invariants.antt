use Rattle.std.proofs.Common.{◌≡◌, ◌-◌, ◌++◌, ℕ, List, Some, length}
use Rattle.std.specs.Option.{option_map}
use Rattle.spl_value.specs.declared.value.Value.{Value}
use Rattle.language_model.specs.Evaluation.{tuple_from}
use Rattle.tuple_groups.specs.Columns.{fields_at, tuple_at}
use Rattle.tuple_groups.specs.Seen.{seen}
use Rattle.tuple_groups.proofs.rows.group_tuple.Given as goal

-- the values so far and those of the attributes that are left are the tuple's
abbrev pub invariant-loop-attribute : goal.invariant-loop-attribute
invariant-loop-attribute l = (vs : List Value) → tuple_at l.width l.output (seen l.tuples) ≡ Some vs
    → (fs : List (ℕ × Value)) × (fields_at l.width l.output (seen l.tuples) ≡ Some fs)
    × (option_map (λ more. l.values ++ more) (tuple_from l.attribute (length l.output - l.attribute) fs) ≡ Some vs)

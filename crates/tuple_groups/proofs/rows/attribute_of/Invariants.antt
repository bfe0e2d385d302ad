use Rattle.std.proofs.Common.{◌≡◌, ◌+◌, ℕ, List, Some, drop}
use Rattle.spl_value.specs.declared.value.Value.{Value}
use Rattle.language_model.specs.Evaluation.{field_at}
use Rattle.tuple_groups.specs.Columns.{fields_at}
use Rattle.tuple_groups.specs.Seen.{seen}
use Rattle.tuple_groups.proofs.rows.attribute_of.Given as goal

-- what is left gets the attribute as all assignments do
abbrev pub invariant-loop-k : goal.invariant-loop-k
invariant-loop-k l = (fs : List (ℕ × Value)) → fields_at l.width l.output (seen l.tuples) ≡ Some fs
    → (gs : List (ℕ × Value)) × (fields_at (l.width + l.k) (drop l.k l.output) (seen l.tuples) ≡ Some gs) × (field_at l.attribute gs ≡ field_at l.attribute fs)

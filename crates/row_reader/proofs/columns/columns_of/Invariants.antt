use Rattle.std.proofs.Common.{◌≡◌, map, take}
use Rattle.row_reader.specs.Columns.{type_of}
use Rattle.row_reader.proofs.columns.columns_of.Given as goal

abbrev pub invariant-loop-attribute : goal.invariant-loop-attribute
invariant-loop-attribute l = map type_of l.columns.items ≡ map (λ a. a.kind) (take l.attribute-index l.schema)

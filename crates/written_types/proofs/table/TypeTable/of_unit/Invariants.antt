use Rattle.std.proofs.Common.{◌≡◌, map, take}
use Rattle.language_model.specs.TypeNames.{type_definitions}
use Rattle.written_types.proofs.table.TypeTable.of_unit.Given as goal

abbrev pub invariant-loop-definition : goal.invariant-loop-definition
invariant-loop-definition l = map (λ d. d.now) l.list.items ≡ type_definitions (take l.definition-index l.definition-items)

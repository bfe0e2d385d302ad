use Rattle.std.proofs.Common.{◌≡◌, map, take}
use Rattle.written_types.proofs.table.TypeTable.of_composite.Given as goal

abbrev pub invariant-loop-definition : goal.invariant-loop-definition
invariant-loop-definition l = map (λ d. d.now) l.list.items ≡ take l.definition-index l.definition-items

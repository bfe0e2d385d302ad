use Rattle.std.proofs.Common.{◌≡◌, ◌++◌}
use Rattle.stream_numbering.specs.steps.StreamTable.{ops_in}
use Rattle.stream_numbering.proofs.operators.ops_of.Given as goal

abbrev pub invariant-operations : goal.invariant-operations
invariant-operations l = l.ops ++ ops_in l.table l.first l.operation-iterator.rest.items ≡ ops_in l.table 0 l.fn.operations

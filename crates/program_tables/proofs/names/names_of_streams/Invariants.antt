use Rattle.std.proofs.Common.{flat_map, map, take}
use Rattle.program_tables.specs.Names.{HoldsNames}
use Rattle.program_tables.proofs.names.names_of_streams.Given as goal

abbrev pub invariant-loop-invocation : goal.invariant-loop-invocation
invariant-loop-invocation l = HoldsNames l.names (flat_map (λ i. map (λ o. o.name.what) i.outputs) (take l.invocation-index l.graph))

use Rattle.std.proofs.Common.{◌≡◌, ◌++◌, ◌-◌, Some}
use Rattle.pe_fusion.specs.Shapes.{replica_elements}
use Rattle.pe_fusion.proofs.elements.add_replicas.Given as goal

abbrev pub invariant-loop-channel : goal.invariant-loop-channel
invariant-loop-channel l =
    l.elements ++ replica_elements (Some l.region.region) l.ids l.channel (l.region.width - l.channel)
    ≡ l.fn.elements ++ replica_elements (Some l.region.region) l.ids 0 l.region.width

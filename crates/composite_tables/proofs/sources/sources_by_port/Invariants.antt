use Rattle.std.proofs.Common.{◌≡◌, List, flat_map, map, take}
use Rattle.language_model.specs.Expansion.{Inlined, sources_of}
use Rattle.composite_tables.specs.Inputs.{AreKept}
use Rattle.composite_tables.proofs.sources.sources_by_port.Given as goal

abbrev pub invariant-loop-port : goal.invariant-loop-port
invariant-loop-port l = (xs : List Inlined) → AreKept l.composites.unit.now l.bodies l.rows xs
    → l.ports ≡ map (λ q. flat_map (λ n. sources_of xs l.number n.what) q.streams) (take l.port-index l.port-items)

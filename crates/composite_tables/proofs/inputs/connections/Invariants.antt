use Rattle.std.proofs.Common.{◌≡◌, ◌^◌, List, length, map, flat_map, take, min}
use Rattle.std.specs.List.{sum_by}
use Rattle.language_model.specs.Expansion.{Inlined, sources_of}
use Rattle.composite_tables.specs.Inputs.{IsBody}
use Rattle.composite_tables.proofs.inputs.connections.Given as goal

abbrev pub invariant-loop-port : goal.invariant-loop-port
invariant-loop-port l = (xs : List Inlined) → IsBody xs l.number l.scope.composite.now l.row
    → l.count ≡ min (sum_by length (map (λ q. flat_map (λ n. sources_of xs l.number n.what) q.streams) (take l.port-index l.port-items))) (2 ^ 30)

-- The replicas of a region give what its chain gives.
use Rattle.std.specs.Prelude.{◌≡◌, ◌<◌, ℕ, true, false, List, Some, slice_get}
use Rattle.std.specs.List.{AllByRecursion}
use Rattle.spl_value.specs.declared.item.Item.{Item}
use Rattle.spl_value.specs.Numbered.{by_number}
use Rattle.language_model.specs.CheckedGraph.{CheckedGraph}
use Rattle.language_model.specs.Keeping.{Keeps}
use Rattle.stream_model.specs.declared.plan.Region.{Region}
use Rattle.stream_model.specs.CheckedMeaning.{graph_of}
use Rattle.stream_model.specs.Meaning.{Graph}
use Rattle.stream_model.specs.Operators.{Operator}
use Rattle.stream_model.specs.PortLaws.{has_connections}
use Rattle.stream_model.specs.Regions.{IsPlan, chain_key, is_safe, ops_of, routing_by, width_of}
use Rattle.stream_model.specs.Stages.{chain}
use Rattle.stream_model.specs.Stream.{is_empty}
use Rattle.stream_model.specs.Replicas.{replicas}

-- what the replicas of a safe chain give for a stream, merged by number, is what the chain gives, whatever the stream
-- and the width, faults included
abbrev pub ChainLaw : Type 0
ChainLaw = (g : Graph) (ops : List Operator) (width : ℕ) (items : List Item) → is_safe g ops ≡ true
    → AllByRecursion (λ op. has_connections op ≡ true) ops → is_empty ops ≡ false → 0 < width
    → by_number (replicas ops (routing_by (chain_key ops)) width items) ≡ chain ops items

-- so it is of each region of the plan of a checked program, by the width of the run
abbrev pub RegionLaw : Type 0
RegionLaw = (c : CheckedGraph) (plan : List Region) (i : ℕ) (region : Region) (width : ℕ) (items : List Item) → Keeps c
    → IsPlan (graph_of c) plan → slice_get plan i ≡ Some region → 0 < width_of region width
    → by_number (replicas (ops_of (graph_of c) region.ops) (routing_by region.key) (width_of region width) items)
    ≡ chain (ops_of (graph_of c) region.ops) items

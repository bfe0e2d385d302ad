-- What the mergers of a plan know, and what the operators of its replicas keep.
use Rattle.std.specs.Prelude.{◌≡◌, ◌<◌, ◌==◌, ℕ, false, true, List, [], ◌∷◌, ◌++◌, Some, map, slice_get, if◌then◌else◌}
use Rattle.spl_value.specs.Key.{key_of}
use Rattle.spl_value.specs.declared.item.Item.{Item}
use Rattle.spl_value.specs.declared.item.Item.TheVariants as I
use Rattle.spl_value.specs.declared.packet.Packet.{Packet}
use Rattle.spl_value.specs.declared.routing.Routing.TheVariants.{Key}
use Rattle.spl_value.specs.declared.value.Value.{Value}
use Rattle.spl_value.specs.Numbered.{InOrder, IsPrefix, cut, merged}
use Rattle.spl_value.specs.Route.{part, route}
use Rattle.language_model.specs.CheckedGraph.{CheckedGraph}
use Rattle.language_model.specs.Keeping.{Keeps}
use Rattle.stream_model.specs.declared.plan.Region.{Region}
use Rattle.stream_model.specs.declared.plan.StateKind.TheVariants as K
use Rattle.stream_model.specs.CheckedMeaning.{graph_of}
use Rattle.stream_model.specs.Operators.{Operator}
use Rattle.stream_model.specs.Regions.{IsPlan, has_pulses, ops_of, routing_by, rule_of, tuples_of_key, width_of}
use Rattle.stream_model.specs.Replicas.{replica}
use Rattle.stream_model.specs.Sending.{on_output, replies, splits}
use Rattle.stream_model.specs.Stages.{chain, start}
use Rattle.stream_model.specs.StateKinds.{state_of}
use Rattle.stream_model.specs.Stream.{any_closes}
use Rattle.channel_heads.specs.FrontLaws.{AreFronts}
use Rattle.region_laws.specs.ReplicaState.{HasRegionKey, history, without_numbers}

-- what the splitter of a region sends on a channel for a stream, by the width of the run
abbrev pub region_sends : Region → ℕ → List Item → ℕ → List Packet
region_sends region width items c =
    on_output c (splits (routing_by region.key) (width_of region width) (has_pulses (rule_of region.merge)) 0 items)

-- Whatever the replicas of a region of a checked program's plan have taken of what its splitter sends for a stream, and
-- its merger of what they send: the merger's packets are in order, and what it knows is a front of what the region's
-- chain gives for the stream up to its end.
abbrev pub PlanFrontLaw : Type 0
PlanFrontLaw = (c : CheckedGraph) (plan : List Region) (i : ℕ) (region : Region) (width : ℕ) (items : List Item)
    (came went : ℕ → List Packet) → Keeps c → IsPlan (graph_of c) plan → slice_get plan i ≡ Some region
    → 0 < width_of region width → AreFronts (width_of region width) came (region_sends region width items)
    → AreFronts (width_of region width) went (λ d. replies (map start (ops_of (graph_of c) region.ops)) (came d))
    → InOrder (rule_of region.merge) (width_of region width) went
    × IsPrefix (merged (rule_of region.merge) (width_of region width) went)
    (chain (ops_of (graph_of c) region.ops) (cut items))

-- It is all of that where the stream has come to its end and all was taken.
abbrev pub PlanWholeLaw : Type 0
PlanWholeLaw = (c : CheckedGraph) (plan : List Region) (i : ℕ) (region : Region) (width : ℕ) (items : List Item)
    → Keeps c → IsPlan (graph_of c) plan → slice_get plan i ≡ Some region → 0 < width_of region width
    → any_closes items ≡ true
    → merged (rule_of region.merge) (width_of region width)
    (λ d. replies (map start (ops_of (graph_of c) region.ops)) (region_sends region width items d))
    ≡ chain (ops_of (graph_of c) region.ops) (cut items)

-- ---- what the operators of a plan's replicas keep

-- of a Keyed operator of a region of a checked program's plan, as of one of a safe chain
abbrev pub PlanStateLaw : Type 0
PlanStateLaw = (c : CheckedGraph) (plan : List Region) (i : ℕ) (region : Region) (before after : List Operator)
    (op : Operator) (places : List ℕ) (width d : ℕ) (items : List Item) (vs us : List Value) → Keeps c
    → IsPlan (graph_of c) plan → slice_get plan i ≡ Some region → 0 < width_of region width
    → ops_of (graph_of c) region.ops ≡ before ++ op ∷ after → state_of op ≡ K.Keyed places
    → any_closes (chain (before ++ op ∷ after) items) ≡ false → HasRegionKey before region.key vs us
    → tuples_of_key places (key_of us places)
    (history (without_numbers (replica before (part (Key region.key) (width_of region width) items d))))
    ≡ (if route (Key region.key) (width_of region width) 0 (I.Tuple vs) == d
    then tuples_of_key places (key_of us places) (history (chain before items)) else [])

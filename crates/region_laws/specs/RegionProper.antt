-- What stands on the links inside a region: what its splitter sends is proper for the stream that enters, and what its
-- replicas send is for the stream that leaves. The key's places are attributes of a type that keys may have.
use Rattle.std.specs.Prelude.{◌≡◌, ◌<◌, ℕ, true, IsTrue, List, [], ◌∷◌, Some, map, slice_get}
use Rattle.std.specs.List.{list_all}
use Rattle.spl_value.specs.declared.item.Item.{Item}
use Rattle.spl_value.specs.declared.types.Named.{Named}
use Rattle.spl_value.specs.declared.types.SplType.{SplType}
use Rattle.spl_value.specs.declared.value.Value.{Value}
use Rattle.spl_value.specs.Key.{are_key_places, is_key_type}
use Rattle.spl_value.specs.Numbered.{IsProper, item_fits}
use Rattle.spl_value.specs.Values.{tuple_fits}
use Rattle.language_model.specs.CheckedGraph.{CheckedGraph}
use Rattle.language_model.specs.Keeping.{Keeps}
use Rattle.language_model.specs.StreamTypes.{Attributes}
use Rattle.stream_model.specs.declared.plan.Region.{Region}
use Rattle.stream_model.specs.CheckedMeaning.{graph_of}
use Rattle.stream_model.specs.Operators.{Operator, input_attributes, output_attributes}
use Rattle.stream_model.specs.Regions.{IsPlan, ops_of, width_of}
use Rattle.stream_model.specs.Sending.{replies}
use Rattle.stream_model.specs.Stages.{start}
use Rattle.region_laws.specs.PlanFronts.{region_sends}

-- the attributes of the stream that a chain reads, and of the one that it makes
abbrev pub entry_schema : List Operator → Attributes
entry_schema [] = []
entry_schema (op ∷ ops) = input_attributes op 0

abbrev pub exit_schema : List Operator → Attributes
exit_schema [] = []
exit_schema (op ∷ []) = output_attributes op 0
exit_schema (op ∷ next ∷ ops) = exit_schema (next ∷ ops)

-- of each region of a checked program's plan, and each stream with the attributes that the region's chain reads
abbrev pub ProperLaw : Type 0
ProperLaw = (c : CheckedGraph) (plan : List Region) (i : ℕ) (region : Region) (width d : ℕ) (items : List Item)
    → Keeps c → IsPlan (graph_of c) plan → slice_get plan i ≡ Some region → d < width_of region width
    → list_all (item_fits (entry_schema (ops_of (graph_of c) region.ops))) items ≡ true
    → IsProper (entry_schema (ops_of (graph_of c) region.ops)) (region_sends region width items d)
    × IsProper (exit_schema (ops_of (graph_of c) region.ops))
    (replies (map start (ops_of (graph_of c) region.ops)) (region_sends region width items d))

-- Each place of a region's key is an attribute of the stream that the region reads, of a type that keys may have.
abbrev pub KeyPlacesLaw : Type 0
KeyPlacesLaw = (c : CheckedGraph) (plan : List Region) (i : ℕ) (region : Region) (k p : ℕ) → Keeps c
    → IsPlan (graph_of c) plan → slice_get plan i ≡ Some region → slice_get region.key k ≡ Some p
    → (a : Named SplType) × (slice_get (entry_schema (ops_of (graph_of c) region.ops)) p ≡ Some a)
    × IsTrue (is_key_type a.kind)

-- So a tuple with the attributes of that stream has a key.
abbrev pub HasKeyLaw : Type 0
HasKeyLaw = (c : CheckedGraph) (plan : List Region) (i : ℕ) (region : Region) (vs : List Value) → Keeps c
    → IsPlan (graph_of c) plan → slice_get plan i ≡ Some region → IsTrue (tuple_fits (entry_schema (ops_of (graph_of c) region.ops)) vs)
    → IsTrue (are_key_places vs region.key)

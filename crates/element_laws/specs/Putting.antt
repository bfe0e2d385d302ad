-- What an element puts on an output is proper for the attributes there, where what it took is proper at its inputs.
use Rattle.std.specs.Prelude.{ℕ, ◌≡◌, ◌<◌, ◌≤◌, true, List, [], Some, slice_get}
use Rattle.spl_value.specs.declared.value.Value.{Value}
use Rattle.spl_value.specs.Numbered.{IsProper}
use Rattle.language_model.specs.CheckedGraph.{CheckedGraph}
use Rattle.language_model.specs.Keeping.{Keeps}
use Rattle.language_model.specs.StreamTypes.{Attributes}
use Rattle.stream_model.specs.declared.plan.Region.{Region}
use Rattle.stream_model.specs.declared.shape.ShapeElement.{ShapeElement}
use Rattle.stream_model.specs.CheckedMeaning.{graph_of}
use Rattle.stream_model.specs.Operators.{Operator, output_attributes}
use Rattle.stream_model.specs.Regions.{IsPlan}
use Rattle.stream_model.specs.Sending.{on_output}
use Rattle.stream_model.specs.Stream.{Event, TuplesFit}
use Rattle.network_model.specs.ElementRule.{KeepsRule}
use Rattle.network_model.specs.Networks.{Part, FromSource, FromLinks, Splitter, Replica, Merger, inputs, outputs}
use Rattle.network_model.specs.OutputSchemas.{SchemaOn}
use Rattle.network_model.specs.Packets.{is_stream}
use Rattle.network_model.specs.PartLaws.{Merges}
use Rattle.network_model.specs.Receipts.{Receipt, popped, read_in}
use Rattle.network_model.specs.States.{At, all_taken}
use Rattle.pe_fusion.specs.ElementPorts.{ports_of}
use Rattle.pe_fusion.specs.FusedNets.{fused_net}
use Rattle.pe_fusion.specs.Shapes.{shape_of}
use Rattle.elements.specs.declared.element.Element.{Element}
use Rattle.elements.specs.Standing.{IsAt, schemas_of}

-- the tuples that a source gave have its attributes, and nothing follows an item that closes
abbrev pub RowsFit : Part → List Receipt → Type 0
RowsFit (FromSource source ops outs) receipts =
    (is_stream (read_in receipts) ≡ true) × TuplesFit (output_attributes source 0) (read_in receipts)
RowsFit (FromLinks op ops outs) receipts = Unit {0}
RowsFit (Splitter region) receipts = Unit {0}
RowsFit (Replica region channel) receipts = Unit {0}
RowsFit (Merger region outs) receipts = Unit {0}

-- packets came at its inputs, proper for the attributes there, and those of a merger in order
pub record TookProper (part : Part) (ins : List Attributes) (receipts : List Receipt) : Type 0 where
  pub proper : (i : ℕ) (schema : Attributes) → slice_get ins i ≡ Some schema → IsProper schema (popped i receipts)
  pub in_range : (i : ℕ) → inputs part ≤ i → popped i receipts ≡ []
  pub rows : RowsFit part receipts
  pub merges : Merges part receipts

-- what an element owes for such packets is proper on each output
abbrev pub OwesLaw : Type 0
OwesLaw = (c : CheckedGraph) (plan : List Region) (width n capacity : ℕ) (e : ShapeElement) (a : At) → Keeps c
    → IsPlan (graph_of c) plan → slice_get (shape_of (graph_of c) plan width).elements n ≡ Some e
    → KeepsRule ((fused_net (graph_of c) plan width capacity).part n) a
    → TookProper ((fused_net (graph_of c) plan width capacity).part n) (ports_of c plan width e).ins a.kept
    → (o : ℕ) (schema : Attributes) → o < outputs ((fused_net (graph_of c) plan width capacity).part n)
    → SchemaOn c ((fused_net (graph_of c) plan width capacity).part n) o schema
    → IsProper schema (on_output o a.pushed)

-- so is what an element puts, which takes nothing else at its inputs
abbrev pub PutsLaw : {R : Type 0} (spec : R → Operator) (stands : R → List Event → Type 0) → Type 0
PutsLaw {R = R} spec stands = (c : CheckedGraph) (plan : List Region) (width n capacity : ℕ) (e : ShapeElement) (element : Element R)
    (a : At) (poured : List (List Value)) → Keeps c → IsPlan (graph_of c) plan
    → slice_get (shape_of (graph_of c) plan width).elements n ≡ Some e
    → schemas_of element ≡ (ports_of c plan width e).ins
    → IsAt spec stands ((fused_net (graph_of c) plan width capacity).part n) element a poured
    → ((i : ℕ) → inputs ((fused_net (graph_of c) plan width capacity).part n) ≤ i → popped i (all_taken a) ≡ [])
    → RowsFit ((fused_net (graph_of c) plan width capacity).part n) a.kept
    → Merges ((fused_net (graph_of c) plan width capacity).part n) a.kept
    → (o : ℕ) (schema : Attributes) → o < outputs ((fused_net (graph_of c) plan width capacity).part n)
    → SchemaOn c ((fused_net (graph_of c) plan width capacity).part n) o schema
    → IsProper schema (on_output o a.pushed)

-- The inputs and outputs of an element: the attributes at each input, how many connections each output port of its last operator has, and the
-- attributes of the rows that it reads.
use Rattle.std.specs.Prelude.{ℕ, List, [], ◌∷◌, map, length, replicate, if◌then◌else◌, Option, None, Some, slice_get}
use Rattle.std.specs.List.{concat}
use Rattle.std.specs.Option.{option_and_then, option_map_or}
use Rattle.spl_tree.specs.declared.graph.Op.{Op}
use Rattle.language_model.specs.declared.checked.CheckedClauses.{CheckedClauses}
use Rattle.language_model.specs.CheckedGraph.{CheckedGraph}
use Rattle.language_model.specs.StreamTypes.{Attributes}
use Rattle.stream_model.specs.declared.plan.Region.{Region}
use Rattle.stream_model.specs.declared.shape.Role.{Role}
use Rattle.stream_model.specs.declared.shape.Role.TheVariants as L
use Rattle.stream_model.specs.declared.shape.ShapeElement.{ShapeElement}
use Rattle.stream_model.specs.CheckedMeaning.{graph_of, schema_at}
use Rattle.stream_model.specs.Regions.{width_of}
use Rattle.network_model.specs.Wiring.{is_source}
use Rattle.pe_fusion.specs.declared.ports.ElementPorts.{ElementPorts}
use Rattle.pe_fusion.specs.FusedNets.{first_stream}
use Rattle.pe_fusion.specs.Readers.{readers}
use Rattle.pe_fusion.specs.steps.Building.{last_outs}

-- the streams of each input port of the first of these operators
abbrev pub first_ins : List Op → List ℕ → List (List ℕ)
first_ins ops ids = option_map_or (λ (op : Op). op.ins) (option_and_then (slice_get ops) (slice_get ids 0)) []

-- the number of channels of a region of the plan
abbrev pub channels_of : List Region → ℕ → Option ℕ → ℕ
channels_of plan width None = 0
channels_of plan width (Some i) = option_map_or (λ (r : Region). width_of r width) (slice_get plan i) 0

-- what the first operator reads, by port and then by place within the port
abbrev pub read_schemas : CheckedGraph → List ℕ → List Attributes
read_schemas c ids = map (schema_at c) (concat (first_ins c.graph.ops ids))

-- a merger has for each channel the stream that the last operator makes
abbrev pub ins_by : CheckedGraph → Role → ℕ → List ℕ → List Attributes
ins_by c L.Chain width ids = read_schemas c ids
ins_by c L.Splitter width ids = read_schemas c ids
ins_by c (L.Replica channel) width ids = read_schemas c ids
ins_by c L.Merger width ids = replicate width (schema_at c (first_stream (last_outs c.graph.ops ids)))

-- how many connections the stream of each output port of the last operator has
abbrev pub connections_of_outs : CheckedGraph → List ℕ → List ℕ
connections_of_outs c ids = map (λ s. length (readers (graph_of c) s)) (last_outs c.graph.ops ids)

-- a splitter has one output for each channel, and a replica one
abbrev pub fans_by : CheckedGraph → Role → ℕ → List ℕ → List ℕ
fans_by c L.Chain width ids = connections_of_outs c ids
fans_by c L.Splitter width ids = replicate width 1
fans_by c (L.Replica channel) width ids = 1 ∷ []
fans_by c L.Merger width ids = connections_of_outs c ids

-- the stream of a source, and of no other operator
abbrev pub rows_stream : CheckedClauses → List ℕ → Option ℕ
rows_stream part outs = if is_source part then Some (first_stream outs) else None

abbrev pub source_stream : CheckedGraph → ℕ → Option ℕ
source_stream c n =
    option_and_then (λ (part : CheckedClauses). option_and_then (λ (op : Op). rows_stream part op.outs) (slice_get c.graph.ops n)) (slice_get c.parts n)

abbrev pub schema_of : CheckedGraph → Option ℕ → Option Attributes
schema_of c None = None
schema_of c (Some s) = Some (schema_at c s)

abbrev pub source_of : CheckedGraph → List ℕ → Option Attributes
source_of c ids = schema_of c (option_and_then (source_stream c) (slice_get ids 0))

abbrev pub ports_of : CheckedGraph → List Region → ℕ → ShapeElement → ElementPorts
ports_of c plan width e = record {
  ids = e.ids;
  ins = ins_by c e.role (channels_of plan width e.region) e.ids;
  fans = fans_by c e.role (channels_of plan width e.region) e.ids;
  source = source_of c e.ids;
}

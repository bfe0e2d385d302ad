-- The network into which a graph is fused, by the regions that run in replicas and the width of the run.
use Prim.Native.Nat.{zero, suc}
use Rattle.std.specs.Prelude.{ℕ, ◌+◌, ◌==◌, List, [], ◌∷◌, ◌++◌, map, length, if◌then◌else◌, Option, None, Some, slice_get}
use Rattle.std.specs.List.{flat_map}
use Rattle.std.specs.Option.{option_map_or, unwrap_or}
use Rattle.spl_value.specs.declared.routing.Routing.TheVariants as R
use Rattle.spl_value.specs.Numbered.{ByTurns}
use Rattle.stream_model.specs.declared.plan.Region.{Region}
use Rattle.stream_model.specs.Operators.{Operator, connections}
use Rattle.stream_model.specs.Meaning.{Graph}
use Rattle.stream_model.specs.Regions.{ops_of, routing_by, rule_of, width_of}
use Rattle.network_model.specs.Networks.{RegionPart, Part, FromSource, FromLinks, Splitter, Replica, Merger, Link, Net}
use Rattle.network_model.specs.Wiring.{is_source}
use Rattle.pe_fusion.specs.Readers.{readers}
use Rattle.pe_fusion.specs.Pieces.{is_among, Piece, last_in, pieces_of, replicated}

-- ---- regions as elements run them

abbrev pub first_stream : List ℕ → ℕ
first_stream streams = unwrap_or (slice_get streams 0) 0

abbrev pub entry_stream : List Operator → ℕ
entry_stream [] = 0
entry_stream (op ∷ ops) = first_stream (connections op)

-- the last of the operators with these numbers
abbrev pub last_op : Graph → List ℕ → Option Operator
last_op g [] = None
last_op g (n ∷ []) = slice_get g.ops n
last_op g (n ∷ m ∷ ids) = last_op g (m ∷ ids)

abbrev pub region_part : Graph → ℕ → Region → RegionPart
region_part g width r = record {
  entry = entry_stream (ops_of g r.ops);
  exit = option_map_or (λ (op : Operator). first_stream op.outs) (last_op g r.ops) 0;
  ops = ops_of g r.ops;
  routing = routing_by r.key;
  rule = rule_of r.merge;
  width = width_of r width;
}

-- the region of an operator
abbrev pub region_with : List Region → ℕ → Option Region
region_with [] n = None
region_with (r ∷ regions) n = if is_among n r.ops then Some r else region_with regions n

abbrev pub region_in : List Region → Piece → Option Region
region_in regions p = region_with regions p.first.number

-- ---- elements

abbrev pub chain_of : Operator → List Operator → List ℕ → Part
chain_of op ops outs = if is_source op.clauses then FromSource op ops outs else FromLinks op ops outs

-- the replicas from channel c on
abbrev pub replicas_of : RegionPart → ℕ → ℕ → List Part
replicas_of r c zero = []
replicas_of r c (suc width) = Replica r c ∷ replicas_of r (suc c) width

-- the port of each output, for the streams of ports from p on: outputs are numbered by port and then by connection
abbrev pub ports_of_outputs : Graph → ℕ → List ℕ → List ℕ
ports_of_outputs g p [] = []
ports_of_outputs g p (s ∷ outs) = map (λ r. p) (readers g s) ++ ports_of_outputs g (suc p) outs

abbrev pub outputs_in : Graph → Piece → List ℕ
outputs_in g p = ports_of_outputs g 0 (last_in p).outs

-- a chain is one element. A region is the splitter, the replicas by channel, and the merger
abbrev pub parts_in : Graph → ℕ → Option Region → Piece → List Part
parts_in g width None p = chain_of p.first p.behind (outputs_in g p) ∷ []
parts_in g width (Some r) p =
    Splitter (region_part g width r) ∷ (replicas_of (region_part g width r) 0 (width_of r width) ++ Merger (region_part g width r) (outputs_in g p) ∷ [])

-- elements are numbered by the place of their first operator, and those of one region stand together
abbrev pub parts_at : Graph → List Region → ℕ → List Piece → List Part
parts_at g regions width pieces = flat_map (λ p. parts_in g width (region_in regions p) p) pieces

-- ---- links

abbrev pub size_by : ℕ → Option Region → ℕ
size_by width None = 1
size_by width (Some r) = width_of r width + 2

-- the element that reads for the operator with this number, the first one of a piece
abbrev pub entry_at : List Region → ℕ → List Piece → ℕ → ℕ
entry_at regions width [] n = 0
entry_at regions width (p ∷ pieces) n = if p.first.number == n then 0 else size_by width (region_in regions p) + entry_at regions width pieces n

-- from the outputs of element e, from output o on, to operators and their inputs
abbrev pub outer_links : (ℕ → ℕ) → ℕ → ℕ → List (ℕ × ℕ) → List Link
outer_links entry e o [] = []
outer_links entry e o (r ∷ rs) = record { from = e; output = o; to = entry r.0; input = r.1 } ∷ outer_links entry e (suc o) rs

-- from the splitter e to the replicas from channel c on
abbrev pub channel_links : ℕ → ℕ → ℕ → List Link
channel_links e c zero = []
channel_links e c (suc width) = record { from = e; output = c; to = e + 1 + c; input = 0 } ∷ channel_links e (suc c) width

-- from the replica e of channel c, and those behind it, to the merger
abbrev pub merger_links : ℕ → ℕ → ℕ → List Link
merger_links e c zero = []
merger_links e c (suc width) = record { from = e; output = 0; to = e + suc width; input = c } ∷ merger_links (suc e) (suc c) width

-- the connections of the streams of a piece's last operator, by port
abbrev pub readers_of : Graph → Piece → List (ℕ × ℕ)
readers_of g p = flat_map (readers g) (last_in p).outs

-- the links of a piece whose elements begin with element e
abbrev pub links_in : Graph → ℕ → Option Region → (ℕ → ℕ) → ℕ → Piece → List Link
links_in g width None entry e p = outer_links entry e 0 (readers_of g p)
links_in g width (Some r) entry e p =
    channel_links e 0 (width_of r width)
    ++ (merger_links (e + 1) 0 (width_of r width) ++ outer_links entry (e + width_of r width + 1) 0 (readers_of g p))

-- links are numbered by sender and then by output
abbrev pub links_at : Graph → List Region → ℕ → (ℕ → ℕ) → ℕ → List Piece → List Link
links_at g regions width entry e [] = []
links_at g regions width entry e (p ∷ pieces) =
    links_in g width (region_in regions p) entry e p ++ links_at g regions width entry (e + size_by width (region_in regions p)) pieces

abbrev pub links_of : Graph → List Region → ℕ → List Piece → List Link
links_of g regions width pieces = links_at g regions width (entry_at regions width pieces) 0 pieces

-- ---- the network

abbrev pub no_part : Part
no_part = Merger (record { entry = 0; exit = 0; ops = []; routing = R.Turns; rule = ByTurns; width = 0 }) []

abbrev pub no_link : Link
no_link = record { from = 0; output = 0; to = 0; input = 0 }

abbrev pub net_at : Graph → List Region → ℕ → ℕ → List Piece → Net
net_at g regions width capacity pieces = record {
  part = λ e. unwrap_or (slice_get (parts_at g regions width pieces) e) no_part;
  size = length (parts_at g regions width pieces);
  link = λ l. unwrap_or (slice_get (links_of g regions width pieces) l) no_link;
  links = length (links_of g regions width pieces);
  capacity = capacity;
}

-- the network of a graph, its plan and a width
abbrev pub fused_net : Graph → List Region → ℕ → ℕ → Net
fused_net g plan width capacity = net_at g (replicated width plan) width capacity (pieces_of g (replicated width plan))

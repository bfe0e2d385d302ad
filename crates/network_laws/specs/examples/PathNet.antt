-- A network of a source, a filter and a sink, each an element of its own, with a legal list of events that comes to its
-- end, and one that is cut.
use Rattle.std.specs.Prelude.{ℕ, zero, suc, true, List, [], ◌∷◌, None, codes}
use Rattle.spl_value.specs.declared.item.Item.TheVariants as I
use Rattle.spl_value.specs.declared.packet.Packet.{Packet}
use Rattle.spl_value.specs.declared.packet.Packet.TheVariants as P
use Rattle.stream_model.specs.Operators.{Operator}
use Rattle.stream_model.specs.Meaning.{Graph, Lists, Entries}
use Rattle.stream_model.specs.PathLaws.{path_source, path_filter, path_sink, path_graph}
use Rattle.stream_model.specs.examples.CheckedGraphs.{texts}
use Rattle.network_model.specs.Networks.{Part, FromSource, FromLinks, Link, Net}
use Rattle.network_model.specs.Events.{Read, Pop, Push, Occurrence, Happens, Cuts}

-- their streams are of texts, and the filter has no condition
abbrev pub file_source : Operator
file_source = path_source texts (codes "in") true

abbrev pub plain_filter : Operator
plain_filter = path_filter texts None

abbrev pub file_sink : Operator
file_sink = path_sink texts (codes "out")

abbrev pub some_graph : Graph
some_graph = path_graph texts (codes "in") true None (codes "out")

abbrev pub path_part : ℕ → Part
path_part zero = FromSource file_source [] (0 ∷ [])
path_part (suc zero) = FromLinks plain_filter [] (0 ∷ [])
path_part (suc (suc n)) = FromLinks file_sink [] []

abbrev pub path_link : ℕ → Link
path_link zero = record { from = 0; output = 0; to = 1; input = 0 }
path_link (suc n) = record { from = 1; output = 0; to = 2; input = 0 }

abbrev pub path_net : Net
path_net = record { part = path_part; size = 3; link = path_link; links = 2; capacity = 18 }

-- an empty file
abbrev pub final : Packet
final = P.Item 0 I.Final

abbrev pub path_list : List Occurrence
path_list =
    Happens (Read 0 I.Final) ∷ Happens (Push 0 final) ∷ Happens (Push 0 P.Close) ∷ Happens (Pop 0 final) ∷ Happens (Push 1 final) ∷ Happens (Push 1 P.Close)
    ∷ Happens (Pop 0 P.Close) ∷ Happens (Pop 1 final) ∷ Happens (Pop 1 P.Close) ∷ []

-- the source is cut before it has pushed all that it owes
abbrev pub cut_list : List Occurrence
cut_list =
    Happens (Read 0 I.Final) ∷ Cuts 0 ∷ Happens (Push 0 P.Cut) ∷ Happens (Pop 0 P.Cut) ∷ Happens (Push 1 P.Cut) ∷ Happens (Pop 1 P.Cut) ∷ []

-- the rows of the source, and the entries of records for them
abbrev pub path_rows : Lists
path_rows n = I.Final ∷ []

abbrev pub path_entries : Entries
path_entries n = 0 ∷ []

abbrev pub no_entries : Entries
no_entries n = []

-- The same source, filter and sink, where the filter is a region of two channels that merges by turns.
use Rattle.std.specs.Prelude.{ℕ, zero, suc, List, [], ◌∷◌}
use Rattle.spl_value.specs.declared.item.Item.TheVariants as I
use Rattle.spl_value.specs.declared.packet.Packet.TheVariants as P
use Rattle.spl_value.specs.declared.routing.Routing.TheVariants as R
use Rattle.spl_value.specs.Numbered.{ByTurns}
use Rattle.stream_model.specs.Meaning.{Meaning, meaning}
use Rattle.network_model.specs.Networks.{RegionPart, Part, FromSource, FromLinks, Splitter, Replica, Merger, Link, Net}
use Rattle.network_model.specs.Events.{Read, Pop, Push, Occurrence, Happens}
use Rattle.network_laws.specs.examples.PathNet.{file_sink, file_source, final, no_entries, path_rows, plain_filter, some_graph}

abbrev pub filter_region : RegionPart
filter_region =
    record { entry = 0; exit = 1; ops = plain_filter ∷ []; routing = R.Turns; rule = ByTurns; width = 2 }

-- a source, a splitter, two replicas, a merger and a sink
abbrev pub region_part : ℕ → Part
region_part zero = FromSource file_source [] (0 ∷ [])
region_part (suc zero) = Splitter filter_region
region_part (suc (suc zero)) = Replica filter_region 0
region_part (suc (suc (suc zero))) = Replica filter_region 1
region_part (suc (suc (suc (suc zero)))) = Merger filter_region (0 ∷ [])
region_part (suc (suc (suc (suc (suc n))))) = FromLinks file_sink [] []

abbrev pub region_link : ℕ → Link
region_link zero = record { from = 0; output = 0; to = 1; input = 0 }
region_link (suc zero) = record { from = 1; output = 0; to = 2; input = 0 }
region_link (suc (suc zero)) = record { from = 1; output = 1; to = 3; input = 0 }
region_link (suc (suc (suc zero))) = record { from = 2; output = 0; to = 4; input = 0 }
region_link (suc (suc (suc (suc zero)))) = record { from = 3; output = 0; to = 4; input = 1 }
region_link (suc (suc (suc (suc (suc n))))) = record { from = 4; output = 0; to = 5; input = 0 }

abbrev pub region_net : Net
region_net = record { part = region_part; size = 6; link = region_link; links = 6; capacity = 18 }

-- for an empty file
abbrev pub region_meaning : Meaning
region_meaning = meaning some_graph path_rows no_entries

-- the final marker goes through channel 0, and `Close` through both
abbrev pub region_list : List Occurrence
region_list =
    Happens (Read 0 I.Final) ∷ Happens (Push 0 final) ∷ Happens (Push 0 P.Close) ∷ Happens (Pop 0 final)
    ∷ Happens (Push 1 final) ∷ Happens (Push 1 P.Close) ∷ Happens (Push 2 P.Close) ∷ Happens (Pop 0 P.Close)
    ∷ Happens (Pop 2 P.Close) ∷ Happens (Push 4 P.Close) ∷ Happens (Pop 4 P.Close)
    ∷ Happens (Pop 1 final) ∷ Happens (Push 3 final) ∷ Happens (Pop 1 P.Close) ∷ Happens (Push 3 P.Close)
    ∷ Happens (Pop 3 final) ∷ Happens (Push 5 final) ∷ Happens (Push 5 P.Close) ∷ Happens (Pop 3 P.Close)
    ∷ Happens (Pop 5 final) ∷ Happens (Pop 5 P.Close) ∷ []

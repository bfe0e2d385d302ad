-- A source, a Filter and an Aggregate by keys as a region of two channels that merges by pulses, and a sink.
use Prim.Native.Nat.{zero, suc}
use Rattle.std.specs.Prelude.{ℕ, true, [], ◌∷◌, None, codes}
use Rattle.spl_value.specs.Numbered.{ByPulses}
use Rattle.language_model.specs.declared.checked.CheckedClauses.TheVariants as A
use Rattle.language_model.specs.declared.checked.WindowRule.TheVariants as W
use Rattle.language_model.specs.StreamTypes.{Attributes}
use Rattle.stream_model.specs.Operators.{Operator}
use Rattle.stream_model.specs.Regions.{chain_key, routing_by}
use Rattle.stream_model.specs.examples.SomeRegions.{abv, numbers, partitioned, three}
use Rattle.network_model.specs.Networks.{RegionPart, Part, FromSource, FromLinks, Splitter, Replica, Merger, Net}
use Rattle.network_laws.specs.examples.RegionNet.{region_link}

abbrev pub abs : Attributes
abs = numbers (codes "a" ∷ codes "b" ∷ codes "s" ∷ [])

abbrev pub keyed_source : Operator
keyed_source = record {
  number = 0;
  clauses = A.FileSource (codes "t") true;
  functions = [];
  types = record { ins = []; outs = abv ∷ [] };
  ins = [];
  outs = 0 ∷ [];
}

abbrev pub keyed_filter : Operator
keyed_filter = record {
  number = 1;
  clauses = A.Filter None;
  functions = [];
  types = record { ins = abv ∷ []; outs = abv ∷ [] };
  ins = (0 ∷ []) ∷ [];
  outs = 1 ∷ [];
}

abbrev pub keyed_sums : Operator
keyed_sums = record {
  number = 2;
  clauses = partitioned (W.TumblingCount 2) (0 ∷ 1 ∷ []) three;
  functions = [];
  types = record { ins = abv ∷ []; outs = abs ∷ [] };
  ins = (1 ∷ []) ∷ [];
  outs = 2 ∷ [];
}

abbrev pub keyed_sink : Operator
keyed_sink = record {
  number = 3;
  clauses = A.FileSink (codes "o");
  functions = [];
  types = record { ins = abs ∷ []; outs = [] };
  ins = (2 ∷ []) ∷ [];
  outs = [];
}

abbrev pub keyed_region : RegionPart
keyed_region = record {
  entry = 0;
  exit = 2;
  ops = keyed_filter ∷ keyed_sums ∷ [];
  routing = routing_by (chain_key (keyed_filter ∷ keyed_sums ∷ []));
  rule = ByPulses;
  width = 2;
}

abbrev pub keyed_part : ℕ → Part
keyed_part zero = FromSource keyed_source [] (0 ∷ [])
keyed_part (suc zero) = Splitter keyed_region
keyed_part (suc (suc zero)) = Replica keyed_region 0
keyed_part (suc (suc (suc zero))) = Replica keyed_region 1
keyed_part (suc (suc (suc (suc zero)))) = Merger keyed_region (0 ∷ [])
keyed_part (suc (suc (suc (suc (suc n))))) = FromLinks keyed_sink [] []

abbrev pub keyed_net : Net
keyed_net = record { part = keyed_part; size = 6; link = region_link; links = 6; capacity = 18 }

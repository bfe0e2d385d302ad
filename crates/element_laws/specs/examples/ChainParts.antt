-- The elements of a region of two filters at width 2, which merges by pulses, and what its splitter does with a row.
use Rattle.std.specs.Prelude.{ℕ, ◌≡◌, true, false, List, [], ◌∷◌, map, None}
use Rattle.spl_value.specs.declared.packet.Packet.TheVariants as P
use Rattle.spl_value.specs.declared.routing.Routing.TheVariants as R
use Rattle.channel_heads.specs.Held.{new_held}
use Rattle.hash_splitter.specs.Splitting.{new_splitting}
use Rattle.stream_model.specs.declared.plan.Merge.TheVariants as M
use Rattle.stream_model.specs.declared.plan.Region.{Region}
use Rattle.stream_model.specs.CheckedMeaning.{graph_of}
use Rattle.stream_model.specs.Operators.{Operator}
use Rattle.stream_model.specs.Sending.{outgoing}
use Rattle.stream_model.specs.Stream.{Event}
use Rattle.list_engine.specs.examples.Chain.{chain, numbers, row}
use Rattle.network_model.specs.Networks.{Part}
use Rattle.network_model.specs.Receipts.{Popped}
use Rattle.network_model.specs.States.{At}
use Rattle.operator_chains.specs.declared.chain.Chain.{Chain}
use Rattle.pe_fusion.specs.FusedNets.{fused_net}
use Rattle.elements.specs.declared.part.ElementPart.{ElementPart}
use Rattle.elements.specs.declared.work.Work.TheVariants as W

abbrev pub filters : List Region
filters = record { ops = 1 ∷ 2 ∷ []; key = []; merge = M.Pulses } ∷ []

abbrev pub part_at : ℕ → Part
part_at n = (fused_net (graph_of chain) filters 2 18).part n

-- an operator that stands for itself, and has taken nothing
abbrev pub itself : Operator → Operator
itself op = op

abbrev pub IsUnused : Operator → List Event → Type 0
IsUnused op h = h ≡ []

abbrev pub splitter_part : ElementPart Operator
splitter_part = record {
  ids = 1 ∷ 2 ∷ [];
  ins = numbers ∷ [];
  fans = 1 ∷ 1 ∷ [];
  source = None;
  work = W.Splitter (new_splitting 2 R.Turns true);
}

abbrev pub replica_part : Chain Operator → ElementPart Operator
replica_part operators = record {
  ids = 1 ∷ 2 ∷ [];
  ins = numbers ∷ [];
  fans = 1 ∷ [];
  source = None;
  work = W.Replica operators;
}

abbrev pub merger_part : ElementPart Operator
merger_part = record {
  ids = 1 ∷ 2 ∷ [];
  ins = numbers ∷ numbers ∷ [];
  fans = 1 ∷ [];
  source = None;
  work = W.Pulses (new_held 2);
}

-- the splitter has taken a row, and put it on its first channel
abbrev pub one_row : At
one_row = record {
  kept = Popped 0 (P.Item 0 (row 6)) ∷ [];
  dropped = [];
  pushed = outgoing 0 (P.Item 0 (row 6)) ∷ [];
  outbox = [];
  cut = false;
}

-- Operators are placed in pieces, by their numbers. Each operator joins the piece of another one, its leader, or begins a piece.
use Prim.Native.Nat.{zero, suc}
use Rattle.std.specs.Prelude.{ℕ, ◌<◌, ◌≡◌, ◌==◌, ◌&&◌, Bool, false, List, [], ◌∷◌, ◌++◌, length, Option, None, Some, option_map, set, slice_get, if◌then◌else◌}
use Rattle.std.specs.Option.{option_and_then, option_map_or}
use Rattle.spl_tree.specs.declared.graph.Graph.{Graph}
use Rattle.spl_tree.specs.declared.graph.Op.{Op}
use Rattle.spl_tree.specs.declared.graph.Stream.{Stream}
use Rattle.pe_fusion.specs.declared.regions.OperatorRegion.{OperatorRegion}
use Rattle.pe_fusion.specs.declared.pieces.NumberedPiece.{NumberedPiece}
use Rattle.pe_fusion.specs.declared.pieces.Placement.{Placement}
use Rattle.pe_fusion.specs.steps.Reading.{Table}

-- ---- leaders

abbrev pub region_of : List (Option OperatorRegion) → ℕ → Option OperatorRegion
region_of regions n = option_and_then (λ (r : Option OperatorRegion). r) (slice_get regions n)

-- the stream of the one connection
abbrev pub sole_stream : List (List ℕ) → Option ℕ
sole_stream ((s ∷ []) ∷ []) = Some s
sole_stream _ = None

abbrev pub has_one_reader : Table → ℕ → Bool
has_one_reader readers s = option_map_or (λ (rs : List (ℕ × ℕ)). length rs == 1) (slice_get readers s) false

abbrev pub has_one_output : List Op → ℕ → Bool
has_one_output ops n = option_map_or (λ (op : Op). length op.outs == 1) (slice_get ops n) false

abbrev pub maker_of : List Stream → ℕ → Option ℕ
maker_of streams s = option_map (λ (made : Stream). made.maker) (slice_get streams s)

abbrev pub unless_in : Option OperatorRegion → ℕ → Option ℕ
unless_in None n = Some n
unless_in (Some r) n = None

-- the maker of a stream, where one connection takes that, and the maker has one output port and is outside regions
abbrev pub fused_maker : Graph → List (Option OperatorRegion) → Table → ℕ → Option ℕ
fused_maker g regions readers s =
    option_and_then (λ m. if has_one_reader readers s && has_one_output g.ops m then unless_in (region_of regions m) m else None) (maker_of g.streams s)

abbrev pub producer_of : Graph → List (Option OperatorRegion) → Table → List (List ℕ) → Option ℕ
producer_of g regions readers ins = option_and_then (fused_maker g regions readers) (sole_stream ins)

abbrev pub leader_by : Option OperatorRegion → Option ℕ → Option ℕ
leader_by None producer = producer
leader_by (Some r) producer = Some r.first

-- the first operator of its region, or else the producer with which it is fused
abbrev pub leader : Graph → List (Option OperatorRegion) → Table → ℕ → Option ℕ
leader g regions readers n = leader_by (region_of regions n) (option_and_then (λ (op : Op). producer_of g regions readers op.ins) (slice_get g.ops n))

-- ---- places

abbrev pub place_of : List (Option ℕ) → ℕ → Option ℕ
place_of places n = option_and_then (λ (place : Option ℕ). place) (slice_get places n)

-- with operator n at the end of the piece there
abbrev pub longer_at : ℕ → ℕ → List NumberedPiece → List NumberedPiece
longer_at at n [] = []
longer_at zero n (p ∷ pieces) = record { ids = p.ids ++ n ∷ []; region = p.region } ∷ pieces
longer_at (suc at) n (p ∷ pieces) = p ∷ longer_at at n pieces

abbrev pub put_at : Option ℕ → ℕ → Option OperatorRegion → Placement → Placement
put_at (Some at) n region state = record { pieces = longer_at at n state.pieces; places = set state.places n (Some at) }
put_at None n region state = record {
  pieces = state.pieces ++ record { ids = n ∷ []; region = region } ∷ [];
  places = set state.places n (Some (length state.pieces));
}

abbrev pub put_next : Graph → List (Option OperatorRegion) → Table → Placement → ℕ → Placement
put_next g regions readers state n = put_at (option_and_then (place_of state.places) (leader g regions readers n)) n (region_of regions n) state

abbrev pub put_all : Graph → List (Option OperatorRegion) → Table → Placement → List ℕ → Placement
put_all g regions readers state [] = state
put_all g regions readers state (n ∷ ns) = put_all g regions readers (put_next g regions readers state n) ns

-- places are those of pieces
abbrev pub AreWithin : Placement → Type 0
AreWithin state = (n i : ℕ) → slice_get state.places n ≡ Some (Some i) → i < length state.pieces

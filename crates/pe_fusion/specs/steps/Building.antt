-- The elements and links of pieces, by operators' numbers.
use Rattle.std.specs.Prelude.{ℕ, ◌+◌, ◌-◌, List, [], ◌∷◌, ◌++◌, length, Option, None, Some, slice_get}
use Rattle.std.specs.List.{flat_map}
use Rattle.std.specs.Option.{option_and_then, option_map_or, unwrap_or}
use Rattle.spl_tree.specs.declared.graph.Op.{Op}
use Rattle.stream_model.specs.declared.shape.Role.TheVariants as L
use Rattle.stream_model.specs.declared.shape.ShapeElement.{ShapeElement}
use Rattle.network_model.specs.Networks.{Link}
use Rattle.pe_fusion.specs.FusedNets.{channel_links, merger_links, outer_links}
use Rattle.pe_fusion.specs.Shapes.{element, replica_elements}
use Rattle.pe_fusion.specs.declared.regions.OperatorRegion.{OperatorRegion}
use Rattle.pe_fusion.specs.declared.pieces.NumberedPiece.{NumberedPiece}
use Rattle.pe_fusion.specs.steps.Reading.{Table, read_by}
use Rattle.pe_fusion.specs.steps.Starting.{size_of}

-- ---- elements

abbrev pub piece_elements : Option OperatorRegion → List ℕ → List ShapeElement
piece_elements None ids = element L.Chain None ids ∷ []
piece_elements (Some r) ids =
    element L.Splitter (Some r.region) ids
    ∷ (replica_elements (Some r.region) ids 0 r.width ++ element L.Merger (Some r.region) ids ∷ [])

abbrev pub all_elements : List NumberedPiece → List ShapeElement
all_elements pieces = flat_map (λ (p : NumberedPiece). piece_elements p.region p.ids) pieces

-- ---- links

-- the streams that the last of these operators makes
abbrev pub last_outs : List Op → List ℕ → List ℕ
last_outs ops ids = option_map_or (λ (op : Op). op.outs) (option_and_then (slice_get ops) (slice_get ids (length ids - 1))) []

abbrev pub start_at : List ℕ → ℕ → ℕ
start_at starts n = unwrap_or (slice_get starts n) 0

abbrev pub outs_links : List ℕ → Table → ℕ → List ℕ → List Link
outs_links starts readers e outs = outer_links (start_at starts) e 0 (flat_map (read_by readers) outs)

abbrev pub piece_links : List ℕ → Table → ℕ → Option OperatorRegion → List ℕ → List Link
piece_links starts readers e None outs = outs_links starts readers e outs
piece_links starts readers e (Some r) outs =
    channel_links e 0 r.width ++ (merger_links (e + 1) 0 r.width ++ outs_links starts readers (e + r.width + 1) outs)

abbrev pub all_links : List Op → List ℕ → Table → ℕ → List NumberedPiece → List Link
all_links ops starts readers e [] = []
all_links ops starts readers e (p ∷ pieces) =
    piece_links starts readers e p.region (last_outs ops p.ids) ++ all_links ops starts readers (e + size_of p) pieces

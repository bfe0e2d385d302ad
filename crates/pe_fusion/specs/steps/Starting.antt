-- How many elements pieces have, and the first element of each.
use Rattle.std.specs.Prelude.{ℕ, ◌+◌, List, [], ◌∷◌, Option, None, Some, set}
use Rattle.pe_fusion.specs.declared.regions.OperatorRegion.{OperatorRegion}
use Rattle.pe_fusion.specs.declared.pieces.NumberedPiece.{NumberedPiece}

abbrev pub elements_by_region : Option OperatorRegion → ℕ
elements_by_region None = 1
elements_by_region (Some r) = r.width + 2

abbrev pub size_of : NumberedPiece → ℕ
size_of p = elements_by_region p.region

abbrev pub sizes : List NumberedPiece → ℕ
sizes [] = 0
sizes (p ∷ pieces) = size_of p + sizes pieces

abbrev pub set_first : List ℕ → ℕ → List ℕ → List ℕ
set_first [] start starts = starts
set_first (n ∷ ids) start starts = set starts n start

-- the first element of each piece, at the number of its first operator
abbrev pub start_all : List ℕ → ℕ → List NumberedPiece → List ℕ
start_all starts start [] = starts
start_all starts start (p ∷ pieces) = start_all (set_first p.ids start starts) (start + size_of p) pieces

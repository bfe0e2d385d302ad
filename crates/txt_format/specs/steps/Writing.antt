-- Pieces written one after another.
use Rattle.std.specs.Prelude.{◌==◌, ◌||◌, not, ℕ, Bool, true, false, List, [], ◌∷◌, ◌++◌}

-- a byte of a text that is written as it is
abbrev pub is_kept : ℕ → Bool
is_kept b = not ((b == 34) || ((b == 92) || ((b == 10) || ((b == 9) || (b == 13)))))

-- what stands before a piece that isn't the first
abbrev pub comma : Bool → List ℕ
comma false = []
comma true = 44 ∷ []

-- these pieces, with a comma before each but the first
abbrev pub pieces_from : Bool → List (List ℕ) → List ℕ
pieces_from later [] = []
pieces_from later (p ∷ ps) = comma later ++ (p ++ pieces_from true ps)

-- Which places are marked.
use Prim.Native.Nat.{suc}
use Rattle.std.specs.Prelude.{ℕ, Bool, List, [], ◌∷◌, if◌then◌else◌}

-- those among places from one on, in ascending order
abbrev pub marked_from : ℕ → List Bool → List ℕ
marked_from at [] = []
marked_from at (mark ∷ marks) = if mark then at ∷ marked_from (suc at) marks else marked_from (suc at) marks

-- the marked places
abbrev pub marked : List Bool → List ℕ
marked marks = marked_from 0 marks

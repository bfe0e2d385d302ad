-- Words for parts of the rules of rows: the pieces of a file.
use Rattle.std.specs.Prelude.{ℕ, ◌==◌, List}
use Rattle.std.specs.List.{slice_split}

-- the pieces between line feeds; the last one has none after it, and may be empty
abbrev pub pieces : List ℕ → List (List ℕ)
pieces bytes = slice_split (λ b. b == 10) bytes

-- The connections of each stream, by its number, to which those of operators are added.
use Prim.Native.Nat.{suc}
use Rattle.std.specs.Prelude.{ℕ, List, [], ◌∷◌, ◌++◌, set, slice_get}
use Rattle.std.specs.List.{concat}
use Rattle.std.specs.Option.{unwrap_or}
use Rattle.spl_tree.specs.declared.graph.Op.{Op}

abbrev pub Table : Type 0
Table = List (List (ℕ × ℕ))

abbrev pub read_by : Table → ℕ → List (ℕ × ℕ)
read_by readers s = unwrap_or (slice_get readers s) []

-- the streams that operator n reads from input i on
abbrev pub add_reads : Table → ℕ → ℕ → List ℕ → Table
add_reads readers n i [] = readers
add_reads readers n i (s ∷ streams) = add_reads (set readers s (read_by readers s ++ (n, i) ∷ [])) n (suc i) streams

-- operators, numbered from n on
abbrev pub add_operators : Table → ℕ → List Op → Table
add_operators readers n [] = readers
add_operators readers n (op ∷ ops) = add_operators (add_reads readers n 0 (concat op.ins)) (suc n) ops

-- The connections of a stream: which operators read it, and at which inputs.
use Prim.Native.Nat.{suc}
use Rattle.std.specs.Prelude.{ℕ, ◌==◌, List, [], ◌∷◌, if◌then◌else◌}
use Rattle.std.specs.List.{flat_map}
use Rattle.stream_model.specs.Operators.{Operator, connections}
use Rattle.stream_model.specs.Meaning.{Graph}

-- the inputs of operator n, counted from i, that read a stream, each with the operator's number
abbrev pub reads_at : ℕ → ℕ → ℕ → List ℕ → List (ℕ × ℕ)
reads_at n s i [] = []
reads_at n s i (t ∷ streams) = if t == s then (n, i) ∷ reads_at n s (suc i) streams else reads_at n s (suc i) streams

-- the connections of a stream: operators and their inputs, by operator and then by input
abbrev pub readers : Graph → ℕ → List (ℕ × ℕ)
readers g s = flat_map (λ (op : Operator). reads_at op.number s 0 (connections op)) g.ops

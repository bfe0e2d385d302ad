-- Who reads a stream, by the operators of a checked graph.
use Rattle.std.specs.Prelude.{ℕ, ◌==◌, Bool, false, List, slice_get}
use Rattle.std.specs.List.{concat, filter_map, list_any}
use Rattle.std.specs.Option.{option_map_or}
use Rattle.spl_tree.specs.declared.graph.Op.{Op}
use Rattle.stream_model.specs.Meaning.{Graph}
use Rattle.stream_model.specs.Operators.{Operator}

abbrev pub op_reads : Op → ℕ → Bool
op_reads op s = list_any (λ t. t == s) (concat op.ins)

-- the operator with this number reads the stream
abbrev pub reads_at : List Op → ℕ → ℕ → Bool
reads_at ops n s = option_map_or (λ op. op_reads op s) (slice_get ops n) false

-- the operators with these numbers
abbrev pub ops_at : Graph → List ℕ → List Operator
ops_at g numbers = filter_map (slice_get g.ops) numbers

-- Chains of operators of a graph by their numbers.
use Rattle.std.specs.Prelude.{◌≡◌, ◌<◌, ℕ, List, map, length, Option, Some, slice_get}
use Rattle.stream_model.specs.Copies.{trace}
use Rattle.stream_model.specs.Meaning.{Graph}
use Rattle.stream_model.specs.Operators.{Operator}
use Rattle.stream_model.specs.Regions.{ops_of}

-- each is the number of an operator of the graph
abbrev pub AreNumbers : Graph → List ℕ → Type 0
AreNumbers g ns = (i n : ℕ) → slice_get ns i ≡ Some n → n < length g.ops

-- the attribute of the stream that the chain of these operators reads of which an attribute of its last stream is a copy
abbrev pub traced : Graph → List ℕ → ℕ → Option ℕ
traced g chain a = trace (map (λ (op : Operator). op.clauses) (ops_of g chain)) a

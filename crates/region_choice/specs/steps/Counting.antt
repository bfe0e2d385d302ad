-- Counts of connections, by the streams that they take. A count stands still at its type's end.
use Rattle.std.specs.Prelude.{◌≡◌, ◌<◌, ◌==◌, ℕ, List, map, filter, length, min, Some, slice_get}
use Rattle.std.specs.List.{concat}
use Rattle.stream_model.specs.Meaning.{Graph}
use Rattle.stream_model.specs.Operators.{connections}

abbrev pub how_many : ℕ → List ℕ → ℕ
how_many s seen = length (filter (λ t. t == s) seen)

-- of the streams that were seen
abbrev pub AreCounts : List ℕ → List ℕ → Type 0
AreCounts seen counts = (s : ℕ) → s < length counts → slice_get counts s ≡ Some (min (how_many s seen) 4294967295)

-- of the streams that the operators of a graph take
abbrev pub AreReadings : Graph → List ℕ → Type 0
AreReadings g counts = AreCounts (concat (map connections g.ops)) counts

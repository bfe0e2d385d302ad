-- Where places lead, by a row of places for each.
use Rattle.std.specs.Prelude.{ℕ, ◌<◌, List, [], length, slice_index_or}
use Rattle.std.specs.List.{All}

-- a place without a row leads nowhere
abbrev pub steps_from : List (List ℕ) → ℕ → List ℕ
steps_from next place = slice_index_or next place []

-- each leads to places that have rows
abbrev pub LeadsWithin : List (List ℕ) → Type 0
LeadsWithin next = All (λ row. All (λ to. to < length next) row) next

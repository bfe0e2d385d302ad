-- What stands under a name in a list of entries.
use Rattle.std.specs.Prelude.{◌≡◌, ℕ, List, [], ◌∷◌, if◌then◌else◌, Option, Some, None}
use Rattle.std.specs.Str.{bytes_eq}
use Rattle.feed_pour.specs.declared.table.Entry.{Entry}
use Rattle.feed_pour.specs.Counts.{OthersStay}

-- the first value under the name
abbrev pub under : {T : Type 0} → List (Entry T) → List ℕ → Option T
under [] name = None
under (entry ∷ rest) name = if bytes_eq entry.name name then Some entry.value else under rest name

-- this value stands under the name, and the other names keep theirs
pub record Puts {T : Type 0} (old new : List ℕ → Option T) (name : List ℕ) (value : T) : Type 0 where
  pub here : new name ≡ Some value
  pub others : OthersStay old new name

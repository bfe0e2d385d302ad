-- The files of a shelf in memory.
use Rattle.std.specs.Prelude.{ℕ, List, [], Option, Some, None}
use Rattle.spl_value.specs.Script.{Script, End}
use Rattle.feed_pour.specs.Contents.{Told}
use Rattle.feed_pour.specs.Table.{under}
use Rattle.feed_pour.specs.declared.table.Entry.{Entry}

-- a list, or the empty one where there is none
abbrev pub or_empty : {A : Type 0} → Option (List A) → List A
or_empty None = []
or_empty (Some xs) = xs

-- a feed without faults gives all and then the end
abbrev pub plain_script : List ℕ → Script
plain_script bytes = record { bytes = bytes; ending = End }

-- what a shelf without faults tells
abbrev pub plain_told : List (Entry (List ℕ)) → Told
plain_told files = record { holds = under files; script = λ n. plain_script (or_empty (under files n)) }

-- The counts that stand in a table of names.
use Rattle.std.specs.Prelude.{ℕ, List, Option, Some, None, IsSome}
use Rattle.feed_pour.specs.Counts.{FaultCounts, no_counts}
use Rattle.feed_pour.specs.Table.{under}
use Rattle.feed_pour.specs.declared.table.Entry.{Entry}
use Rattle.feed_pour.specs.declared.tallies.Tallies.{Tallies}

-- the counts of an entry, 0 where there is none
abbrev pub counts_of : Option Tallies → FaultCounts
counts_of None = no_counts
counts_of (Some t) = record { opening = t.opening; creating = t.creating; reading = t.reading; writing = t.writing }

-- the counts of each name
abbrev pub counts_in : List (Entry Tallies) → List ℕ → FaultCounts
counts_in table name = counts_of (under table name)

-- the name has an entry
abbrev pub knows : List (Entry Tallies) → List ℕ → Type 0
knows table name = IsSome (under table name)

-- What a node notes, and what weighs more.
use Rattle.std.specs.Prelude.{ℕ, Bool, true, false, nat_lt, if◌then◌else◌}
use Rattle.node_turns.specs.declared.note.Note.{Note}
use Rattle.node_turns.specs.declared.note.Note.TheVariants as N

abbrev pub weight : Note → ℕ
weight N.Nothing = 0
weight N.Write = 1
weight (N.Worn link) = 2
weight N.Memory = 3
weight N.Improper = 4

-- the one that weighs more
abbrev pub worse : Note → Note → Note
worse old new = if nat_lt (weight old) (weight new) then new else old

-- nothing went wrong
abbrev pub is_clean : Note → Bool
is_clean N.Nothing = true
is_clean N.Write = false
is_clean (N.Worn link) = false
is_clean N.Memory = false
is_clean N.Improper = false

-- a write failed, and nothing worse happened
abbrev pub is_unwritten : Note → Bool
is_unwritten N.Nothing = false
is_unwritten N.Write = true
is_unwritten (N.Worn link) = false
is_unwritten N.Memory = false
is_unwritten N.Improper = false

-- the node has cut its element
abbrev pub is_stopping : Note → Bool
is_stopping N.Nothing = false
is_stopping N.Write = false
is_stopping (N.Worn link) = true
is_stopping N.Memory = true
is_stopping N.Improper = true

-- a packet was dropped that its element has not taken
abbrev pub is_improper : Note → Bool
is_improper N.Nothing = false
is_improper N.Write = false
is_improper (N.Worn link) = false
is_improper N.Memory = false
is_improper N.Improper = true

use Rattle.std.proofs.Common.{◌≡◌, length}
use Rattle.stream_model.specs.CheckedMeaning.{graph_of}
use Rattle.stream_model.specs.Meaning.{Graph}
use Rattle.list_engine.specs.steps.Faults.{unread_faults}
use Rattle.list_engine.proofs.ends.unread_faults.Given as goal

abbrev pub decreases-streams : goal.decreases-streams
decreases-streams l = length l.rest

-- none of those so far has a fault
abbrev pub invariant-streams : goal.invariant-streams
invariant-streams l = (g : Graph) → graph_of l.checked ≡ g → unread_faults g l.streams l.rest ≡ unread_faults g l.streams l.fn.outs

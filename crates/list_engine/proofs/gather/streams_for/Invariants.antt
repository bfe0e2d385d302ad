use Rattle.std.proofs.Common.{length}
use Rattle.list_engine.proofs.Gathering.{Gathered}
use Rattle.list_engine.proofs.gather.streams_for.Given as goal

abbrev pub decreases-inputs : goal.decreases-inputs
decreases-inputs l = length l.rest

-- the streams of the inputs so far were gathered
abbrev pub invariant-inputs : goal.invariant-inputs
invariant-inputs l = Gathered l.checked l.later l.fn.connections l.rest l.fn.table l.table l.lists

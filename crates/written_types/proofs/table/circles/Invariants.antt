use Rattle.std.proofs.Common.{length}
use Rattle.language_model.specs.Leading.{leads_back}
use Rattle.written_types.specs.Circles.{Tells}
use Rattle.written_types.specs.Stepping.{steps_from}
use Rattle.written_types.proofs.table.circles.Given as goal

abbrev pub invariant-loop-place : goal.invariant-loop-place
invariant-loop-place l = Tells l.place (leads_back (length l.rows) (steps_from l.rows)) l.flags.items

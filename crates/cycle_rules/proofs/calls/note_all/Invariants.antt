use Rattle.std.proofs.Common.{take}
use Rattle.cycle_rules.specs.steps.Callers.{NotesAll}
use Rattle.cycle_rules.proofs.calls.note_all.Given as goal

abbrev pub invariant-loop-call : goal.invariant-loop-call
invariant-loop-call l = NotesAll l.fn.callers.items l.callers.items (take l.call-index l.calls) l.from

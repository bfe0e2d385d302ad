use Rattle.cycle_rules.proofs.Calling.{Noted}
use Rattle.cycle_rules.proofs.calls.callers_of.Given as goal

abbrev pub invariant-loop-from : goal.invariant-loop-from
invariant-loop-from l = Noted l.calls l.callers.items l.from

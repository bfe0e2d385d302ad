use Rattle.std.proofs.Common.{take}
use Rattle.window_policy.specs.Deltas.{Rises}
use Rattle.window_policy.proofs.delta.is_rising.Given as goal

abbrev pub invariant-loop-i : goal.invariant-loop-i
invariant-loop-i l = Rises l.attr (take l.i l.kept.items)

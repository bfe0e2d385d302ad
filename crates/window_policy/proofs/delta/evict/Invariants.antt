use Rattle.window_policy.proofs.Deltas.{Passing}
use Rattle.window_policy.proofs.delta.evict.Given as goal

abbrev pub invariant-loop-turn : goal.invariant-loop-turn
invariant-loop-turn l = Passing l.attr l.limit l.new l.turn l.fn.kept.items l.kept.items

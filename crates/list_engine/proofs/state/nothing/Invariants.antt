use Rattle.std.proofs.Common.{◌≡◌, None, replicate}
use Rattle.list_engine.proofs.state.nothing.Given as goal

abbrev pub invariant-places : goal.invariant-places
invariant-places g l = l.places ≡ replicate l.counter None

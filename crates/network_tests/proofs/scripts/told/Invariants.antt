use Rattle.std.proofs.Common.{◌≡◌}
use Rattle.network_tests.proofs.scripts.told.Given as goal

abbrev pub invariant-loop-word : goal.invariant-loop-word
invariant-loop-word g l = g.M.Merges.width l.merger ≡ l.width

use Rattle.std.proofs.Common.{◌≡◌, ◌≤◌}
use Rattle.network_tests.proofs.many.given.Given as goal

abbrev pub invariant-loop-number : goal.invariant-loop-number
invariant-loop-number g l = (g.M.Merges.width l.merger ≡ l.width) × (1 ≤ l.width)

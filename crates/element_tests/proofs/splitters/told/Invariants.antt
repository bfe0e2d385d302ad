use Rattle.std.proofs.Common.{◌≤◌}
use Rattle.element_tests.specs.Driving.{Splits}
use Rattle.element_tests.proofs.splitters.told.Given as goal

-- more may come, and not too many came
abbrev pub invariant-words : goal.invariant-words
invariant-words l = Splits l.width l.sent l.splitter × (l.sent ≤ 1000000)

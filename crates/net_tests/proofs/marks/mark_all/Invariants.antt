use Rattle.std.proofs.Common.{◌≡◌, length}
use Rattle.net_tests.proofs.marks.mark_all.Given as goal

abbrev pub invariant-loop-word : goal.invariant-loop-word
invariant-loop-word l = length l.places ≡ l.count

use Rattle.std.proofs.Common.{◌≡◌, drop}
use Rattle.cycle_rules.specs.steps.Makers.{covers_from}
use Rattle.cycle_rules.proofs.order.are_covered.Given as goal

abbrev pub invariant-loop-at : goal.invariant-loop-at
invariant-loop-at l = covers_from 0 l.row l.flags ≡ covers_from l.at (drop l.at l.row) l.flags

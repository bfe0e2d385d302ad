use Rattle.std.proofs.Common.{◌-◌, length}
use Rattle.cycle_rules.proofs.Reaching.{Searched}
use Rattle.cycle_rules.proofs.calls.add_leading.Given as goal

abbrev pub invariant-told : goal.invariant-told
invariant-told l = Searched l.callers l.place l.found l.told

abbrev pub decreases-told : goal.decreases-told
decreases-told l = length l.callers - l.told

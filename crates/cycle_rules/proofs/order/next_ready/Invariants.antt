use Rattle.std.proofs.Common.{◌≡◌, drop, map}
use Rattle.cycle_rules.specs.steps.Makers.{covers_all, first_ready}
use Rattle.cycle_rules.proofs.order.next_ready.Given as goal

abbrev pub invariant-loop-place : goal.invariant-loop-place
invariant-loop-place l =
    first_ready l.flags 0 (map (covers_all l.flags) l.rows) ≡ first_ready l.flags l.place (map (covers_all l.flags) (drop l.place l.rows))

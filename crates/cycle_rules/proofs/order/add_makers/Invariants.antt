use Rattle.std.proofs.Common.{◌≡◌, List, length, take}
use Rattle.std.specs.Prelude.{Bool, ◌&&◌}
use Rattle.cycle_rules.specs.steps.Makers.{covers, are_made}
use Rattle.cycle_rules.proofs.order.add_makers.Given as goal

abbrev pub invariant-loop-number : goal.invariant-loop-number
invariant-loop-number l =
    (flags : List Bool) → length flags ≡ length l.initial.row → covers l.row flags ≡ (covers l.initial.row flags && are_made l.streams flags (take l.number-index l.numbers))

use Rattle.std.proofs.Common.{◌≡◌, List, length, take}
use Rattle.std.specs.Prelude.{Bool, ◌&&◌}
use Rattle.std.specs.List.{concat}
use Rattle.cycle_rules.specs.steps.Makers.{covers, are_made}
use Rattle.cycle_rules.proofs.order.add_all_makers.Given as goal

abbrev pub invariant-loop-port : goal.invariant-loop-port
invariant-loop-port l =
    (flags : List Bool) → length flags ≡ length l.initial.row → covers l.row flags ≡ (covers l.initial.row flags && are_made l.streams flags (concat (take l.port-index l.ports)))

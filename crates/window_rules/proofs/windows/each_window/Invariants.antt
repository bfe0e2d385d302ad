use Rattle.std.proofs.Common.{◌≡◌, drop}
use Rattle.language_model.specs.Checking.{each_window}
use Rattle.language_model.specs.Finds.{with_front}
use Rattle.window_rules.proofs.windows.each_window.Given as goal

abbrev pub invariant-loop-port : goal.invariant-loop-port
invariant-loop-port l = each_window l.at l.windows 0 l.ports ≡ with_front l.policies (each_window l.at l.windows l.port (drop l.port l.ports))

use Rattle.std.proofs.Common.{◌≡◌, drop}
use Rattle.language_model.specs.Checking.{are_passed}
use Rattle.stream_rules.proofs.ports.are_passed.Given as goal

abbrev pub invariant-loop-at : goal.invariant-loop-at
invariant-loop-at l = are_passed l.input l.outputs l.schemas ≡ are_passed l.input (drop l.at l.outputs) (drop l.at l.schemas)

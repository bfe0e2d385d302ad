use Rattle.std.proofs.Common.{◌≡◌, ◌≤◌, ◌-◌, length, drop}
use Rattle.command_line.specs.Arguments.{arguments, texts}
use Rattle.command_line.specs.steps.Steps.{with_front}
use Rattle.command_line.proofs.arguments.read_arguments.Given as goal

abbrev pub invariant-loop-at : goal.invariant-loop-at
invariant-loop-at l = record {
  read : with_front l.read (arguments (drop l.at (texts l.words))) ≡ arguments (texts l.words);
  within : l.at ≤ length l.words;
}

abbrev pub decreases-loop-at : goal.decreases-loop-at
decreases-loop-at l = length l.words - l.at

use Rattle.std.proofs.Common.{◌≡◌, map}
use Rattle.window_policy.specs.Answers.{entry_of}
use Rattle.window_policy.specs.steps.Parts.{taken}
use Rattle.window_policy.proofs.mark.contents.Given as goal

abbrev pub invariant-loop-key : goal.invariant-loop-key
invariant-loop-key l = map entry_of l.flushed ≡ map taken l.yielded

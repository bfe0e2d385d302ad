use Rattle.std.proofs.Common.{◌≡◌, map}
use Rattle.window_policy.specs.Running.{content_summed_of}
use Rattle.window_policy.specs.steps.Sums.{taken_sums}
use Rattle.window_policy.proofs.running_calls.summed_contents.Given as goal

abbrev pub invariant-loop-key : goal.invariant-loop-key
invariant-loop-key l = map content_summed_of l.list ≡ map taken_sums l.yielded

use Rattle.std.proofs.Common.{◌≡◌, length}
use Rattle.elements.specs.Inputs.{all_ended}
use Rattle.elements.proofs.input.all_ended.Given as goal

abbrev pub invariant-inputs : goal.invariant-inputs
invariant-inputs l = all_ended l.rest ≡ all_ended l.fn.inputs

abbrev pub decreases-inputs : goal.decreases-inputs
decreases-inputs l = length l.rest

use Rattle.std.proofs.Common.{◌≡◌, ◌+◌, length}
use Rattle.elements.specs.Outputs.{first_open}
use Rattle.elements.proofs.output.first_open.Given as goal

abbrev pub invariant-outputs : goal.invariant-outputs
invariant-outputs l = (first_open l.at l.rest ≡ first_open 0 l.fn.outputs) × (l.at + length l.rest ≡ length l.fn.outputs)

abbrev pub decreases-outputs : goal.decreases-outputs
decreases-outputs l = length l.rest

use Rattle.std.proofs.Common.{◌≡◌, ◌+◌, length}
use Rattle.element_outboxes.specs.Waiting.{outputs_in}
use Rattle.elements.proofs.new.count_outputs.Given as goal

abbrev pub invariant-counts : goal.invariant-counts
invariant-counts l = l.all + outputs_in l.rest ≡ outputs_in l.fn.counts

abbrev pub decreases-counts : goal.decreases-counts
decreases-counts l = length l.rest

use Rattle.std.proofs.Common.{◌≡◌, take}
use Rattle.element_outboxes.specs.Waiting.{fans_from, outputs_in}
use Rattle.element_outboxes.proofs.fan.fans_of.Given as goal

abbrev pub invariant-loop-count : goal.invariant-loop-count
invariant-loop-count l = (l.fans ≡ fans_from 0 (take l.count-index l.counts)) × (l.first ≡ outputs_in (take l.count-index l.counts))

use Rattle.std.proofs.Common.{◌≡◌, ◌≤◌, length, take}
use Rattle.stream_model.specs.CheckedMeaning.{graph_of}
use Rattle.stream_model.specs.Meaning.{Graph}
use Rattle.attribute_flow.specs.Chains.{traced}
use Rattle.attribute_flow.proofs.flow.trace.Given as goal

abbrev pub decreases-operators : goal.decreases-operators
decreases-operators l = l.left

abbrev pub invariant-operators : goal.invariant-operators
invariant-operators l = record {
  within : l.left ≤ length l.chain;
  same : (g : Graph) → graph_of l.checked ≡ g → traced g l.chain l.attr ≡ traced g (take l.left l.chain) l.attribute;
}

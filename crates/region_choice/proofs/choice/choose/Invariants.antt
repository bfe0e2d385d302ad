use Rattle.std.proofs.Common.{◌≡◌, [], take}
use Rattle.stream_model.specs.CheckedMeaning.{graph_of}
use Rattle.stream_model.specs.Meaning.{Graph}
use Rattle.region_choice.specs.steps.Choices.{IsStanding, numbers_of}
use Rattle.region_choice.specs.steps.Choosing.{chosen_from}
use Rattle.region_choice.specs.steps.GraphChains.{chains_of}
use Rattle.region_choice.proofs.choice.choose.Given as goal

abbrev pub invariant-loop-op : goal.invariant-loop-op
invariant-loop-op l = record {
  standing : (g : Graph) → graph_of l.checked ≡ g → IsStanding g l.choice;
  numbers : (g : Graph) → graph_of l.checked ≡ g → numbers_of l.choice ≡ chosen_from (chains_of g) [] (take l.op-index l.checked.graph.topo);
}

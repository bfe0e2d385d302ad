use Rattle.std.proofs.Common.{◌≡◌, suc, List}
use Rattle.spl_tree.specs.declared.graph.Graph.{Graph}
use Rattle.spl_tree.specs.declared.unit.Definition.{Definition}
use Rattle.language_model.specs.StreamTypes.{attributes_within, stream_attributes}
use Rattle.stream_rules.specs.steps.Origins.{IsLed}
use Rattle.stream_rules.proofs.origins.Leads.last.Given as goal

abbrev pub invariant-steps : goal.invariant-steps
invariant-steps l = (unit : List Definition) (g : Graph) → IsLed unit g l.self → stream_attributes unit g l.stream ≡ attributes_within (suc l.left) unit g l.at

abbrev pub decreases-steps : goal.decreases-steps
decreases-steps l = l.left

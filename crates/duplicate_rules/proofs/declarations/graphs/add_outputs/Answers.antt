use Rattle.std.proofs.Common.{refl, sym, ◌∙◌}
use Rattle.language_model.specs.Declarations.{OutputPort}
use Rattle.duplicate_rules.proofs.GraphNames.{added_on, added_past}
use Rattle.duplicate_rules.proofs.declarations.graphs.add_outputs.Goals as goal

pub loop-port-preserved : goal.loop-port-preserved
loop-port-preserved c =
    added_on (λ x. OutputPort x.name) c.args.ports.now c.loop-port.port-index c.loop-port.names.items c.push.new.self.items c.port-item.result _ c.loop-port-test.true c.port-item.is c.in_ok-push.ensures.items refl
    ∙ c.loop-port.invariant

pub returns : goal.returns
returns c = sym (added_past (λ x. OutputPort x.name) c.args.ports.now c.loop-port.port-index c.loop-port.names.items c.loop-port-test.false) ∙ c.loop-port.invariant

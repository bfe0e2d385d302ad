use Rattle.std.proofs.Common.{◌∙◌, ap, map}
use Rattle.output_rules.proofs.OutputIndex.{from_scope}
use Rattle.output_rules.proofs.outputs.attributes.Inputs.taken_over.Goals as goal
use Rattle.language_model.proofs.FoundAnswers.{finds_by}

pub returns : goal.returns
returns c =
    let self = c.args.self.now in
    let ports = c.as_slice.result.now in
    finds_by _ _ _ (from_scope self.scope.now c.args.at c.args.attribute.now (map (λ x. x.schema.now) ports) (ap (λ ps. map (λ x. x.schema.now) ps) c.as_slice.ensures.value ∙ self.same))
    c.from_ports.ensures

use Rattle.std.proofs.Common.{[], ◌∷◌, ◌++◌, ap, sym, ◌∙◌}
use Rattle.language_model.specs.parts.OutputTyping.{collected}
use Rattle.output_rules.proofs.OutputRows.{collected_on}
use Rattle.output_rules.proofs.outputs.groups.collected.Goals as goal

pub loop-attribute-preserved : goal.loop-attribute-preserved
loop-attribute-preserved c =
    c.in_ok-push.ensures.ok
    ∙ ap (λ l. l ++ c.collects.result ∷ []) c.loop-attribute.invariant
    ∙ ap (λ x. collected c.loop-attribute.yielded ++ x ∷ []) c.collects.ensures
    ∙ sym (collected_on c.loop-attribute.yielded (c.in-Some.attribute, c.in-Some.gathers))

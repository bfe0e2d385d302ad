use Rattle.language_model.specs.CodeFits.{CodeFits}
use Rattle.language_texts.proofs.Steps.{value_fits}
use Rattle.language_texts.proofs.context.Context.value_of.Goals as goal

pub returns-in-Value : goal.returns-in-Value
returns-in-Value c =
    let fit : CodeFits c.args.self.now.scope c.get.result.now c.in_ok-kind.field-0.kind = rw c.get.ensures c.in_ok-kind.ensures in
    rw c.into_inner.ensures
    (value_fits c.evaluation_law.ensures.never_stuck c.args.self.now.scope c.args.self.now.env c.args.self.now.functions c.get.result.now c.in_ok-kind.field-0.kind
    c.requires fit _ _ c.in-Value.value c.in-Value.ensures)

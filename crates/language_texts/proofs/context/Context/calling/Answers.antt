use Rattle.language_texts.proofs.Steps.{unit_holds}
use Rattle.language_texts.proofs.context.Context.calling.Goals as goal

pub returns : goal.returns
returns c =
    unit_holds c.bodies_law.ensures.fits c.bodies_law.ensures.returns c.dollars_law.ensures.none c.args.unit.now c.in_ok-scope.scope c.is_some.result _
    c.in_ok-functions.functions c.in_ok-functions.ensures c.in_ok-scope.ensures c.is_some.ensures c.new-2.ensures c.new.ensures

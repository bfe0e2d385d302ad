use Rattle.std.proofs.Common.{refl}
use Rattle.std.proofs.lemmas.Result.{IfOk-weaker}
use Rattle.composite_expand.proofs.Comes.{numbered_is}
use Rattle.composite_expand.proofs.graph.numbered.Goals as goal

pub returns : goal.returns
returns c =
    IfOk-weaker c.number_streams.result _ _
    (λ parts gives main is. numbered_is c.args.composites.now.unit.now main c.args.walk is parts _ _ _ refl c.as_slice.ensures c.as_slice-2.ensures gives)
    c.number_streams.ensures

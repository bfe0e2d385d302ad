use Rattle.composite_expand.proofs.Steps.{row_of, row_there}
use Rattle.composite_expand.proofs.walk.connections_at.Goals as goal

pub returns : goal.returns
returns c = λ unit main is.
    c.connections.ensures is.at.made.expansions
    (row_of unit main c.args.walk.now c.args.top c.args.scope.now.composite.now c.args.invocation.now is c.as_slice-2.result.now
    (row_there c.args.walk.now.inputs c.as_slice.result.now c.args.top.number c.index-as_slice-top.result c.as_slice-2.result.now c.as_slice.ensures c.requires c.index-as_slice-top.is c.as_slice-2.ensures))

use Rattle.composite_expand.proofs.Steps.{inputs_stand, row_there}
use Rattle.composite_expand.proofs.walk.inner_inputs.Goals as goal
use Rattle.spl_value.proofs.Results.{ok_weaker}

pub returns : goal.returns
returns c =
    ok_weaker c.inputs_of.result _ _ (λ inputs gives unit main d is fits.
    inputs_stand unit main c.args.walk.now c.args.top c.args.scope.now.composite.now c.args.invocation.now is c.as_slice-2.result.now inputs
    (row_there c.args.walk.now.inputs c.as_slice.result.now c.args.top.number c.index-as_slice-top.result c.as_slice-2.result.now c.as_slice.ensures c.requires c.index-as_slice-top.is c.as_slice-2.ensures)
    d fits gives) c.inputs_of.ensures

use Rattle.evaluation_tests.proofs.Runs.{handler_is_fit}
use Rattle.evaluation_tests.proofs.bodies.run_unit.Goals as goal

pub run-requires : goal.run-requires
run-requires c =
    handler_is_fit c.args.context.scope c.args.context.env c.args.context.functions _ c.in_ok-body.body c.requires c.in_ok-body.ensures.fits

use Rattle.std.specs.Prelude.{◌≡◌, []}
use Rattle.std.proofs.Common.{refl}
use Rattle.evaluation_tests.proofs.Runs.{body_fits}
use Rattle.evaluation_tests.proofs.bodies.body_code.Goals as goal

pub returns-clause-fits : goal.returns-clause-fits
returns-clause-fits c =
    let none : c.args.scope.now.dollars ≡ [] = c.if-not-is_empty.ensures.0 refl in
    body_fits c.bodies_law.ensures.fits c.dollars_law.ensures.none _ _ c.args.scope.now _ c.in_ok-body.body refl none c.in_ok-body.ensures.code

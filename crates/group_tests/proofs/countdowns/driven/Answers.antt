use Rattle.std.proofs.Common.{[], arith}
use Rattle.spl_value.specs.Numbered.{ByTurns}
use Rattle.spl_value.specs.declared.routing.Routing.TheVariants as R
use Rattle.network_model.specs.Networks.{Splitter}
use Rattle.group_tests.proofs.countdowns.driven.Goals as goal

pub run-back-requires-clause-groups : goal.run-back-requires-clause-groups
run-back-requires-clause-groups g c κs lives = (8, omega (arith, c.requires.1), omega arith, c.in-Ok.ensures.groups)

pub run-back-requires-clause-runs : goal.run-back-requires-clause-runs
run-back-requires-clause-runs g c κs lives = (
  (λ number. Splitter (record { entry = 0; exit = 0; ops = []; routing = R.Turns; rule = ByTurns; width = 1 })),
  (λ i d below. omega arith),
)

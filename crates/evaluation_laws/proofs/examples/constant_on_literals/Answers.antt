use Rattle.evaluation_laws.proofs.OneHandler.{alone_fits, none_mutable, alone_left}
use Rattle.evaluation_laws.proofs.examples.constant_on_literals.Goals as goal

pub returns : goal.returns
returns c = record { fits = alone_fits; constant = none_mutable; leaves = alone_left }

use Rattle.std.proofs.Common.{sym, subst}
use Rattle.element_tests.specs.Driving.{Splits}
use Rattle.element_tests.proofs.Dividing.{first_split}
use Rattle.element_tests.proofs.splitters.add_told.Goals as goal

pub told-requires : goal.told-requires
told-requires c = subst (Splits c.args.width 0) (sym c.new.ensures) (first_split c.in_ok-routing.routing c.args.width c.in_ok-routing.ensures)

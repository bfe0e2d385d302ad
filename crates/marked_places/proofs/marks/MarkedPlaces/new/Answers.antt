use Rattle.std.proofs.Common.{◌+◌, ◌/◌, arith}
use Rattle.marked_places.proofs.Marking.{counted-none}
use Rattle.marked_places.proofs.marks.MarkedPlaces.new.Goals as goal

pub invariant_of-result : goal.invariant_of-result
invariant_of-result c =
    counted-none _ _ _ c.args.places (c.args.places / 32 + 1) ((c.args.places / 32 + 1) / 32 + 1) c.in_ok-no_marks.ensures c.in_ok-zeros.ensures c.in_ok-zeros-2.ensures
    c.requires.few (omega arith) (omega arith)

use Rattle.std.proofs.Common.{◌<◌, arith, refl, false}
use Rattle.marked_places.proofs.Marking.{can_all, counted_after}
use Rattle.marked_places.proofs.marks.MarkedPlaces.unmark.Goals as goal

pub lower-requires : goal.lower-requires
lower-requires c =
    let can = can_all c.self.inside.marks c.self.inside.groups c.self.inside.blocks c.self.inside.all c.args.place c.args.self.now false c.self.invariant c.self.view_is c.requires.marked in
    record { within = can.in_groups; some = can.group }

pub lower-requires-2 : goal.lower-requires-2
lower-requires-2 c =
    let can = can_all c.self.inside.marks c.self.inside.groups c.self.inside.blocks c.self.inside.all c.args.place c.args.self.now false c.self.invariant c.self.view_is c.requires.marked in
    record { within = can.in_blocks; some = can.block }

pub invariant_of-self : goal.invariant_of-self
invariant_of-self c =
    counted_after c.self.inside.marks c.self.inside.groups c.self.inside.blocks c.self.inside.all c.args.place c.args.self.now false c.self.invariant c.self.view_is c.requires.marked
    _ _ _ _ c.set.ensures c.lower.ensures c.lower-2.ensures refl

pub overflow_sub-self : goal.overflow_sub-self
overflow_sub-self c =
    let can = can_all c.self.inside.marks c.self.inside.groups c.self.inside.blocks c.self.inside.all c.args.place c.args.self.now false c.self.invariant c.self.view_is c.requires.marked in
    let some : 0 < c.self.inside.all = can.whole in
    omega arith

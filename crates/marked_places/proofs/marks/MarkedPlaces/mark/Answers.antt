use Rattle.std.proofs.Common.{◌+◌, ◌^◌, ◌<◌, arith, refl, true}
use Rattle.marked_places.proofs.Marking.{can_all, counted_after}
use Rattle.marked_places.proofs.marks.MarkedPlaces.mark.Goals as goal

pub raise-requires : goal.raise-requires
raise-requires c =
    let can = can_all c.self.inside.marks c.self.inside.groups c.self.inside.blocks c.self.inside.all c.args.place c.args.self.now true c.self.invariant c.self.view_is c.requires.unmarked in
    record { within = can.in_groups; room = can.group }

pub raise-requires-2 : goal.raise-requires-2
raise-requires-2 c =
    let can = can_all c.self.inside.marks c.self.inside.groups c.self.inside.blocks c.self.inside.all c.args.place c.args.self.now true c.self.invariant c.self.view_is c.requires.unmarked in
    record { within = can.in_blocks; room = can.block }

pub invariant_of-self : goal.invariant_of-self
invariant_of-self c =
    counted_after c.self.inside.marks c.self.inside.groups c.self.inside.blocks c.self.inside.all c.args.place c.args.self.now true c.self.invariant c.self.view_is c.requires.unmarked
    _ _ _ _ c.set.ensures c.raise.ensures c.raise-2.ensures refl

pub overflow_add-self : goal.overflow_add-self
overflow_add-self c =
    let can = can_all c.self.inside.marks c.self.inside.groups c.self.inside.blocks c.self.inside.all c.args.place c.args.self.now true c.self.invariant c.self.view_is c.requires.unmarked in
    let room : c.self.inside.all + 1 < 2 ^ 32 = can.whole in
    omega arith

use Rattle.std.proofs.Common.{◌<◌, ◌^◌, arith}
use Rattle.marked_places.proofs.Marking.{in_blocks, in_groups, in_marks, is_few, is_nth}
use Rattle.marked_places.proofs.marks.MarkedPlaces.nth.Goals as goal

pub find-block-requires : goal.find-block-requires
find-block-requires c =
    let there = in_blocks c.self.inside.marks c.self.inside.groups c.self.inside.blocks c.self.inside.all c.args.n c.args.self.now c.self.invariant c.self.view_is c.requires.few in
    record { there = omega arith }

pub find-group-requires : goal.find-group-requires
find-group-requires c = record {
  there = in_groups c.self.inside.marks c.self.inside.groups c.self.inside.blocks c.self.inside.all c.args.n c.args.self.now c.self.invariant c.self.view_is c.requires.few
      c.find-block.result.at c.find-block.result.within (omega (arith, c.find-block.ensures.unit));
}

pub find_mark-requires : goal.find_mark-requires
find_mark-requires c = record {
  there = in_marks c.self.inside.marks c.self.inside.groups c.self.inside.blocks c.self.inside.all c.args.n c.args.self.now c.self.invariant c.self.view_is c.requires.few
      c.find-block.result.at c.find-block.result.within c.find-group.result.at c.find-group.result.within (omega (arith, c.find-block.ensures.unit)) c.find-group.ensures.unit;
}

pub overflow_cast-result : goal.overflow_cast-result
overflow_cast-result c =
    let few : c.find_mark.result < 2 ^ 32 = is_few c.self.inside.marks c.self.inside.groups c.self.inside.blocks c.self.inside.all c.args.n c.args.self.now c.self.invariant c.self.view_is c.requires.few
    c.find_mark.result c.find_mark.ensures.marked in
    omega arith

pub returns : goal.returns
returns c =
    is_nth c.self.inside.marks c.self.inside.groups c.self.inside.blocks c.self.inside.all c.args.n c.args.self.now c.self.invariant c.self.view_is c.requires.few
    c.find-block.result.at c.find-block.result.within c.find-group.result.at c.find-group.result.within c.find_mark.result (omega (arith, c.find-block.ensures.unit)) c.find-group.ensures.unit
    c.find_mark.ensures.mark c.find_mark.ensures.marked

use Rattle.std.proofs.Common.{rules, ◌≡◌, Some, slice_get}
use Rattle.op_kit.proofs.Making.{is_there}
use Rattle.op_kit.proofs.operators.operator_at.Goals as goal

pub new-requires : goal.new-requires
new-requires c =
    let has : slice_get c.args.checked.now.parts c.args.number ≡ Some c.in-Some.part.now = search rules in
    record {
      there = c.requires.there;
      kind = is_there c.args.checked.now c.args.number c.in-Some.part.now has c.in_default-part.not-FileSource;
    }

use Rattle.std.proofs.Common.{arith}
use Rattle.value_operations.proofs.Indexes.{not_integer, place_within, place_past, place_below}
use Rattle.value_operations.proofs.changes.place_in.Goals as goal

pub unreachable-requires : goal.unreachable-requires
unreachable-requires c = not_integer c.args.index.now c.requires c.in_default.not-Int

pub returns-in_default-try_from : goal.returns-in_default-try_from
returns-in_default-try_from c = place_below c.args.index.now c.requires c.args.length c.in-Int.index c.in-Int.is c.in_default-try_from.ensures

pub returns-then-at-length : goal.returns-then-at-length
returns-then-at-length c =
    place_within c.args.index.now c.requires c.args.length c.in-Int.index c.in-Int.is c.in-Ok.at c.in-Ok.ensures.0 c.in-Ok.ensures.1 (omega (arith, c.if-at-length.true))

pub returns-else-at-length : goal.returns-else-at-length
returns-else-at-length c =
    place_past c.args.index.now c.requires c.args.length c.in-Int.index c.in-Int.is c.in-Ok.at c.in-Ok.ensures.0 c.in-Ok.ensures.1 (omega (arith, c.if-at-length.false))

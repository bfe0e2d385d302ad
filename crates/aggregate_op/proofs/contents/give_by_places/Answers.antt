use Rattle.std.proofs.Common.{map, ap, ◌∙◌}
use Rattle.tuple_groups.specs.Seen.{entry_of}
use Rattle.aggregate_op.specs.steps.Giving.{groups_given}
use Rattle.aggregate_op.proofs.contents.give_by_places.Goals as goal

pub give_groups-requires : goal.give_groups-requires
give_groups-requires c =
    let are = ap (map entry_of) c.as_slice.ensures.value ∙ c.in_ok-groups.ensures in
    (c.requires.0, ap (groups_given c.args.clauses.now) are ∙ c.requires.1)

pub returns : goal.returns
returns c given e =
    let are = ap (map entry_of) c.as_slice.ensures.value ∙ c.in_ok-groups.ensures in
    c.in_ok-give_groups.ensures given (ap (groups_given c.args.clauses.now) are ∙ e)

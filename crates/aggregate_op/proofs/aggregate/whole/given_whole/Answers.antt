use Rattle.std.proofs.Common.{ap, ◌∙◌}
use Rattle.aggregate_op.specs.steps.Giving.{content_given}
use Rattle.aggregate_op.proofs.GivingSteps.{one_given, one_there}
use Rattle.aggregate_op.proofs.aggregate.whole.given_whole.Goals as goal

pub give_tuples-requires : goal.give_tuples-requires
give_tuples-requires c =
    let x = c.args.clauses.now in
    let one = one_there x c.args.tuples c.requires.0 c.requires.1 in
    (one.0, ap (content_given x) c.as_slice.ensures ∙ one.1)

pub returns : goal.returns
returns c =
    let x = c.args.clauses.now in
    let one = one_there x c.args.tuples c.requires.0 c.requires.1 in
    one_given x c.args.tuples one.0 c.new-outs.result _ one.1 c.new-outs.ensures (c.in_ok-give_tuples.ensures one.0 (ap (content_given x) c.as_slice.ensures ∙ one.1))

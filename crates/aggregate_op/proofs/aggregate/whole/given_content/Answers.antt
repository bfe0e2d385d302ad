use Rattle.aggregate_op.proofs.GivingSteps.{one_given, one_there}
use Rattle.aggregate_op.proofs.aggregate.whole.given_content.Goals as goal

pub give_held-requires : goal.give_held-requires
give_held-requires c = one_there c.args.clauses.now c.args.content.now c.requires.0 c.requires.1

pub returns : goal.returns
returns c =
    let x = c.args.clauses.now in
    let one = one_there x c.args.content.now c.requires.0 c.requires.1 in
    one_given x c.args.content.now one.0 c.new-outs.result _ one.1 c.new-outs.ensures (c.in_ok-give_held.ensures one.0 one.1)

use Rattle.aggregate_op.proofs.GivingSteps.{one_answer_given, one_answer_there}
use Rattle.aggregate_op.proofs.sums.given_answers.Goals as goal

pub give_answers-requires : goal.give_answers-requires
give_answers-requires c = one_answer_there c.args.clauses.now c.args.answers.now c.requires.0 c.requires.1

pub returns : goal.returns
returns c =
    let x = c.args.clauses.now in
    let one = one_answer_there x c.args.answers.now c.requires.0 c.requires.1 in
    one_answer_given x c.args.answers.now one.0 c.new-outs.result _ one.1 c.new-outs.ensures (c.in_ok-give_answers.ensures one.0 one.1)

use Rattle.std.proofs.Common.{drop, map, ap, ◌+◌, ◌++◌, arith}
use Rattle.spl_value.proofs.Lists.{drop_at}
use Rattle.aggregate_op.specs.steps.Summing.{made_by}
use Rattle.aggregate_op.proofs.GivingSteps.{answers_more, answers_there}
use Rattle.aggregate_op.proofs.sums.give_sums.Goals as goal

pub give_answers-requires : goal.give_answers-requires
give_answers-requires c =
    let g = c.content-item.result in
    let gs = c.args.list.now in
    let i = c.loop-content.content-index in
    let is = ap (map made_by) (drop_at gs i g (omega arith) c.content-item.is) in
    answers_there c.args.clauses.now (made_by g) (map made_by (drop i gs)) (map made_by (drop (i + 1) gs)) c.loop-content.outs
    (c.args.outs.now ++ c.requires.0) is (c.loop-content.invariant c.requires.0 c.requires.1)

pub loop-content-preserved : goal.loop-content-preserved
loop-content-preserved c given e =
    let g = c.content-item.result in
    let gs = c.args.list.now in
    let i = c.loop-content.content-index in
    let is = ap (map made_by) (drop_at gs i g (omega arith) c.content-item.is) in
    let there = answers_there c.args.clauses.now (made_by g) (map made_by (drop i gs)) (map made_by (drop (i + 1) gs)) c.loop-content.outs
    (c.args.outs.now ++ given) is (c.loop-content.invariant given e) in
    answers_more c.args.clauses.now (made_by g) (map made_by (drop i gs)) (map made_by (drop (i + 1) gs)) c.loop-content.outs _
    (c.args.outs.now ++ given) there.0 is there.1 (c.in_ok-give_answers.ensures there.0 there.1) (c.loop-content.invariant given e)

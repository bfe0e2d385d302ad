use Rattle.std.proofs.Common.{drop, map, ap, ◌∙◌, ◌+◌, ◌++◌, arith}
use Rattle.window_policy.specs.declared.fired.FlushedContent.{FlushedContent}
use Rattle.aggregate_op.specs.steps.Giving.{content_given}
use Rattle.spl_value.proofs.Lists.{drop_at}
use Rattle.aggregate_op.proofs.GivingSteps.{content_more, content_there}
use Rattle.aggregate_op.proofs.contents.give_flushed.Goals as goal

pub give_tuples-requires : goal.give_tuples-requires
give_tuples-requires c =
    let g = c.content-item.result in
    let gs = c.args.flushed.now in
    let i = c.loop-content.content-index in
    let is = ap (map (λ (e : FlushedContent). e.tuples)) (drop_at gs i g (omega arith) c.content-item.is) in
    let there = content_there c.args.clauses.now g.tuples (map (λ (e : FlushedContent). e.tuples) (drop i gs)) (map (λ (e : FlushedContent). e.tuples) (drop (i + 1) gs)) c.loop-content.outs
    (c.args.outs.now ++ c.requires.0) is (c.loop-content.invariant c.requires.0 c.requires.1) in
    (there.0, ap (content_given c.args.clauses.now) c.as_slice.ensures ∙ there.1)

pub loop-content-preserved : goal.loop-content-preserved
loop-content-preserved c given e =
    let g = c.content-item.result in
    let gs = c.args.flushed.now in
    let i = c.loop-content.content-index in
    let is = ap (map (λ (e : FlushedContent). e.tuples)) (drop_at gs i g (omega arith) c.content-item.is) in
    let there = content_there c.args.clauses.now g.tuples (map (λ (e : FlushedContent). e.tuples) (drop i gs)) (map (λ (e : FlushedContent). e.tuples) (drop (i + 1) gs)) c.loop-content.outs
    (c.args.outs.now ++ given) is (c.loop-content.invariant given e) in
    content_more c.args.clauses.now g.tuples (map (λ (e : FlushedContent). e.tuples) (drop i gs)) (map (λ (e : FlushedContent). e.tuples) (drop (i + 1) gs)) c.loop-content.outs _
    (c.args.outs.now ++ given) there.0 is there.1 (c.in_ok-give_tuples.ensures there.0 (ap (content_given c.args.clauses.now) c.as_slice.ensures ∙ there.1)) (c.loop-content.invariant given e)

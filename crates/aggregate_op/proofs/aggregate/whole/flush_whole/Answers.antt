use Rattle.std.proofs.Common.{◌++◌, Some, sym, ap, ◌∙◌}
use Rattle.aggregate_op.specs.steps.Giving.{contents_given}
use Rattle.aggregate_op.proofs.GivingSteps.{flushed_tuples, tuples_in}
use Rattle.aggregate_op.proofs.aggregate.whole.flush_whole.Goals as goal

pub give_flushed-requires : goal.give_flushed-requires
give_flushed-requires c =
    let there = c.requires in
    let are = ap tuples_in c.as_slice.ensures ∙ flushed_tuples c.in_ok-flushed.flushed _ (c.in_ok-flushed.ensures.flushed there.0 there.1 there.3) in
    (there.2, ap (contents_given c.args.clauses.now) are ∙ there.4)

pub returns-clause-outs : goal.returns-clause-outs
returns-clause-outs c rule h stood =
    let x = c.args.clauses.now in
    let there = c.requires in
    let are = ap tuples_in c.as_slice.ensures ∙ flushed_tuples c.in_ok-flushed.flushed _ (c.in_ok-flushed.ensures.flushed there.0 there.1 there.3) in
    let also = ap tuples_in c.as_slice.ensures ∙ flushed_tuples c.in_ok-flushed.flushed _ (c.in_ok-flushed.ensures.flushed rule h stood) in
    let all = ap (contents_given x) are ∙ there.4 in
    ap (contents_given x) (sym also) ∙ all ∙ ap Some (sym (c.in_ok-give_flushed.ensures there.2 all ∙ ap (λ os. os ++ there.2) c.new-outs.ensures))

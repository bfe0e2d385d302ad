use Rattle.std.proofs.Common.{drop, map, ap, ◌∙◌, ◌+◌, ◌++◌, arith}
use Rattle.tuple_groups.specs.Seen.{entry_of, seen}
use Rattle.aggregate_op.specs.steps.Giving.{tuple_given}
use Rattle.spl_value.proofs.Lists.{drop_at}
use Rattle.aggregate_op.proofs.GivingSteps.{group_more, group_there}
use Rattle.aggregate_op.proofs.contents.give_groups.Goals as goal

pub give_group-requires : goal.give_group-requires
give_group-requires c =
    let g = c.group-item.result in
    let gs = c.args.groups.now in
    let i = c.loop-group.group-index in
    let is = ap (map entry_of) (drop_at gs i g (omega arith) c.group-item.is) in
    let there = group_there c.args.clauses.now (entry_of g) (map entry_of (drop i gs)) (map entry_of (drop (i + 1) gs)) c.loop-group.outs (c.args.outs.now ++ c.requires.0) is
    (c.loop-group.invariant c.requires.0 c.requires.1) in
    (there.0, ap (λ us. tuple_given c.args.clauses.now (seen us)) c.as_slice.ensures.value ∙ there.1)

pub loop-group-preserved : goal.loop-group-preserved
loop-group-preserved c given e =
    let g = c.group-item.result in
    let gs = c.args.groups.now in
    let i = c.loop-group.group-index in
    let is = ap (map entry_of) (drop_at gs i g (omega arith) c.group-item.is) in
    let there = group_there c.args.clauses.now (entry_of g) (map entry_of (drop i gs)) (map entry_of (drop (i + 1) gs)) c.loop-group.outs (c.args.outs.now ++ given) is (c.loop-group.invariant given e) in
    group_more c.args.clauses.now (entry_of g) (map entry_of (drop i gs)) (map entry_of (drop (i + 1) gs)) c.loop-group.outs _ (c.args.outs.now ++ given) there.0 is there.1
    (c.in_ok-give_group.ensures there.0 (ap (λ us. tuple_given c.args.clauses.now (seen us)) c.as_slice.ensures.value ∙ there.1)) (c.loop-group.invariant given e)

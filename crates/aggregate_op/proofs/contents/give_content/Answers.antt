use Rattle.std.proofs.Common.{ap, ◌∙◌, ◌++◌, append_assoc}
use Rattle.stream_model.specs.parts.Aggregates.{marker_after}
use Rattle.stream_model.specs.Groups.{groups}
use Rattle.tuple_groups.specs.Seen.{seen}
use Rattle.aggregate_op.specs.steps.Giving.{groups_given}
use Rattle.aggregate_op.proofs.contents.give_content.Goals as goal
use Rattle.language_model.proofs.Options.{mapped}

pub give_grouped-requires : goal.give_grouped-requires
give_grouped-requires c =
    let x = c.args.clauses.now in
    let us = seen c.args.tuples.now in
    let there = mapped (λ outs. outs ++ marker_after x.window.now.rule) (groups_given x (groups x.group.now us)) c.requires.0 c.requires.1 in
    (there.0, there.1)

pub returns : goal.returns
returns c given e =
    let x = c.args.clauses.now in
    let us = seen c.args.tuples.now in
    let old = c.args.outs.now in
    let there = mapped (λ outs. outs ++ marker_after x.window.now.rule) (groups_given x (groups x.group.now us)) given e in
    c.in_ok-give_marker.ensures ∙ ap (λ os. os ++ marker_after x.window.now.rule) (c.in_ok-give_grouped.ensures there.0 there.1)
    ∙ append_assoc old there.0 (marker_after x.window.now.rule) ∙ ap (λ os. old ++ os) there.2

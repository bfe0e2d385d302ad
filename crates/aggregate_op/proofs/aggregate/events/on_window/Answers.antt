use Rattle.std.proofs.Common.{◌++◌, length, ap, sym, ◌∙◌}
use Rattle.language_model.specs.Outcomes.{Done, need}
use Rattle.stream_model.specs.parts.Aggregates.{marker_passed}
use Rattle.stream_model.specs.Bodies.{most_turns}
use Rattle.port_reacts.proofs.Answering.{replies_done}
use Rattle.aggregate_op.proofs.aggregate.events.on_window.Goals as goal

pub returns-in-Ok-clause-replies : goal.returns-in-Ok-clause-replies
returns-in-Ok-clause-replies c rule h stood =
    let x = c.args.clauses.now in
    let is = c.in-Ok.ensures.outs rule h stood in
    replies_done x.at.number (length x.at.op.now.outs) _ c.in-Ok.outs most_turns
    (ap (λ o. need o (λ outs. Done (outs ++ marker_passed x.window.now.rule) most_turns)) is.1 ∙ ap (λ os. Done os most_turns) (sym is.2))

use Rattle.std.proofs.Common.{List, sym, subst}
use Rattle.language_model.specs.declared.checked.WindowRule.{WindowRule}
use Rattle.stream_model.specs.Windows.{WindowEvent}
use Rattle.port_reacts.specs.PortReplies.{WhereOut}
use Rattle.aggregate_op.specs.Kept.{KeptStands}
use Rattle.aggregate_op.specs.steps.Firing.{events_after}
use Rattle.aggregate_op.proofs.aggregate.events.on_item.Goals as goal

pub returns-in-Tuple-clause-stands : goal.returns-in-Tuple-clause-stands
returns-in-Tuple-clause-stands c =
    subst (λ x. WhereOut c.on_tuple.result ((rule : WindowRule) (h : List WindowEvent) → KeptStands c.args.clauses.now rule c.args.kept.now h → KeptStands c.args.clauses.now rule c.on_tuple.new.kept (events_after c.args.clauses.now x h)))
    (sym c.in-Tuple.is) c.on_tuple.ensures.stands

pub returns-in-Window-clause-stands : goal.returns-in-Window-clause-stands
returns-in-Window-clause-stands c =
    subst (λ x. WhereOut c.on_window.result ((rule : WindowRule) (h : List WindowEvent) → KeptStands c.args.clauses.now rule c.args.kept.now h → KeptStands c.args.clauses.now rule c.on_window.new.kept (events_after c.args.clauses.now x h)))
    (sym c.in-Window.is) c.on_window.ensures.stands

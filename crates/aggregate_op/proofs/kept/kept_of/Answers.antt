use Rattle.std.proofs.Common.{[], List, subst, ap, sym, ◌∙◌}
use Rattle.language_model.specs.declared.checked.Collector.{Collector}
use Rattle.window_policy.specs.RunningStanding.{Runs}
use Rattle.aggregate_op.specs.Kept.{folds_of}
use Rattle.aggregate_op.proofs.KeptSteps.{sums_begin}
use Rattle.aggregate_op.proofs.kept.kept_of.Goals as goal

pub returns-in_ok-running : goal.returns-in_ok-running
returns-in_ok-running c =
    let x = c.args.clauses.now in
    sums_begin x c.requires (sym c.are_summed.ensures ∙ c.if-are_summed.true) c.in_ok-running.running
    (subst (λ (fs : List Collector). Runs x.window.now.rule fs c.in_ok-running.running []) (c.in_ok-folds.ensures ∙ ap folds_of c.as_slice.ensures) c.in_ok-running.ensures)

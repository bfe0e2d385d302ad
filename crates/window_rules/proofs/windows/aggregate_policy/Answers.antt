use Rattle.std.specs.Prelude.{Ok, Err}
use Rattle.std.proofs.Common.{ap, sym, refl, ◌∙◌}
use Rattle.language_model.specs.Policies.{aggregate_rule, partitioned_or_not}
use Rattle.language_model.specs.parts.Policies.{aggregate_policy}
use Rattle.language_model.specs.Typing.{after}
use Rattle.literal_sites.specs.Sites.{numbers_at}
use Rattle.literal_sites.proofs.Answering.{fails_by}
use Rattle.window_rules.proofs.windows.aggregate_policy.Goals as goal
use Rattle.language_model.proofs.FoundAnswers.{finds_by, stops}

pub returns-in_err-rule : goal.returns-in_err-rule
returns-in_err-rule c =
    let numbers = numbers_at c.args.window.now.site.now in
    let port = c.args.window.now.port.now in
    let w = c.args.window.now.clause.now in
    let parts = partitioned_or_not w.parts in
    let others = c.partitioned_or_not-partitioned.ensures.1 ∙ ap (λ parts. (partitioned_or_not parts).others) c.as_slice.ensures in
    let e = c.in_err-rule.field-0.0 in
    fails_by (aggregate_policy numbers port w)
    (after (aggregate_rule numbers port.schema w.port.at parts.others) (λ rule. Ok (record { partitioned = parts.partitioned; rule = rule })))
    _ e c.from_residual.ensures.1 refl
    (stops (aggregate_rule numbers port.schema w.port.at parts.others) (λ rule. Ok (record { partitioned = parts.partitioned; rule = rule })) e
    (finds_by _ _ (Err e) (λ i. aggregate_rule numbers port.schema w.port.at (sym others i)) c.in_err-rule.ensures))

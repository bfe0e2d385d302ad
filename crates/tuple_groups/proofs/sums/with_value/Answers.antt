use Rattle.std.proofs.Common.{◌+ℤ◌, FitsSigned, rules, sym, ap, ◌∙◌}
use Rattle.std.specs.Int.{w128}
use Rattle.std.specs.List.{cons_option}
use Rattle.std.specs.Option.{option_copied}
use Rattle.spl_value.specs.Wrap.{wrapped}
use Rattle.stream_model.specs.Aggregates.{total}
use Rattle.tuple_groups.proofs.WrappedSums.{added}
use Rattle.tuple_groups.proofs.sums.with_value.Goals as goal

pub returns-in-Some : goal.returns-in-Some
returns-in-Some c vs e =
    let k = c.args.kind in
    let m = c.integer_of.result in
    let fits : FitsSigned w128 m = search rules in
    added k m c.wrap-first.result c.args.sum (total vs) c.wrap.result fits c.wrap-first.ensures.value e c.wrap-first.ensures.belongs c.wrap.ensures.belongs c.wrap.ensures.value
    ∙ (λ i. wrapped k (c.integer_of.ensures i +ℤ total vs))
    ∙ ap (λ o. wrapped k (total (cons_option (option_copied o) vs))) (sym c.in-Some.is)

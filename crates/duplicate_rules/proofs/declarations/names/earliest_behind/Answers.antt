use Rattle.std.proofs.Common.{◌+◌, Some, ap, sym, ◌∙◌, drop}
use Rattle.std.specs.Prelude.{filter_map}
use Rattle.std.specs.List.{cons_option}
use Rattle.std.specs.Option.{option_copied}
use Rattle.duplicate_rules.specs.steps.Earliest.{earliest}
use Rattle.duplicate_rules.specs.steps.NamesBefore.{again}
use Rattle.duplicate_rules.proofs.declarations.names.earliest_behind.Goals.{in-Some, in_default}
use Rattle.duplicate_rules.proofs.declarations.names.earliest_behind.Goals as goal
use Rattle.spl_value.proofs.Lists.{drop_at as rest_at}

pub loop-part-preserved : goal.loop-part-preserved
loop-part-preserved g c =
    let inv = c.loop-part.invariant in
    let passes = c.in_ok-name.ensures inv.0 inv.1 in
    let own = g.T.Declares.own in
    let best = option_copied c.loop-part.found in
    let rest = filter_map own (drop (c.loop-part.part-index + 1) c.args.row.now) in
    let passed =
    inv.2
    ∙ ap (λ r. earliest best (again inv.0 (filter_map own r))) (rest_at c.args.row.now c.loop-part.part-index c.part-item.result c.loop-part-test.true c.part-item.is)
    ∙ ap (earliest best) (passes.2 rest) in (
      passes.0,
      passes.1,
      elim c.match-branch-2.branch [
        | in-Some w ↦
            passed ∙ ap (λ o. earliest best (cons_option (option_copied o) (again passes.0 rest))) w.in-Some.is
            ∙ ap (λ n. earliest (Some n) (again passes.0 rest)) (sym w.earlier.ensures) ∙ ap (λ o. earliest (option_copied o) (again passes.0 rest)) (sym w.found-is)
        | in_default w ↦
            passed ∙ ap (λ o. earliest best (cons_option (option_copied o) (again passes.0 rest))) w.in_default.is
            ∙ ap (λ o. earliest (option_copied o) (again passes.0 rest)) (sym w.found-is)
      ],
    )

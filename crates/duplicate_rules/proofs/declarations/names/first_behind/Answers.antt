use Rattle.std.proofs.Common.{◌+◌, ap, sym, ◌∙◌, drop}
use Rattle.std.specs.Prelude.{filter_map}
use Rattle.std.specs.List.{cons_option}
use Rattle.std.specs.Option.{option_copied}
use Rattle.language_model.specs.Declarations.{first_of}
use Rattle.duplicate_rules.specs.steps.NamesBefore.{again}
use Rattle.duplicate_rules.proofs.declarations.names.first_behind.Goals as goal
use Rattle.spl_value.proofs.Lists.{drop_at as rest_at}

pub loop-part-preserved : goal.loop-part-preserved
loop-part-preserved g c =
    let inv = c.loop-part.invariant in
    let passes = c.in_ok-name.ensures inv.0 inv.1 in
    let own = g.T.Declares.own in
    let rest = filter_map own (drop (c.loop-part.part-index + 1) c.args.row.now) in (
      passes.0,
      passes.1,
      inv.2
          ∙ ap (λ r. first_of (again inv.0 (filter_map own r))) (rest_at c.args.row.now c.loop-part.part-index c.part-item.result c.loop-part-test.true c.part-item.is)
          ∙ ap first_of (passes.2 rest)
          ∙ ap (λ o. first_of (cons_option (option_copied o) (again passes.0 rest))) c.in_default.is,
    )

pub returns-in-Some : goal.returns-in-Some
returns-in-Some g c =
    let before = c.loop-part.invariant in
    let passes = c.in_ok-name.ensures before.0 before.1 in
    let own = g.T.Declares.own in
    let rest = filter_map own (drop (c.loop-part.part-index + 1) c.args.row.now) in
    sym (before.2
    ∙ ap (λ r. first_of (again before.0 (filter_map own r))) (rest_at c.args.row.now c.loop-part.part-index c.part-item.result c.loop-part-test.true c.part-item.is)
    ∙ ap first_of (passes.2 rest)
    ∙ ap (λ o. first_of (cons_option (option_copied o) (again passes.0 rest))) c.in-Some.is)

use Rattle.std.specs.Prelude.{[], slice_set}
use Rattle.std.specs.Option.{option_copied, option_map}
use Rattle.std.proofs.Common.{Err, ap, sym, ◌∙◌}
use Rattle.body_sites.specs.Bodies.{body_at_sites, body_seen}
use Rattle.clause_rules.specs.steps.Programs.{program_unit}
use Rattle.clause_rules.proofs.Invocations.{operator_is}
use Rattle.clause_rules.proofs.Tables.{put_back}
use Rattle.clause_rules.proofs.operators.operator_checked.Goals as goal
use Rattle.language_model.proofs.FoundAnswers.{fails, finds_by}

pub returns-in_err-part-clause-part : goal.returns-in_err-part-clause-part
returns-in_err-part-clause-part c =
    let unit = program_unit c.args.program.now in
    let n = c.args.op.now.site.expansion in
    fails _ _ _ c.from_residual.ensures.1
    (finds_by _ _ (Err c.in_err-part.field-0.0)
    (operator_is unit c.args.program.now.graph.now c.args.tables.now c.args.op.now (body_seen c.in-Some.body) c.in-Some-get.invocation.now _
    (ap (λ xs. body_at_sites unit xs n) (sym c.requires.expansions) ∙ sym c.body.ensures ∙ ap (option_map body_seen) c.in-Some.is)
    (sym c.get.ensures.value ∙ ap option_copied c.in-Some-get.is)
    (λ i. record (c.requires.scope i) { dollars = c.take_table.ensures.table i }))
    c.in_err-part.ensures.part)

pub returns-clause-same_tables : goal.returns-clause-same_tables
returns-clause-same_tables c =
    let n = c.args.op.now.site.expansion in
    c.put_table.ensures
    ∙ ap (λ ts. slice_set ts n c.replace-own.result) c.take_table.ensures.others
    ∙ ap (λ own. slice_set (slice_set c.args.tables.now n []) n own)
    (c.replace-own.ensures.value ∙ ap (λ s. s.dollars) c.in_ok-part.ensures.same_scope ∙ c.take_table.ensures.table)
    ∙ put_back c.args.tables.now n

pub returns-clause-part : goal.returns-clause-part
returns-clause-part c =
    let unit = program_unit c.args.program.now in
    let n = c.args.op.now.site.expansion in
    operator_is unit c.args.program.now.graph.now c.args.tables.now c.args.op.now (body_seen c.in-Some.body) c.in-Some-get.invocation.now _
    (ap (λ xs. body_at_sites unit xs n) (sym c.requires.expansions) ∙ sym c.body.ensures ∙ ap (option_map body_seen) c.in-Some.is)
    (sym c.get.ensures.value ∙ ap option_copied c.in-Some-get.is)
    (λ i. record (c.requires.scope i) { dollars = c.take_table.ensures.table i })
    ∙ c.in_ok-part.ensures.part

use Rattle.std.proofs.Common.{◌∙◌, Some, None, sym, arith}
use Rattle.spl_tree.specs.declared.keyword.Keyword.TheVariants as K
use Rattle.statement_parser.proofs.Readings.{reads, taken, skipped, word_passed, line_read, word_fails, line_fails}
use Rattle.unit_parser.proofs.CompositeReadings.{rule_comes}
use Rattle.unit_parser.proofs.DefinitionReadings.{type_behind, define_fails, defines, NoWord, no_more, typed, typed_read}
use Rattle.unit_parser.specs.steps.GivesComposites.{composite_behind, function_behind}
use Rattle.statement_parser.specs.Lines as lines
use Rattle.unit_parser.proofs.units.definition.Goals as goal
use Rattle.expr_parser.proofs.Locality.{reads_shrinks, taken_shrinks}
use Rattle.statement_parser.proofs.StatementReadings.{behind, part_fails}
use Rattle.expr_parser.proofs.RuleLaws.{runs_last}

pub returns-in_err-one : goal.returns-in_err-one
unfolding lines.rule
returns-in_err-one c =
    define_fails c.args.ts.now c.in-Some.behind.now type_behind c.from_residual.result c.in_err-one.field-0.0 c.from_residual.ensures.1
    (λ xs o q. reads (taken c.in-Some.ensures q))
    (λ xs. line_fails _ lines.TypeOf _ _ c.in_err-one.ensures)

pub returns-in-Some : goal.returns-in-Some
unfolding lines.rule
returns-in-Some c = (
  (let one = taken_shrinks c.in-Some.ensures in let two = reads_shrinks c.in_ok-one.ensures in omega arith),
  λ xs o r. reads (taken c.in-Some.ensures (line_read c.in_ok-one.ensures (runs_last r))),
)

pub returns-in_err-behind : goal.returns-in_err-behind
unfolding lines.rule
returns-in_err-behind c =
    define_fails c.args.ts.now c.in-Some-word_first.behind.now (λ xs. lines.expect_word K.Composite (composite_behind xs)) c.from_residual-in_err-behind.result c.in_err-behind.field-0.0 c.from_residual-in_err-behind.ensures.1
    (λ xs o q. reads (skipped c.in_default.ensures (taken c.in-Some-word_first.ensures q)))
    (λ xs. word_fails _ K.Composite _ _ c.in_err-behind.ensures)

pub returns-in-Some-word_first : goal.returns-in-Some-word_first
unfolding lines.rule
returns-in-Some-word_first c =
    defines c.args.ts.now c.in_ok-behind.behind.now composite_behind c.composite_defined.result
    (let one = taken_shrinks c.in-Some-word_first.ensures in let two = taken_shrinks c.in_ok-behind.ensures.1 in omega arith)
    (λ xs o q. reads (skipped c.in_default.ensures (taken c.in-Some-word_first.ensures (word_passed K.Composite c.in_ok-behind.ensures q))))
    c.composite_defined.ensures

pub returns-in-Some-word_first-2 : goal.returns-in-Some-word_first-2
unfolding lines.rule
returns-in-Some-word_first-2 c =
    defines c.args.ts.now c.in-Some-word_first-2.behind.now composite_behind c.composite_defined-in-Some-word_first-2.result
    (let one = taken_shrinks c.in-Some-word_first-2.ensures in omega arith)
    (λ xs o q. reads (skipped c.in_default.ensures (skipped c.in_default-word_first.ensures (taken c.in-Some-word_first-2.ensures q))))
    c.composite_defined-in-Some-word_first-2.ensures

pub returns-in-Some-word_first-3 : goal.returns-in-Some-word_first-3
unfolding lines.rule
returns-in-Some-word_first-3 c =
    defines c.args.ts.now c.in-Some-word_first-3.behind.now (function_behind None) c.function_defined.result
    (let one = taken_shrinks c.in-Some-word_first-3.ensures in omega arith)
    (λ xs o q. reads (skipped c.in_default.ensures (skipped c.in_default-word_first.ensures (skipped c.in_default-word_first-2.ensures (taken c.in-Some-word_first-3.ensures q)))))
    c.function_defined.ensures

pub returns-then-not-type_begins : goal.returns-then-not-type_begins
returns-then-not-type_begins c =
    let none : NoWord c.args.ts.now = record {
      no_type = c.in_default.ensures;
      no_public = c.in_default-word_first.ensures;
      no_composite = c.in_default-word_first-2.ensures;
      no_void = c.in_default-word_first-3.ensures;
    } in
    λ xs. no_more none xs (sym c.type_begins.ensures ∙ c.if-not-type_begins.true)

pub returns-in_err-kind : goal.returns-in_err-kind
returns-in_err-kind c =
    let none : NoWord c.args.ts.now = record {
      no_type = c.in_default.ensures;
      no_public = c.in_default-word_first.ensures;
      no_composite = c.in_default-word_first-2.ensures;
      no_void = c.in_default-word_first-3.ensures;
    } in
    define_fails c.args.ts.now c.args.ts.now (λ xs. behind (lines.rule lines.TypeExpression) (λ k. function_behind (Some k) xs)) c.from_residual-in_err-kind.result c.in_err-kind.field-0.0 c.from_residual-in_err-kind.ensures.1
    (λ xs. typed none xs (sym c.type_begins.ensures ∙ c.if-not-type_begins.false))
    (λ xs. part_fails (lines.rule lines.TypeExpression) (λ k. function_behind (Some k) xs) _ _ (rule_comes lines.TypeExpression _ _ c.in_err-kind.ensures))

pub returns : goal.returns
returns c =
    let none : NoWord c.args.ts.now = record {
      no_type = c.in_default.ensures;
      no_public = c.in_default-word_first.ensures;
      no_composite = c.in_default-word_first-2.ensures;
      no_void = c.in_default-word_first-3.ensures;
    } in
    defines c.args.ts.now c.in_ok-kind.behind.now (function_behind (Some c.in_ok-kind.kind)) c.function_defined-2.result
    (reads_shrinks c.in_ok-kind.ensures)
    (λ xs. typed_read none xs (sym c.type_begins.ensures ∙ c.if-not-type_begins.false) c.in_ok-kind.ensures)
    c.function_defined-2.ensures

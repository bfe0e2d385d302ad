use Rattle.std.proofs.Common.{ℕ, Ok, ◌∙◌, [], ◌∷◌, ◌++◌, ap, subst, arith}
use Rattle.spl_tree.specs.declared.shape.TypeKind.TheVariants as Y
use Rattle.spl_tree.specs.declared.symbol.Symbol.TheVariants as S
use Rattle.spl_tree.specs.Trees.{placed, TypeExpr}
use Rattle.expr_parser.specs.Rules.{done, call, RunsTo, Reads}
use Rattle.expr_parser.proofs.RuleLaws.{runs_stop}
use Rattle.statement_parser.proofs.Readings.{finished, reads, taken, taken_as, skipped, passed, line_read, says_on, rule_on, fails, rule_fails, pass_fails, line_fails}
use Rattle.statement_parser.proofs.Sequences.{pushed, pushed_fails}
use Rattle.statement_parser.proofs.StatementReadings.{behind, part_read, part_fails}
use Rattle.statement_parser.proofs.TypeReadings.{goes, tail, one_more, more_read, attribute_read}
use Rattle.statement_parser.specs.steps.GivesTypes.{TypeFirst}
use Rattle.statement_parser.specs.Lines as lines
use Rattle.statement_parser.specs.steps.Parts as part_rules
use Rattle.statement_parser.specs.Lines.{R, TypeExpression, ListType, MapType, TupleType, Attributes, MoreAttributes, expect, is_type, type_of, rule}
use Rattle.statement_parser.proofs.types.+types.Goals as goal
use Rattle.expr_parser.proofs.Locality.{runs_shrinks, taken_shrinks}

pub tuple_type-returns-in_err-behind : goal.tuple_type-returns-in_err-behind
unfolding rule
tuple_type-returns-in_err-behind t c =
    fails (TupleType c.args.at) c.args.ts.now c.args.ts.now _ c.from_residual.result c.in_err-behind.field-0.0 c.from_residual.ensures.1 (λ o q. reads q)
    (pass_fails _ S.Less _ _ c.in_err-behind.ensures)

pub tuple_type-returns-in_err-attributes : goal.tuple_type-returns-in_err-attributes
unfolding rule
tuple_type-returns-in_err-attributes t c =
    fails (TupleType c.args.at) c.args.ts.now c.in_ok-behind.behind.now _ c.from_residual-in_err-attributes.result c.in_err-attributes.field-0.0 c.from_residual-in_err-attributes.ensures.1
    (λ o q. reads (passed S.Less c.in_ok-behind.ensures q))
    (line_fails _ (Attributes S.Greater []) _ _ c.in_err-attributes.ensures)

pub tuple_type-returns : goal.tuple_type-returns
unfolding rule
tuple_type-returns t c =
    goes (TupleType c.args.at) c.args.ts.now c.in_ok-attributes.behind.now (done (placed c.args.at (Y.Tuple c.in_ok-attributes.attributes))) c.type_made.result
    (λ o q. reads (passed S.Less c.in_ok-behind.ensures (line_read c.in_ok-attributes.ensures q))) c.type_made.ensures

pub type_before-returns-in_err-kind : goal.type_before-returns-in_err-kind
type_before-returns-in_err-kind t c =
    rule_fails (lines.type_before c.args.symbol) _ c.args.ts.now c.args.ts.now _ c.in_err-kind.field-0.0 c.from_residual.ensures.1 (λ o q. q)
    (line_fails _ TypeExpression (λ k. expect c.args.symbol (done k)) _ c.in_err-kind.ensures)

pub type_before-returns : goal.type_before-returns
type_before-returns t c =
    rule_on (lines.type_before c.args.symbol) (expect c.args.symbol (done c.in_ok-kind.kind)) c.args.ts.now c.in_ok-kind.behind.now c.closed.result
    (λ o q. line_read c.in_ok-kind.ensures q) c.closed.ensures

pub type_between-returns-in_err-behind : goal.type_between-returns-in_err-behind
type_between-returns-in_err-behind t c =
    rule_fails (lines.type_between c.args.opening c.args.close) _ c.args.ts.now c.args.ts.now _ c.in_err-behind.field-0.0 c.from_residual.ensures.1 (λ o q. q)
    (pass_fails _ c.args.opening (lines.type_before c.args.close) _ c.in_err-behind.ensures)

pub type_between-returns : goal.type_between-returns
type_between-returns t c =
    rule_on (lines.type_between c.args.opening c.args.close) (lines.type_before c.args.close) c.args.ts.now c.in_ok-behind.behind.now c.type_before.result
    (λ o q. passed c.args.opening c.in_ok-behind.ensures q) c.type_before.ensures

-- the types of lists and of maps, after the types in them
abbrev listed : ℕ → TypeExpr → R TypeExpr
listed at e = done (placed at (Y.List e))

abbrev valued : ℕ → TypeExpr → TypeExpr → R TypeExpr
valued at k v = done (placed at (Y.Map k v))

abbrev keyed : ℕ → TypeExpr → R TypeExpr
keyed at k = behind (lines.type_before S.Greater) (valued at k)

pub list_type-returns-in_err-element : goal.list_type-returns-in_err-element
unfolding rule
list_type-returns-in_err-element t c =
    fails (ListType c.args.at) c.args.ts.now c.args.ts.now _ c.from_residual.result c.in_err-element.field-0.0 c.from_residual.ensures.1 (λ o q. reads q)
    (part_fails (lines.type_between S.Less S.Greater) (listed c.args.at) _ _ c.in_err-element.ensures)

pub list_type-returns : goal.list_type-returns
unfolding rule
list_type-returns t c =
    goes (ListType c.args.at) c.args.ts.now c.in_ok-element.behind.now (listed c.args.at c.in_ok-element.element) c.type_made.result
    (λ o q. reads (part_read (lines.type_between S.Less S.Greater) (listed c.args.at) c.in_ok-element.ensures q)) c.type_made.ensures

pub map_type-returns-in_err-key : goal.map_type-returns-in_err-key
unfolding rule
map_type-returns-in_err-key t c =
    fails (MapType c.args.at) c.args.ts.now c.args.ts.now _ c.from_residual.result c.in_err-key.field-0.0 c.from_residual.ensures.1 (λ o q. reads q)
    (part_fails (lines.type_between S.Less S.Comma) (keyed c.args.at) _ _ c.in_err-key.ensures)

pub map_type-returns-in_err-value : goal.map_type-returns-in_err-value
unfolding rule
map_type-returns-in_err-value t c =
    fails (MapType c.args.at) c.args.ts.now c.in_ok-key.behind.now _ c.from_residual-in_err-value.result c.in_err-value.field-0.0 c.from_residual-in_err-value.ensures.1
    (λ o q. reads (part_read (lines.type_between S.Less S.Comma) (keyed c.args.at) c.in_ok-key.ensures q))
    (part_fails (lines.type_before S.Greater) (valued c.args.at c.in_ok-key.key) _ _ c.in_err-value.ensures)

pub map_type-returns : goal.map_type-returns
unfolding rule
map_type-returns t c =
    goes (MapType c.args.at) c.args.ts.now c.in_ok-value.behind.now (valued c.args.at c.in_ok-key.key c.in_ok-value.value) c.type_made.result
    (λ o q. reads (part_read (lines.type_between S.Less S.Comma) (keyed c.args.at) c.in_ok-key.ensures
    (part_read (lines.type_before S.Greater) (valued c.args.at c.in_ok-key.key) c.in_ok-value.ensures q))) c.type_made.ensures

pub attribute-returns-in_err-kind : goal.attribute-returns-in_err-kind
attribute-returns-in_err-kind t c =
    rule_fails part_rules.attribute_rule _ c.args.ts.now c.args.ts.now _ c.in_err-kind.field-0.0 c.from_residual.ensures.1 (λ o q. q)
    (line_fails _ TypeExpression part_rules.named_attribute_rule _ c.in_err-kind.ensures)

pub attribute-returns : goal.attribute-returns
attribute-returns t c =
    rule_on part_rules.attribute_rule (part_rules.named_attribute_rule c.in_ok-kind.kind) c.args.ts.now c.in_ok-kind.behind.now c.named_attribute.result
    (λ o q. line_read c.in_ok-kind.ensures q) c.named_attribute.ensures

pub attributes-returns-in_err-behind : goal.attributes-returns-in_err-behind
unfolding rule
attributes-returns-in_err-behind t c =
    fails (Attributes c.args.close []) c.args.ts.now c.args.ts.now _ c.from_residual.result c.in_err-behind.field-0.0 c.from_residual.ensures.1 (λ o q. reads q)
    (part_fails part_rules.attribute_rule (one_more c.args.close []) _ _
    (pushed_fails (RunsTo rule part_rules.attribute_rule c.args.ts.now) _ _ c.attribute.result _ c.attribute.ensures c.in_err-behind.ensures))

pub attributes-returns : goal.attributes-returns
attributes-returns t c =
    let first = pushed (RunsTo rule part_rules.attribute_rule c.args.ts.now) _ _ c.attribute.result _ c.attribute.ensures c.in_ok-behind.ensures in
    says_on (λ o q. attribute_read c.args.close [] first.said
    (subst (λ xs. Reads rule (MoreAttributes c.args.close xs) c.in_ok-behind.behind.now o) (first.is ∙ ap (λ xs. xs ++ first.one ∷ []) c.new-first.ensures) q))
    c.more_attributes.result c.more_attributes.ensures

pub more_attributes-returns-in_default : goal.more_attributes-returns-in_default
unfolding rule
more_attributes-returns-in_default t c =
    goes (MoreAttributes c.args.close c.args.first) c.args.ts.now c.attributes.at.now (expect c.args.close (done c.attributes.all)) c.closed.result
    (λ o q. c.attributes.invariant o (reads (skipped c.in_default.ensures q))) c.closed.ensures

pub more_attributes-returns-in_err-behind : goal.more_attributes-returns-in_err-behind
unfolding rule
more_attributes-returns-in_err-behind t c =
    fails (MoreAttributes c.args.close c.args.first) c.args.ts.now c.in-Some.behind.now _ c.from_residual.result c.in_err-behind.field-0.0 c.from_residual.ensures.1
    (λ o q. c.attributes.invariant o (more_read c.args.close c.attributes.all c.in-Some.ensures (reads q)))
    (part_fails part_rules.attribute_rule (one_more c.args.close c.attributes.all) _ _
    (pushed_fails (RunsTo rule part_rules.attribute_rule c.in-Some.behind.now) _ _ c.attribute.result _ c.attribute.ensures c.in_err-behind.ensures))

pub more_attributes-attributes-smaller : goal.more_attributes-attributes-smaller
more_attributes-attributes-smaller t c =
    let next = pushed (RunsTo rule part_rules.attribute_rule c.in-Some.behind.now) _ _ c.attribute.result _ c.attribute.ensures c.in_ok-behind.ensures in
    let one = taken_shrinks c.in-Some.ensures in
    let two = runs_shrinks next.said in
    omega arith

pub more_attributes-attributes-preserved : goal.more_attributes-attributes-preserved
more_attributes-attributes-preserved t c =
    let next = pushed (RunsTo rule part_rules.attribute_rule c.in-Some.behind.now) _ _ c.attribute.result _ c.attribute.ensures c.in_ok-behind.ensures in
    λ o r. c.attributes.invariant o (more_read c.args.close c.attributes.all c.in-Some.ensures (attribute_read c.args.close c.attributes.all next.said
    (subst (λ xs. Reads rule (MoreAttributes c.args.close xs) c.in_ok-behind.behind.now o) next.is r)))

pub type_at-returns-in-Some : goal.type_at-returns-in-Some
unfolding rule
type_at-returns-in-Some t c =
    reads (taken_as is_type type_of done (subst (λ f. TypeFirst c.args.ts.now (Ok f)) c.in-Some.is c.in_ok-kind.ensures) finished)

pub type_at-returns-in-Some-word_first : goal.type_at-returns-in-Some-word_first
unfolding rule
type_at-returns-in-Some-word_first t c =
    goes TypeExpression c.args.ts.now c.in-Some-word_first.behind.now (call (ListType c.in-Some-word_first.word.now.start) done) c.list_type.result
    (λ o q. reads (skipped (subst (λ f. TypeFirst c.args.ts.now (Ok f)) c.in_default.is c.in_ok-kind.ensures) (taken c.in-Some-word_first.ensures q)))
    (tail (ListType c.in-Some-word_first.word.now.start) c.in-Some-word_first.behind.now c.list_type.result c.list_type.ensures)

pub type_at-returns-in-Some-word_first-2 : goal.type_at-returns-in-Some-word_first-2
unfolding rule
type_at-returns-in-Some-word_first-2 t c =
    goes TypeExpression c.args.ts.now c.in-Some-word_first-2.behind.now (call (MapType c.in-Some-word_first-2.word.now.start) done) c.map_type.result
    (λ o q. reads (skipped (subst (λ f. TypeFirst c.args.ts.now (Ok f)) c.in_default.is c.in_ok-kind.ensures) (skipped c.in_default-word_first.ensures (taken c.in-Some-word_first-2.ensures q))))
    (tail (MapType c.in-Some-word_first-2.word.now.start) c.in-Some-word_first-2.behind.now c.map_type.result c.map_type.ensures)

pub type_at-returns-in-Some-word_first-3 : goal.type_at-returns-in-Some-word_first-3
unfolding rule
type_at-returns-in-Some-word_first-3 t c =
    goes TypeExpression c.args.ts.now c.in-Some-word_first-3.behind.now (call (TupleType c.in-Some-word_first-3.word.now.start) done) c.tuple_type.result
    (λ o q. reads (skipped (subst (λ f. TypeFirst c.args.ts.now (Ok f)) c.in_default.is c.in_ok-kind.ensures) (skipped c.in_default-word_first.ensures (skipped c.in_default-word_first-2.ensures (taken c.in-Some-word_first-3.ensures q)))))
    (tail (TupleType c.in-Some-word_first-3.word.now.start) c.in-Some-word_first-3.behind.now c.tuple_type.result c.tuple_type.ensures)

pub type_at-returns-in-None : goal.type_at-returns-in-None
unfolding rule
type_at-returns-in-None t c =
    reads (skipped (subst (λ f. TypeFirst c.args.ts.now (Ok f)) c.in_default.is c.in_ok-kind.ensures) (skipped c.in_default-word_first.ensures (skipped c.in_default-word_first-2.ensures
    (skipped c.in-None.ensures runs_stop))))

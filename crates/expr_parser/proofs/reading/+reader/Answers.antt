use Rattle.std.proofs.Common.{◌∙◌, [], Err, length, refl, sym, ap, subst, arith}
use Rattle.spl_tree.specs.declared.expression.ExprKind.TheVariants as X
use Rattle.spl_tree.specs.Trees.{Expr, placed}
use Rattle.spl_tree.specs.declared.symbol.Symbol.TheVariants as S
use Rattle.expr_parser.specs.Rules.{done, RuleResult, Took, RunsTo, Reads}
use Rattle.expr_parser.specs.Lines.{binary, Whole, Rest, Climb, Chain, Prefixed, Primary, Group, Named, Elements, Items, Brace, Entries, Fields, Steps, expect, rule, choice_rule, operand_rule, list_rule}
use Rattle.expr_parser.specs.Gives.{Gives}
use Rattle.expr_parser.specs.steps.Parts.{Comes, front_rule, StepFound, StepsOn}
use Rattle.expr_parser.proofs.Derive.{exit, says_on, comes_fail, comes_call}
use Rattle.expr_parser.proofs.LineSteps.{makes_fails, whole_fails, whole_goes, rest_fails, rest_ends, rest_goes, first_fails, colon_fails, second_fails, choice_goes, climb_ends, climb_fails, climb_goes, chain_ends, operand_fails, right_fails, chain_goes, fronts_fails, prefixed_fails, prefixed_goes, primary_literal, primary_name, primary_list, primary_brace, primary_stops, group_fails, group_goes, named_ends, named_fails, named_goes, list_fails, list_goes, elements_none, elements_start, item_fails, items_stops, items_end, items_go, brace_empty, brace_fails, brace_entries, brace_stops, name_stops, brace_fields, value_fails, entries_end, key_fails, key_stops, entries_go, field_fails, fields_end, next_fails, next_stops, fields_go, steps_fails, steps_end, member_fails, member_found, index_fails, index_stops, index_found}
use Rattle.expr_parser.proofs.reading.+reader.Goals as goal
use Rattle.expr_parser.proofs.Locality.{reads_shrinks, taken_shrinks, taken_as_shrinks}

pub expr-returns-in_err-first : goal.expr-returns-in_err-first
expr-returns-in_err-first t c =
    exit (Gives Whole c.args.ts.now) c.from_residual.result c.in_err-first.field-0.0 c.from_residual.ensures.1
    (whole_fails c.args.ts.now c.in_err-first.field-0.0 c.in_err-first.ensures)

pub expr-returns : goal.expr-returns
expr-returns t c =
    whole_goes c.args.ts.now c.in_ok-first.first c.in_ok-first.behind.now c.rest.result c.in_ok-first.ensures c.rest.ensures

pub rest-returns-in_err-test : goal.rest-returns-in_err-test
rest-returns-in_err-test t c =
    exit (Gives (Rest c.args.operand) c.args.ts.now) c.from_residual.result c.in_err-test.field-0.0 c.from_residual.ensures.1
    (rest_fails c.args.ts.now c.args.operand c.in_err-test.field-0.0 c.in_err-test.ensures)

pub rest-returns-in-Some : goal.rest-returns-in-Some
rest-returns-in-Some t c =
    rest_goes c.args.ts.now c.args.operand c.in_ok-test.test c.in_ok-test.behind.now c.in-Some.field-0-0.now c.in-Some.behind.now c.choice.result c.in_ok-test.ensures c.in-Some.ensures c.choice.ensures

pub rest-returns-in-None : goal.rest-returns-in-None
rest-returns-in-None t c =
    rest_ends c.args.ts.now c.args.operand c.in_ok-test.test c.in_ok-test.behind.now c.in_ok-test.ensures c.in-None.ensures

pub choice-returns-in_err-first : goal.choice-returns-in_err-first
choice-returns-in_err-first t c =
    exit (Comes (choice_rule c.args.test) c.args.ts.now) c.from_residual.result c.in_err-first.field-0.0 c.from_residual.ensures.1
    (first_fails c.args.ts.now c.args.test c.in_err-first.field-0.0 c.in_err-first.ensures)

pub choice-returns-in_err-behind : goal.choice-returns-in_err-behind
choice-returns-in_err-behind t c =
    exit (Comes (choice_rule c.args.test) c.args.ts.now) c.from_residual-in_err-behind.result c.in_err-behind.field-0.0 c.from_residual-in_err-behind.ensures.1
    (colon_fails c.args.ts.now c.args.test c.in_ok-first.first c.in_ok-first.behind.now c.in_ok-first.ensures c.in_err-behind.field-0.0 c.in_err-behind.ensures)

pub choice-returns-in_err-second : goal.choice-returns-in_err-second
choice-returns-in_err-second t c =
    exit (Comes (choice_rule c.args.test) c.args.ts.now) c.from_residual-in_err-second.result c.in_err-second.field-0.0 c.from_residual-in_err-second.ensures.1
    (second_fails c.args.ts.now c.args.test c.in_ok-first.first c.in_ok-first.behind.now c.in_ok-first.ensures c.in_ok-behind.behind c.in_ok-behind.ensures c.in_err-second.field-0.0 c.in_err-second.ensures)

pub choice-returns : goal.choice-returns
choice-returns t c =
    choice_goes c.args.ts.now c.args.test c.in_ok-first.first c.in_ok-first.behind.now c.in_ok-first.ensures c.in_ok-behind.behind c.in_ok-behind.ensures c.in_ok-second.second c.in_ok-second.behind.now c.conditional.result c.in_ok-second.ensures c.conditional.ensures

pub climb-returns-then-level-eq0 : goal.climb-returns-then-level-eq0
climb-returns-then-level-eq0 t c =
    climb_ends c.args.level c.args.operand c.args.ts.now c.if-level-eq0.true

pub climb-returns-in_err-left : goal.climb-returns-in_err-left
climb-returns-in_err-left t c =
    exit (Gives (Climb c.args.level c.args.operand) c.args.ts.now) c.from_residual.result c.in_err-left.field-0.0 c.from_residual.ensures.1
    (climb_fails c.args.operand c.args.ts.now c.args.level c.in_err-left.field-0.0 (omega arith) c.in_err-left.ensures)

pub climb-returns : goal.climb-returns
climb-returns t c =
    climb_goes c.args.operand c.args.ts.now c.args.level c.in_ok-left.left c.in_ok-left.behind.now c.chain.result (omega arith) c.in_ok-left.ensures c.chain.ensures

pub chain-operators-init : goal.chain-operators-init
chain-operators-init t c =
    λ o r. r

pub chain-returns-in_default : goal.chain-returns-in_default
chain-returns-in_default t c =
    c.operators.invariant (Took c.operators.left c.operators.at.now) (chain_ends c.args.below c.operators.left c.operators.at.now c.in_default.ensures)

pub chain-returns-in_err-first : goal.chain-returns-in_err-first
chain-returns-in_err-first t c =
    exit (Gives (Chain c.args.below c.args.left) c.args.ts.now) c.from_residual.result c.in_err-first.field-0.0 c.from_residual.ensures.1
    (says_on c.operators.invariant (Err c.in_err-first.field-0.0) (operand_fails c.args.below c.operators.left c.operators.at.now c.in-Some.operator c.in-Some.behind.now c.in-Some.ensures c.in_err-first.field-0.0 c.in_err-first.ensures))

pub chain-returns-in_err-right : goal.chain-returns-in_err-right
chain-returns-in_err-right t c =
    exit (Gives (Chain c.args.below c.args.left) c.args.ts.now) c.from_residual-in_err-right.result c.in_err-right.field-0.0 c.from_residual-in_err-right.ensures.1
    (says_on c.operators.invariant (Err c.in_err-right.field-0.0) (right_fails c.args.below c.operators.left c.operators.at.now c.in-Some.operator c.in-Some.behind.now c.in-Some.ensures c.in_ok-first.first c.in_ok-first.behind.now c.in_ok-first.ensures c.in_err-right.field-0.0 c.in_err-right.ensures))

pub chain-returns-in_err-whole : goal.chain-returns-in_err-whole
chain-returns-in_err-whole t c =
    exit (Gives (Chain c.args.below c.args.left) c.args.ts.now) c.from_residual-in_err-whole.result c.in_err-whole.field-0.0 c.from_residual-in_err-whole.ensures.1
    (makes_fails (Chain c.args.below c.args.left) (binary c.in-Some.operator c.operators.left c.in_ok-right.right) c.in_ok-right.behind.now c.args.ts.now c.in_err-whole.field-0.0 c.in_err-whole.ensures)

pub chain-operators-preserved : goal.chain-operators-preserved
chain-operators-preserved t c =
    λ o r. c.operators.invariant o (chain_goes c.args.below c.operators.left c.operators.at.now c.in-Some.operator c.in-Some.behind.now c.in-Some.ensures c.in_ok-first.first c.in_ok-first.behind.now c.in_ok-first.ensures c.in_ok-right.right c.in_ok-right.behind.now c.in_ok-right.ensures o
    (subst (λ e. Reads rule (Chain c.args.below e) c.in_ok-right.behind.now o) c.in_ok-whole.ensures.0
    (subst (λ q. Reads rule (Chain c.args.below c.in_ok-whole.whole) q o) c.in_ok-whole.ensures.1 r)))

pub chain-operators-smaller : goal.chain-operators-smaller
chain-operators-smaller t c =
    let one = taken_as_shrinks c.in-Some.ensures in
    let two = reads_shrinks c.in_ok-first.ensures in
    let three = reads_shrinks c.in_ok-right.ensures in
    let four = ap length c.in_ok-whole.ensures.1 in
    omega arith

pub operand-returns-in_err-front : goal.operand-returns-in_err-front
operand-returns-in_err-front t c =
    exit (Gives (Prefixed []) c.args.ts.now) c.from_residual.result c.in_err-front.field-0.0 c.from_residual.ensures.1
    (fronts_fails c.args.ts.now c.in_err-front.field-0.0 c.in_err-front.ensures)

pub operand-returns-in_err-inner-in-Some : goal.operand-returns-in_err-inner-in-Some
operand-returns-in_err-inner-in-Some t c =
    exit (Gives (Prefixed []) c.args.ts.now) c.from_residual-in_err-inner-in-Some.result c.in_err-inner-in-Some.field-0.0 c.from_residual-in_err-inner-in-Some.ensures.1
    (says_on (subst (λ f. (o : RuleResult Expr) → RunsTo rule (front_rule f c.in_ok-front.front) c.in_ok-front.behind.now o → Reads rule (Prefixed []) c.args.ts.now o) c.in-Some.is c.in_ok-front.ensures) (Err c.in_err-inner-in-Some.field-0.0) (comes_fail c.in_ok-front.behind.now (Group c.in-Some.at) _ c.in_err-inner-in-Some.field-0.0 c.in_err-inner-in-Some.ensures))

pub operand-returns-in_ok-inner-in-Some : goal.operand-returns-in_ok-inner-in-Some
operand-returns-in_ok-inner-in-Some t c =
    says_on (subst (λ f. (o : RuleResult Expr) → RunsTo rule (front_rule f c.in_ok-front.front) c.in_ok-front.behind.now o → Reads rule (Prefixed []) c.args.ts.now o) c.in-Some.is c.in_ok-front.ensures) c.prefixed.result (comes_call c.in_ok-front.behind.now (Group c.in-Some.at) _ c.in_ok-inner-in-Some.inner c.in_ok-inner-in-Some.behind.now c.prefixed.result c.in_ok-inner-in-Some.ensures c.prefixed.ensures)

pub operand-returns-in_err-first-in-None : goal.operand-returns-in_err-first-in-None
operand-returns-in_err-first-in-None t c =
    exit (Gives (Prefixed []) c.args.ts.now) c.from_residual-in_err-first-in-None.result c.in_err-first-in-None.field-0.0 c.from_residual-in_err-first-in-None.ensures.1
    (says_on (subst (λ f. (o : RuleResult Expr) → RunsTo rule (front_rule f c.in_ok-front.front) c.in_ok-front.behind.now o → Reads rule (Prefixed []) c.args.ts.now o) c.in-None.is c.in_ok-front.ensures) (Err c.in_err-first-in-None.field-0.0) (comes_fail c.in_ok-front.behind.now Primary _ c.in_err-first-in-None.field-0.0 c.in_err-first-in-None.ensures))

pub operand-returns-in_ok-first-in-None : goal.operand-returns-in_ok-first-in-None
operand-returns-in_ok-first-in-None t c =
    says_on (subst (λ f. (o : RuleResult Expr) → RunsTo rule (front_rule f c.in_ok-front.front) c.in_ok-front.behind.now o → Reads rule (Prefixed []) c.args.ts.now o) c.in-None.is c.in_ok-front.ensures) c.prefixed-in-None.result (comes_call c.in_ok-front.behind.now Primary _ c.in_ok-first-in-None.first c.in_ok-first-in-None.behind.now c.prefixed-in-None.result c.in_ok-first-in-None.ensures c.prefixed-in-None.ensures)

pub prefixed-returns-in_err-operand : goal.prefixed-returns-in_err-operand
prefixed-returns-in_err-operand t c =
    exit (Comes (operand_rule c.args.front c.args.primary) c.args.ts.now) c.from_residual.result c.in_err-operand.field-0.0 c.from_residual.ensures.1
    (prefixed_fails c.args.front c.args.primary c.args.ts.now c.in_err-operand.field-0.0 c.in_err-operand.ensures)

pub prefixed-returns : goal.prefixed-returns
prefixed-returns t c =
    prefixed_goes c.args.front c.args.primary c.in_ok-operand.operand c.args.ts.now c.in_ok-operand.behind.now c.unary.result c.in_ok-operand.ensures c.unary.ensures

pub primary-returns-in-Some : goal.primary-returns-in-Some
primary-returns-in-Some t c =
    primary_literal c.args.ts.now c.in-Some.token.now c.in-Some.behind.now _ c.in-Some.ensures c.in_ok-literal.ensures

pub primary-returns-in-Some-name_first : goal.primary-returns-in-Some-name_first
primary-returns-in-Some-name_first t c =
    primary_name c.args.ts.now c.in_default.ensures c.in-Some-name_first.token.now _ c.in-Some-name_first.behind.now c.named.result c.in-Some-name_first.ensures.0 (c.in_ok-name.ensures ∙ c.as_slice.ensures ∙ c.in-Some-name_first.ensures.1) c.named.ensures

pub primary-returns-in-Some-symbol_first : goal.primary-returns-in-Some-symbol_first
primary-returns-in-Some-symbol_first t c =
    primary_list c.args.ts.now c.in_default.ensures c.in_default-name_first.ensures c.in-Some-symbol_first.open.now c.in-Some-symbol_first.behind.now c.list.result c.in-Some-symbol_first.ensures c.list.ensures

pub primary-returns-in-Some-symbol_first-2 : goal.primary-returns-in-Some-symbol_first-2
primary-returns-in-Some-symbol_first-2 t c =
    primary_brace c.args.ts.now c.in_default.ensures c.in_default-name_first.ensures c.in_default-symbol_first.ensures c.in-Some-symbol_first-2.open.now c.in-Some-symbol_first-2.behind.now c.brace.result c.in-Some-symbol_first-2.ensures c.brace.ensures

pub primary-returns-in-None : goal.primary-returns-in-None
primary-returns-in-None t c =
    primary_stops c.args.ts.now c.in_default.ensures c.in_default-name_first.ensures c.in_default-symbol_first.ensures c.in-None.ensures

pub group-returns-in_err-inner : goal.group-returns-in_err-inner
group-returns-in_err-inner t c =
    exit (Gives (Group c.args.at) c.args.ts.now) c.from_residual.result c.in_err-inner.field-0.0 c.from_residual.ensures.1
    (group_fails c.args.at c.args.ts.now c.in_err-inner.field-0.0 c.in_err-inner.ensures)

pub group-returns : goal.group-returns
group-returns t c =
    group_goes c.args.at c.args.ts.now c.in_ok-inner.inner c.in_ok-inner.behind.now c.in_ok-inner.ensures c.closed.result c.closed.ensures

pub named-returns-in_err-arguments-in-Some : goal.named-returns-in_err-arguments-in-Some
named-returns-in_err-arguments-in-Some t c =
    exit (Gives (Named c.args.at c.args.name) c.args.ts.now) c.from_residual.result c.in_err-arguments-in-Some.field-0.0 c.from_residual.ensures.1
    (named_fails c.args.at c.args.ts.now c.args.name c.in-Some.field-0-0.now c.in-Some.behind.now c.in-Some.ensures c.in_err-arguments-in-Some.field-0.0 c.in_err-arguments-in-Some.ensures)

pub named-returns-in_ok-arguments-in-Some : goal.named-returns-in_ok-arguments-in-Some
named-returns-in_ok-arguments-in-Some t c =
    named_goes c.args.at c.args.ts.now c.args.name c.in-Some.field-0-0.now c.in-Some.behind.now c.in-Some.ensures c.in_ok-arguments-in-Some.arguments c.in_ok-arguments-in-Some.behind.now c.node.result c.in_ok-arguments-in-Some.ensures c.node.ensures

pub named-returns-in_ok-expr-in-None : goal.named-returns-in_ok-expr-in-None
named-returns-in_ok-expr-in-None t c =
    subst (λ e. Reads rule (Named c.args.at c.args.name) c.args.ts.now (Took e c.args.ts.now)) (sym c.in_ok-expr-in-None.ensures)
    (named_ends c.args.at c.args.ts.now c.args.name c.in-None.ensures)

pub list-returns-in_err-items : goal.list-returns-in_err-items
list-returns-in_err-items t c =
    exit (Comes (list_rule c.args.at) c.args.ts.now) c.from_residual.result c.in_err-items.field-0.0 c.from_residual.ensures.1
    (list_fails c.args.at c.args.ts.now c.in_err-items.field-0.0 c.in_err-items.ensures)

pub list-returns : goal.list-returns
list-returns t c =
    list_goes c.args.at c.args.ts.now c.in_ok-items.items c.in_ok-items.behind.now c.node.result c.in_ok-items.ensures c.node.ensures

pub elements-returns-in-Some : goal.elements-returns-in-Some
elements-returns-in-Some t c =
    subst (λ es. Reads rule (Elements c.args.close) c.args.ts.now (Took es c.in-Some.behind.now)) (sym c.new.ensures)
    (elements_none c.args.close c.args.ts.now c.in-Some.field-0-0.now c.in-Some.behind.now c.in-Some.ensures)

pub elements-returns-in-None : goal.elements-returns-in-None
elements-returns-in-None t c =
    says_on (elements_start c.args.close c.args.ts.now c.in-None.ensures) c.items.result c.items.ensures

pub items-items-init : goal.items-items-init
items-items-init t c =
    λ o r. subst (λ es. Reads rule (Items c.args.close es) c.args.ts.now o) c.new-all.ensures r

pub items-returns-in_err-item : goal.items-returns-in_err-item
items-returns-in_err-item t c =
    exit (Gives (Items c.args.close []) c.args.ts.now) c.from_residual.result c.in_err-item.field-0.0 c.from_residual.ensures.1
    (says_on c.items.invariant (Err c.in_err-item.field-0.0) (item_fails c.args.close c.items.at.now c.items.all c.in_err-item.field-0.0 c.in_err-item.ensures))

pub items-returns-in_err-behind : goal.items-returns-in_err-behind
items-returns-in_err-behind t c =
    exit (Gives (Items c.args.close []) c.args.ts.now) c.from_residual-in_err-behind.result c.in_err-behind.field-0.0 c.from_residual-in_err-behind.ensures.1
    (says_on c.items.invariant (Err c.in_err-behind.field-0.0) (items_stops c.args.close c.items.at.now c.items.all c.in_ok-item.item c.in_ok-item.behind.now c.in_ok-item.ensures c.in_default.ensures c.in_err-behind.field-0.0 c.in_err-behind.ensures))

pub items-returns-in_default : goal.items-returns-in_default
items-returns-in_default t c =
    c.items.invariant (Took c.push.new.self c.in_ok-behind.behind.now)
    (subst (λ es. Reads rule (Items c.args.close c.items.all) c.items.at.now (Took es c.in_ok-behind.behind.now)) (sym c.in_ok-push.ensures.ok)
    (items_end c.args.close c.items.at.now c.items.all c.in_ok-item.item c.in_ok-item.behind.now c.in_ok-item.ensures c.in_default.ensures c.in_ok-behind.behind c.in_ok-behind.ensures))

pub items-items-preserved : goal.items-items-preserved
items-items-preserved t c =
    λ o r. c.items.invariant o (items_go c.args.close c.items.at.now c.items.all c.in_ok-item.item c.in_ok-item.behind.now c.in_ok-item.ensures c.in-Some.field-0-0.now c.in-Some.behind.now c.in-Some.ensures o
    (subst (λ es. Reads rule (Items c.args.close es) c.in-Some.behind.now o) c.in_ok-push.ensures.ok r))

pub items-items-smaller : goal.items-items-smaller
items-items-smaller t c =
    let one = reads_shrinks c.in_ok-item.ensures in
    let two = taken_shrinks c.in-Some.ensures in
    omega arith

pub brace-returns-in-Some : goal.brace-returns-in-Some
brace-returns-in-Some t c =
    subst (λ e. Reads rule (Brace c.args.at) c.args.ts.now (Took e c.in-Some.behind.now)) (sym c.in_ok-expr.ensures)
    (subst (λ es. Reads rule (Brace c.args.at) c.args.ts.now (Took (placed c.args.at (X.Map es)) c.in-Some.behind.now)) (sym c.new.ensures)
    (brace_empty c.args.at c.args.ts.now c.in-Some.field-0-0.now c.in-Some.behind.now c.in-Some.ensures))

pub brace-returns-in_err-first : goal.brace-returns-in_err-first
brace-returns-in_err-first t c =
    exit (Gives (Brace c.args.at) c.args.ts.now) c.from_residual-in_err-first.result c.in_err-first.field-0.0 c.from_residual-in_err-first.ensures.1
    (brace_fails c.args.at c.args.ts.now c.in_default.ensures c.in_err-first.field-0.0 c.in_err-first.ensures)

pub brace-returns-in-Some-symbol_first : goal.brace-returns-in-Some-symbol_first
brace-returns-in-Some-symbol_first t c =
    brace_entries c.args.at c.args.ts.now c.in_default.ensures c.in_ok-first.first c.in_ok-first.behind.now c.in_ok-first.ensures c.in-Some-symbol_first.field-0-0.now c.in-Some-symbol_first.behind.now c.entries.result c.in-Some-symbol_first.ensures c.entries.ensures

pub brace-returns-in_err-behind-in-Some-name_alone : goal.brace-returns-in_err-behind-in-Some-name_alone
brace-returns-in_err-behind-in-Some-name_alone t c =
    let name = c.in-Some-name_alone.name in
    exit (Gives (Brace c.args.at) c.args.ts.now) c.from_residual-in_err-behind-in-Some-name_alone.result c.in_err-behind-in-Some-name_alone.field-0.0 c.from_residual-in_err-behind-in-Some-name_alone.ensures.1
    (name_stops c.args.at c.args.ts.now c.in_default.ensures (placed name.at (X.Name name.what)) c.in_ok-first.behind.now
    (subst (λ e. Reads rule Whole c.args.ts.now (Took e c.in_ok-first.behind.now)) c.in-Some-name_alone.ensures c.in_ok-first.ensures)
    c.in_default-symbol_first.ensures name.what refl c.in_err-behind-in-Some-name_alone.field-0.0 c.in_err-behind-in-Some-name_alone.ensures)

pub brace-returns-in_ok-behind-in-Some-name_alone : goal.brace-returns-in_ok-behind-in-Some-name_alone
brace-returns-in_ok-behind-in-Some-name_alone t c =
    let name = c.in-Some-name_alone.name in
    brace_fields c.args.at c.args.ts.now c.in_default.ensures (placed name.at (X.Name name.what)) c.in_ok-first.behind.now
    (subst (λ e. Reads rule Whole c.args.ts.now (Took e c.in_ok-first.behind.now)) c.in-Some-name_alone.ensures c.in_ok-first.ensures)
    c.in_default-symbol_first.ensures name.what refl c.in_ok-behind-in-Some-name_alone.behind c.fields.result c.in_ok-behind-in-Some-name_alone.ensures c.fields.ensures

pub brace-returns-in-None : goal.brace-returns-in-None
brace-returns-in-None t c =
    brace_stops c.args.at c.args.ts.now c.in_default.ensures c.in_ok-first.first c.in_ok-first.behind.now c.in_ok-first.ensures c.in_default-symbol_first.ensures c.in-None.ensures c.in_ok-first.behind refl

pub entries-entries-init : goal.entries-entries-init
entries-entries-init t c =
    λ o r. subst (λ es. Reads rule (Entries c.args.at es c.args.key) c.args.ts.now o) c.new-all.ensures r

pub entries-returns-in_err-value : goal.entries-returns-in_err-value
entries-returns-in_err-value t c =
    exit (Gives (Entries c.args.at [] c.args.key) c.args.ts.now) c.from_residual.result c.in_err-value.field-0.0 c.from_residual.ensures.1
    (says_on c.entries.invariant (Err c.in_err-value.field-0.0) (value_fails c.args.at c.entries.left.now c.entries.all c.entries.key c.in_err-value.field-0.0 c.in_err-value.ensures))

pub entries-returns-in_default : goal.entries-returns-in_default
entries-returns-in_default t c =
    says_on c.entries.invariant c.closed.result (entries_end c.args.at c.entries.left.now c.entries.all c.entries.key c.in_ok-value.value c.in_ok-value.behind.now c.in_ok-value.ensures c.in_default.ensures c.closed.result
    (subst (λ es. Comes (expect S.RightBrace (done (placed c.args.at (X.Map es)))) c.in_ok-value.behind.now c.closed.result) c.in_ok-push.ensures.ok c.closed.ensures))

pub entries-returns-in_err-next : goal.entries-returns-in_err-next
entries-returns-in_err-next t c =
    exit (Gives (Entries c.args.at [] c.args.key) c.args.ts.now) c.from_residual-in_err-next.result c.in_err-next.field-0.0 c.from_residual-in_err-next.ensures.1
    (says_on c.entries.invariant (Err c.in_err-next.field-0.0) (key_fails c.args.at c.entries.left.now c.entries.all c.entries.key c.in_ok-value.value c.in_ok-value.behind.now c.in_ok-value.ensures c.in-Some.field-0-0.now c.in-Some.behind.now c.in-Some.ensures c.in_err-next.field-0.0 c.in_err-next.ensures))

pub entries-returns-in_err-left : goal.entries-returns-in_err-left
entries-returns-in_err-left t c =
    exit (Gives (Entries c.args.at [] c.args.key) c.args.ts.now) c.from_residual-in_err-left.result c.in_err-left.field-0.0 c.from_residual-in_err-left.ensures.1
    (says_on c.entries.invariant (Err c.in_err-left.field-0.0) (key_stops c.args.at c.entries.left.now c.entries.all c.entries.key c.in_ok-value.value c.in_ok-value.behind.now c.in_ok-value.ensures c.in-Some.field-0-0.now c.in-Some.behind.now c.in-Some.ensures c.in_ok-next.next c.in_ok-next.behind.now c.in_ok-next.ensures c.in_err-left.field-0.0 c.in_err-left.ensures))

pub entries-entries-preserved : goal.entries-entries-preserved
entries-entries-preserved t c =
    λ o r. c.entries.invariant o (entries_go c.args.at c.entries.left.now c.entries.all c.entries.key c.in_ok-value.value c.in_ok-value.behind.now c.in_ok-value.ensures c.in-Some.field-0-0.now c.in-Some.behind.now c.in-Some.ensures c.in_ok-next.next c.in_ok-next.behind.now c.in_ok-next.ensures c.in_ok-left.left c.in_ok-left.ensures o
    (subst (λ es. Reads rule (Entries c.args.at es c.in_ok-next.next) c.in_ok-left.left.now o) c.in_ok-push.ensures.ok r))

pub entries-entries-smaller : goal.entries-entries-smaller
entries-entries-smaller t c =
    let one = reads_shrinks c.in_ok-value.ensures in
    let two = taken_shrinks c.in-Some.ensures in
    let three = reads_shrinks c.in_ok-next.ensures in
    let four = taken_shrinks c.in_ok-left.ensures.1 in
    omega arith

pub fields-fields-init : goal.fields-fields-init
fields-fields-init t c =
    λ o r. subst (λ fs. Reads rule (Fields c.args.at fs c.args.name) c.args.ts.now o) c.new-all.ensures r

pub fields-returns-in_err-value : goal.fields-returns-in_err-value
fields-returns-in_err-value t c =
    exit (Gives (Fields c.args.at [] c.args.name) c.args.ts.now) c.from_residual.result c.in_err-value.field-0.0 c.from_residual.ensures.1
    (says_on c.fields.invariant (Err c.in_err-value.field-0.0) (field_fails c.args.at c.fields.left.now c.fields.all c.fields.name c.in_err-value.field-0.0 c.in_err-value.ensures))

pub fields-returns-in_default : goal.fields-returns-in_default
fields-returns-in_default t c =
    says_on c.fields.invariant c.closed.result (fields_end c.args.at c.fields.left.now c.fields.all c.fields.name c.in_ok-value.value c.in_ok-value.behind.now c.in_ok-value.ensures c.in_default.ensures c.closed.result
    (subst (λ fs. Comes (expect S.RightBrace (done (placed c.args.at (X.Tuple fs)))) c.in_ok-value.behind.now c.closed.result) c.in_ok-push.ensures.ok c.closed.ensures))

pub fields-returns-in_err-next : goal.fields-returns-in_err-next
fields-returns-in_err-next t c =
    exit (Gives (Fields c.args.at [] c.args.name) c.args.ts.now) c.from_residual-in_err-next.result c.in_err-next.field-0.0 c.from_residual-in_err-next.ensures.1
    (says_on c.fields.invariant (Err c.in_err-next.field-0.0) (next_fails c.args.at c.fields.left.now c.fields.all c.fields.name c.in_ok-value.value c.in_ok-value.behind.now c.in_ok-value.ensures c.in-Some.field-0-0.now c.in-Some.behind.now c.in-Some.ensures c.in_err-next.field-0.0 c.in_err-next.ensures))

pub fields-returns-in_err-left : goal.fields-returns-in_err-left
fields-returns-in_err-left t c =
    exit (Gives (Fields c.args.at [] c.args.name) c.args.ts.now) c.from_residual-in_err-left.result c.in_err-left.field-0.0 c.from_residual-in_err-left.ensures.1
    (says_on c.fields.invariant (Err c.in_err-left.field-0.0) (next_stops c.args.at c.fields.left.now c.fields.all c.fields.name c.in_ok-value.value c.in_ok-value.behind.now c.in_ok-value.ensures c.in-Some.field-0-0.now c.in-Some.behind.now c.in-Some.ensures c.in_ok-next.next c.in_ok-next.behind.now c.in_ok-next.ensures c.in_err-left.field-0.0 c.in_err-left.ensures))

pub fields-fields-preserved : goal.fields-fields-preserved
fields-fields-preserved t c =
    λ o r. c.fields.invariant o (fields_go c.args.at c.fields.left.now c.fields.all c.fields.name c.in_ok-value.value c.in_ok-value.behind.now c.in_ok-value.ensures c.in-Some.field-0-0.now c.in-Some.behind.now c.in-Some.ensures c.in_ok-next.next c.in_ok-next.behind.now c.in_ok-next.ensures c.in_ok-left.left c.in_ok-left.ensures o
    (subst (λ fs. Reads rule (Fields c.args.at fs c.in_ok-next.next) c.in_ok-left.left.now o) c.in_ok-push.ensures.ok r))

pub fields-fields-smaller : goal.fields-fields-smaller
fields-fields-smaller t c =
    let one = reads_shrinks c.in_ok-value.ensures in
    let two = taken_shrinks c.in-Some.ensures in
    let three = taken_as_shrinks c.in_ok-next.ensures in
    let four = taken_shrinks c.in_ok-left.ensures.1 in
    omega arith

pub steps-steps-init : goal.steps-steps-init
steps-steps-init t c =
    λ o r. subst (λ ss. Reads rule (Steps c.args.primary ss) c.args.ts.now o) c.new-all.ensures r

pub steps-returns-in_err-found : goal.steps-returns-in_err-found
steps-returns-in_err-found t c =
    exit (Gives (Steps c.args.primary []) c.args.ts.now) c.from_residual.result c.in_err-found.field-0.0 c.from_residual.ensures.1
    (says_on c.steps.invariant (Err c.in_err-found.field-0.0) (steps_fails c.args.primary c.steps.all c.steps.at.now c.in_err-found.field-0.0 c.in_err-found.ensures))

pub steps-returns-in_default : goal.steps-returns-in_default
steps-returns-in_default t c =
    let found = subst (λ s. StepFound c.steps.at.now s c.in_ok-found.behind.now) c.in_default.is c.in_ok-found.ensures in
    says_on c.steps.invariant c.selected.result (steps_end c.args.primary c.steps.all c.steps.at.now c.in_ok-found.behind.now c.selected.result found c.selected.ensures)

pub steps-steps-preserved : goal.steps-steps-preserved
steps-steps-preserved t c =
    λ o r.
    let found = subst (λ s. StepFound c.steps.at.now s c.in_ok-found.behind.now) c.in-Some.is c.in_ok-found.ensures in
    c.steps.invariant o (found.1 c.args.primary c.steps.all o (subst (λ ss. Reads rule (Steps c.args.primary ss) c.in_ok-found.behind.now o) c.in_ok-push.ensures.ok r))

pub steps-steps-smaller : goal.steps-steps-smaller
steps-steps-smaller t c =
    let found = subst (λ s. StepFound c.steps.at.now s c.in_ok-found.behind.now) c.in-Some.is c.in_ok-found.ensures in found.0

pub step-returns-in_err-name : goal.step-returns-in_err-name
step-returns-in_err-name t c =
    exit (StepsOn c.args.ts.now) c.from_residual.result c.in_err-name.field-0.0 c.from_residual.ensures.1
    (member_fails c.args.ts.now c.in-Some.field-0-0.now c.in-Some.behind.now c.in-Some.ensures c.in_err-name.field-0.0 c.in_err-name.ensures)

pub step-returns-in-Some : goal.step-returns-in-Some
step-returns-in-Some t c =
    member_found c.args.ts.now c.in-Some.field-0-0.now c.in-Some.behind.now c.in-Some.ensures c.in_ok-name.name c.in_ok-name.behind.now c.in_ok-name.ensures

pub step-returns-in_err-index : goal.step-returns-in_err-index
step-returns-in_err-index t c =
    exit (StepsOn c.args.ts.now) c.from_residual-in_err-index.result c.in_err-index.field-0.0 c.from_residual-in_err-index.ensures.1
    (index_fails c.args.ts.now c.in-Some-symbol_first.field-0-0.now c.in-Some-symbol_first.behind.now c.in_default.ensures c.in-Some-symbol_first.ensures c.in_err-index.field-0.0 c.in_err-index.ensures)

pub step-returns-in_err-behind : goal.step-returns-in_err-behind
step-returns-in_err-behind t c =
    exit (StepsOn c.args.ts.now) c.from_residual-in_err-behind.result c.in_err-behind.field-0.0 c.from_residual-in_err-behind.ensures.1
    (index_stops c.args.ts.now c.in-Some-symbol_first.field-0-0.now c.in-Some-symbol_first.behind.now c.in_default.ensures c.in-Some-symbol_first.ensures c.in_ok-index.index c.in_ok-index.behind.now c.in_ok-index.ensures c.in_err-behind.field-0.0 c.in_err-behind.ensures)

pub step-returns-in-Some-symbol_first : goal.step-returns-in-Some-symbol_first
step-returns-in-Some-symbol_first t c =
    index_found c.args.ts.now c.in-Some-symbol_first.field-0-0.now c.in-Some-symbol_first.behind.now c.in_default.ensures c.in-Some-symbol_first.ensures c.in_ok-index.index c.in_ok-index.behind.now c.in_ok-index.ensures c.in_ok-behind.behind c.in_ok-behind.ensures

pub step-returns : goal.step-returns
step-returns t c =
    (c.in_default.ensures, c.in_default-symbol_first.ensures, refl)

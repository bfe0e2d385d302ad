use Rattle.std.proofs.Common.{ℕ, Bool, true, false, List, [], ◌∷◌, ◌++◌, Some, None, subst, arith}
use Rattle.expr_parser.specs.Rules.{done, call, RuleResult, Took, RunsTo, Reads}
use Rattle.spl_tree.specs.declared.shape.Attribute.{Attribute}
use Rattle.spl_tree.specs.declared.statement.StmtKind.TheVariants as Z
use Rattle.spl_tree.specs.declared.token.Token.{Token}
use Rattle.spl_tree.specs.Trees.{Expr, placed, Stmt, TypeExpr}
use Rattle.statement_parser.specs.steps.GivesStatements as parts
use Rattle.statement_parser.specs.Lines as lines
use Rattle.statement_parser.specs.Lines.{R, Statement, Statements, Other, Begun, Arms, rule}
use Rattle.statement_parser.proofs.Readings.{finished, reads, taken, skipped, line_read, says_on, rule_on, fails, rule_fails, line_fails}
use Rattle.statement_parser.proofs.StatementReadings.{part_read, part_fails, statement_shrinks, arms_none, arms_else}
use Rattle.statement_parser.proofs.statements.+statements.Goals as goal
use Rattle.expr_parser.proofs.Locality.{reads_shrinks, runs_shrinks, taken_shrinks}
use Rattle.expr_parser.proofs.RuleLaws.{runs_last}

-- ---- statements in a row

pub statements-statements-init : goal.statements-statements-init
statements-statements-init t c = λ o r. subst (λ ss. Reads rule (Statements ss) c.args.ts.now o) c.new-all.ensures r

pub statements-returns-in-Some : goal.statements-returns-in-Some
unfolding lines.rule
statements-returns-in-Some t c = c.statements.invariant (Took c.statements.all c.in-Some.behind.now) (reads (taken c.in-Some.ensures finished))

pub statements-returns-in_err-one : goal.statements-returns-in_err-one
unfolding lines.rule
statements-returns-in_err-one t c =
    fails (Statements []) c.args.ts.now c.statements.at.now _ _ c.in_err-one.field-0.0 c.from_residual.ensures.1 (λ o q. c.statements.invariant o (reads (skipped c.in_default.ensures q)))
    (line_fails _ Statement (λ s. call (Statements (c.statements.all ++ s.0 ∷ [])) done) _ c.in_err-one.ensures)

pub statements-statements-preserved : goal.statements-statements-preserved
unfolding lines.rule
statements-statements-preserved t c = λ o r.
    c.statements.invariant o (reads (skipped c.in_default.ensures (line_read c.in_ok-one.ensures
    (runs_last (subst (λ ss. Reads rule (Statements ss) c.in_ok-one.behind.now o) c.in_ok-push.ensures.ok r)))))

pub statements-statements-smaller : goal.statements-statements-smaller
statements-statements-smaller t c = statement_shrinks c.in_ok-one.ensures

-- ---- a statement

pub statement-returns-in-Some : goal.statement-returns-in-Some
unfolding lines.rule
statement-returns-in-Some t c =
    says_on {P = Reads rule (Arms c.in-Some.word.now.start []) c.in-Some.behind.now} {Q = Reads rule Statement c.args.ts.now} (λ o q. reads (taken c.in-Some.ensures (runs_last q)))
    c.arms.result c.arms.ensures

pub statement-returns-in-None : goal.statement-returns-in-None
unfolding lines.rule
statement-returns-in-None t c =
    says_on {P = Reads rule Other c.args.ts.now} {Q = Reads rule Statement c.args.ts.now} (λ o q. reads (skipped c.in-None.ensures (runs_last q))) c.other.result c.other.ensures

-- ---- statements after their first token

pub braces-returns : goal.braces-returns
braces-returns t c =
    rule_on (lines.braces_rule c.args.at) (done (placed c.args.at (Z.Block c.in_ok-inside.inside), true)) c.args.ts.now c.in_ok-inside.behind.now c.statement_at.result
    (λ o q. line_read c.in_ok-inside.ensures q) c.statement_at.ensures

-- after the head of a `while` and of a `for`
abbrev whiled : ℕ → Expr → R (Stmt × Bool)
whiled at e = call Statement (λ s. done (placed at (Z.While e s.0), s.1))

abbrev gone : ℕ → Attribute TypeExpr → Expr → R (Stmt × Bool)
gone at v e = call Statement (λ s. done (placed at (Z.For v e s.0), s.1))

pub while_loop-returns-in_err-body : goal.while_loop-returns-in_err-body
while_loop-returns-in_err-body t c =
    rule_fails (lines.while_rule c.args.at) _ c.args.ts.now c.in_ok-condition.behind.now _ c.in_err-body.field-0.0 c.from_residual-in_err-body.ensures.1
    (λ o q. part_read parts.condition (whiled c.args.at) c.in_ok-condition.ensures q)
    (line_fails _ Statement (λ s. done (placed c.args.at (Z.While c.in_ok-condition.condition s.0), s.1)) _ c.in_err-body.ensures)

pub while_loop-returns : goal.while_loop-returns
while_loop-returns t c =
    rule_on (lines.while_rule c.args.at) (done (placed c.args.at (Z.While c.in_ok-condition.condition c.in_ok-body.body), c.in_ok-body.closed)) c.args.ts.now c.in_ok-body.behind.now
    c.statement_at.result (λ o q. part_read parts.condition (whiled c.args.at) c.in_ok-condition.ensures (line_read c.in_ok-body.ensures q)) c.statement_at.ensures

pub for_loop-returns-in_err-body : goal.for_loop-returns-in_err-body
for_loop-returns-in_err-body t c =
    rule_fails (lines.for_rule c.args.at) _ c.args.ts.now c.in_ok-variable.behind.now _ c.in_err-body.field-0.0 c.from_residual-in_err-body.ensures.1
    (λ o q. part_read parts.for_head (λ h. gone c.args.at h.0 h.1) c.in_ok-variable.ensures q)
    (line_fails _ Statement (λ s. done (placed c.args.at (Z.For c.in_ok-variable.variable c.in_ok-variable.over s.0), s.1)) _ c.in_err-body.ensures)

pub for_loop-returns : goal.for_loop-returns
for_loop-returns t c =
    rule_on (lines.for_rule c.args.at) (done (placed c.args.at (Z.For c.in_ok-variable.variable c.in_ok-variable.over c.in_ok-body.body), c.in_ok-body.closed)) c.args.ts.now
    c.in_ok-body.behind.now c.statement_at.result (λ o q. part_read parts.for_head (λ h. gone c.args.at h.0 h.1) c.in_ok-variable.ensures (line_read c.in_ok-body.ensures q))
    c.statement_at.ensures

-- ---- a statement that is no `if`

pub other-returns-in-Some : goal.other-returns-in-Some
unfolding lines.rule
other-returns-in-Some t c =
    says_on {P = RunsTo rule (lines.braces_rule c.in-Some.open.now.start) c.in-Some.behind.now} {Q = Reads rule Other c.args.ts.now} (λ o q. reads (taken c.in-Some.ensures q))
    c.braces.result c.braces.ensures

pub other-returns-in-Some-word_first : goal.other-returns-in-Some-word_first
unfolding lines.rule
other-returns-in-Some-word_first t c =
    says_on {P = RunsTo rule (lines.while_rule c.in-Some-word_first.word.now.start) c.in-Some-word_first.behind.now} {Q = Reads rule Other c.args.ts.now}
    (λ o q. reads (skipped c.in_default.ensures (taken c.in-Some-word_first.ensures q))) c.while_loop.result c.while_loop.ensures

pub other-returns-in-Some-word_first-2 : goal.other-returns-in-Some-word_first-2
unfolding lines.rule
other-returns-in-Some-word_first-2 t c =
    says_on {P = RunsTo rule (lines.for_rule c.in-Some-word_first-2.word.now.start) c.in-Some-word_first-2.behind.now} {Q = Reads rule Other c.args.ts.now}
    (λ o q. reads (skipped c.in_default.ensures (skipped c.in_default-word_first.ensures (taken c.in-Some-word_first-2.ensures q)))) c.for_loop.result c.for_loop.ensures

pub other-returns-in-None : goal.other-returns-in-None
unfolding lines.rule
other-returns-in-None t c =
    says_on {P = RunsTo rule lines.simple_rule c.args.ts.now} {Q = Reads rule Other c.args.ts.now}
    (λ o q. reads (skipped c.in_default.ensures (skipped c.in_default-word_first.ensures (skipped c.in-None.ensures q)))) c.simple_statement.result c.simple_statement.ensures

-- ---- an `if`

-- after a condition
abbrev armed : ℕ → List (Expr × Stmt) → Expr → R (Stmt × Bool)
armed at arms e = call Statement (λ s. lines.arms_end at (arms ++ (e, s.0) ∷ []) s.1)

arms_read : {at : ℕ} {arms : List (Expr × Stmt)} {ts : List Token} {o : RuleResult (Stmt × Bool)} → RunsTo rule (lines.arms_rule at arms) ts o → Reads rule (Arms at arms) ts o
unfolding lines.rule
arms_read r = reads r

pub arms-arms-init : goal.arms-arms-init
arms-arms-init t c = λ o r. subst (λ xs. Reads rule (Arms c.args.at xs) c.args.ts.now o) c.new-all.ensures r

pub arms-returns-in_err-condition : goal.arms-returns-in_err-condition
arms-returns-in_err-condition t c =
    fails (Arms c.args.at []) c.args.ts.now c.arms.left.now (lines.arms_rule c.args.at c.arms.all) _ c.in_err-condition.field-0.0 c.from_residual.ensures.1
    (λ o q. c.arms.invariant o (arms_read q)) (part_fails parts.condition (armed c.args.at c.arms.all) _ _ c.in_err-condition.ensures)

pub arms-returns-in_err-body : goal.arms-returns-in_err-body
arms-returns-in_err-body t c =
    fails (Arms c.args.at []) c.args.ts.now c.in_ok-condition.behind.now (armed c.args.at c.arms.all c.in_ok-condition.condition) _ c.in_err-body.field-0.0 c.from_residual-in_err-body.ensures.1
    (λ o q. c.arms.invariant o (arms_read (part_read parts.condition (armed c.args.at c.arms.all) c.in_ok-condition.ensures q)))
    (line_fails _ Statement (λ s. lines.arms_end c.args.at (c.arms.all ++ (c.in_ok-condition.condition, s.0) ∷ []) s.1) _ c.in_err-body.ensures)

pub arms-returns-in_default : goal.arms-returns-in_default
arms-returns-in_default t c =
    let all = c.arms.all ++ (c.in_ok-condition.condition, c.in_ok-body.body) ∷ [] in
    says_on {P = RunsTo rule (done (placed c.args.at (Z.If c.push.new.self None), false)) c.in_ok-body.behind.now} {Q = Reads rule (Arms c.args.at []) c.args.ts.now}
    (λ o q. c.arms.invariant o (arms_read (part_read parts.condition (armed c.args.at c.arms.all) c.in_ok-condition.ensures (line_read c.in_ok-body.ensures
    (arms_none c.args.at all c.in_ok-body.closed c.in_default.ensures
    (subst (λ xs. RunsTo rule (done (placed c.args.at (Z.If xs None), false)) c.in_ok-body.behind.now o) c.in_ok-push.ensures.ok q))))))
    c.statement_at.result c.statement_at.ensures

pub arms-returns-in_default-word_first : goal.arms-returns-in_default-word_first
arms-returns-in_default-word_first t c =
    let all = c.arms.all ++ (c.in_ok-condition.condition, c.in_ok-body.body) ∷ [] in
    says_on {P = RunsTo rule (lines.last_branch_rule c.args.at c.push.new.self) c.in-Some.behind.now} {Q = Reads rule (Arms c.args.at []) c.args.ts.now}
    (λ o q. c.arms.invariant o (arms_read (part_read parts.condition (armed c.args.at c.arms.all) c.in_ok-condition.ensures (line_read c.in_ok-body.ensures
    (arms_else c.args.at all c.in_ok-body.closed c.in-Some.ensures (skipped c.in_default-word_first.ensures
    (subst (λ xs. RunsTo rule (lines.last_branch_rule c.args.at xs) c.in-Some.behind.now o) c.in_ok-push.ensures.ok q)))))))
    c.last_branch.result c.last_branch.ensures

pub last_branch-returns : goal.last_branch-returns
last_branch-returns t c =
    rule_on (lines.last_branch_rule c.args.at c.args.arms) (done (placed c.args.at (Z.If c.args.arms (Some c.in_ok-body.body)), c.in_ok-body.closed)) c.args.ts.now c.in_ok-body.behind.now
    c.statement_at.result (λ o q. line_read c.in_ok-body.ensures q) c.statement_at.ensures

pub arms-arms-preserved : goal.arms-arms-preserved
arms-arms-preserved t c = λ o r.
    let all = c.arms.all ++ (c.in_ok-condition.condition, c.in_ok-body.body) ∷ [] in
    c.arms.invariant o (arms_read (part_read parts.condition (armed c.args.at c.arms.all) c.in_ok-condition.ensures (line_read c.in_ok-body.ensures
    (arms_else c.args.at all c.in_ok-body.closed c.in-Some.ensures (taken c.in-Some-word_first.ensures
    (runs_last (subst (λ xs. Reads rule (Arms c.args.at xs) c.in-Some-word_first.behind.now o) c.in_ok-push.ensures.ok r)))))))

pub arms-arms-smaller : goal.arms-arms-smaller
arms-arms-smaller t c =
    let one = runs_shrinks c.in_ok-condition.ensures in
    let two = reads_shrinks c.in_ok-body.ensures in
    let three = taken_shrinks c.in-Some.ensures.1.1 in
    let four = taken_shrinks c.in-Some-word_first.ensures in
    omega arith

use Rattle.std.proofs.Common.{◌∙◌, true, subst}
use Rattle.expr_parser.specs.Rules.{done, call, Took, RunsTo, Reads}
use Rattle.statement_parser.specs.steps.GivesStatements as statements
use Rattle.statement_parser.specs.Lines as lines
use Rattle.statement_parser.specs.Lines.{Begun, rule}
use Rattle.statement_parser.proofs.Readings.{finished, taken, skipped, line_read, says_on, rule_fails, line_fails}
use Rattle.statement_parser.proofs.simple.named_statement.Goals as goal

pub returns-in_err-statement-in-Some : goal.returns-in_err-statement-in-Some
returns-in_err-statement-in-Some c =
    let at = c.in-Some.token.now.start in
    rule_fails statements.named_rule _ c.args.ts.now c.in-Some.behind.now _ c.in_err-statement-in-Some.field-0.0 c.from_residual-in_err-statement-in-Some.ensures.1
    (λ o q. taken c.in-Some.ensures.0
    (subst (λ n. RunsTo rule (call (Begun at n) (λ s. done (s, true))) c.in-Some.behind.now o) (c.in_ok-name-in-Some.ensures ∙ c.as_slice.ensures ∙ c.in-Some.ensures.1) q))
    (line_fails _ (Begun at c.in_ok-name-in-Some.name) (λ s. done (s, true)) _ c.in_err-statement-in-Some.ensures)

pub returns-in_ok-statement-in-Some : goal.returns-in_ok-statement-in-Some
returns-in_ok-statement-in-Some c =
    let at = c.in-Some.token.now.start in
    let same = c.in_ok-name-in-Some.ensures ∙ c.as_slice.ensures ∙ c.in-Some.ensures.1 in
    taken c.in-Some.ensures.0 (line_read
    (subst (λ n. Reads rule (Begun at n) c.in-Some.behind.now (Took c.in_ok-statement-in-Some.statement c.in_ok-statement-in-Some.behind.now)) same c.in_ok-statement-in-Some.ensures)
    finished)

pub returns-in-None : goal.returns-in-None
returns-in-None c =
    says_on {P = RunsTo rule lines.variable_rule c.args.ts.now} {Q = RunsTo rule statements.named_rule c.args.ts.now}
    (λ o q. skipped c.in-None.ensures q) c.variable.result c.variable.ensures

use Rattle.expr_parser.specs.Rules.{RunsTo}
use Rattle.spl_tree.specs.declared.statement.StmtKind.TheVariants as Z
use Rattle.statement_parser.specs.steps.GivesStatements as statements
use Rattle.statement_parser.specs.Lines as lines
use Rattle.statement_parser.specs.Lines.{rule}
use Rattle.statement_parser.proofs.Readings.{taken, skipped, says_on}
use Rattle.statement_parser.proofs.simple.simple_statement.Goals as goal

pub returns-in-Some : goal.returns-in-Some
returns-in-Some c =
    says_on {P = RunsTo rule (lines.ended_rule c.in-Some.word.now.start Z.Break) c.in-Some.behind.now} {Q = RunsTo rule lines.simple_rule c.args.ts.now} (λ o q. taken c.in-Some.ensures q)
    c.ended.result c.ended.ensures

pub returns-in-Some-word_first : goal.returns-in-Some-word_first
returns-in-Some-word_first c =
    says_on {P = RunsTo rule (lines.ended_rule c.in-Some-word_first.word.now.start Z.Continue) c.in-Some-word_first.behind.now} {Q = RunsTo rule lines.simple_rule c.args.ts.now}
    (λ o q. skipped c.in_default.ensures (taken c.in-Some-word_first.ensures q)) c.ended-in-Some-word_first.result c.ended-in-Some-word_first.ensures

pub returns-in-Some-word_first-2 : goal.returns-in-Some-word_first-2
returns-in-Some-word_first-2 c =
    says_on {P = RunsTo rule (lines.returned_rule c.in-Some-word_first-2.word.now.start) c.in-Some-word_first-2.behind.now} {Q = RunsTo rule lines.simple_rule c.args.ts.now}
    (λ o q. skipped c.in_default.ensures (skipped c.in_default-word_first.ensures (taken c.in-Some-word_first-2.ensures q))) c.returned.result c.returned.ensures

pub returns-in-Some-word_first-3 : goal.returns-in-Some-word_first-3
returns-in-Some-word_first-3 c =
    says_on {P = RunsTo rule (lines.submitted_rule c.in-Some-word_first-3.word.now.start) c.in-Some-word_first-3.behind.now} {Q = RunsTo rule lines.simple_rule c.args.ts.now}
    (λ o q. skipped c.in_default.ensures (skipped c.in_default-word_first.ensures (skipped c.in_default-word_first-2.ensures (taken c.in-Some-word_first-3.ensures q))))
    c.submitted.result c.submitted.ensures

pub returns-in-Some-word_first-4 : goal.returns-in-Some-word_first-4
returns-in-Some-word_first-4 c =
    says_on {P = RunsTo rule (lines.mutable_rule c.in-Some-word_first-4.word.now.start) c.in-Some-word_first-4.behind.now} {Q = RunsTo rule lines.simple_rule c.args.ts.now}
    (λ o q. skipped c.in_default.ensures (skipped c.in_default-word_first.ensures (skipped c.in_default-word_first-2.ensures (skipped c.in_default-word_first-3.ensures
    (taken c.in-Some-word_first-4.ensures q))))) c.mutable_variable.result c.mutable_variable.ensures

pub returns : goal.returns
returns c =
    says_on {P = RunsTo rule statements.named_rule c.args.ts.now} {Q = RunsTo rule lines.simple_rule c.args.ts.now}
    (λ o q. skipped c.in_default.ensures (skipped c.in_default-word_first.ensures (skipped c.in_default-word_first-2.ensures (skipped c.in_default-word_first-3.ensures
    (skipped c.in_default-word_first-4.ensures q))))) c.named_statement.result c.named_statement.ensures

use Rattle.std.proofs.Common.{◌≡◌, false, Option, Some, None}
use Rattle.std.specs.Prelude.{is_some, MatchOption}
use Rattle.expr_parser.specs.Lines.{is_name}
use Rattle.expr_parser.specs.Rules.{RunsTo, Reads}
use Rattle.statement_parser.specs.steps.GivesStatements as statements
use Rattle.statement_parser.specs.Lines as lines
use Rattle.statement_parser.specs.Lines.{rule, name_at}
use Rattle.statement_parser.proofs.Readings.{reads, taken, skipped, taken_as, says_on}
use Rattle.statement_parser.proofs.simple.begun.Goals as goal

none : {X A : Type 0} (B : X → Type 0) (o : Option X) → MatchOption o A B → false ≡ is_some o → A
none B None a e = a
none B (Some x) b e = absurd (cc)

pub returns-then-is_some : goal.returns-then-is_some
unfolding lines.rule
returns-then-is_some c =
    says_on {P = RunsTo rule (statements.variable_rule c.args.at c.args.name c.in_ok-variable.variable) c.in_ok-variable.behind.now} {Q = Reads rule (lines.Begun c.args.at c.args.name) c.args.ts.now}
    (λ o q. reads (taken_as is_name name_at (statements.variable_rule c.args.at c.args.name) c.in_ok-variable.ensures q)) c.variable_begun.result c.variable_begun.ensures

pub returns-in-Some : goal.returns-in-Some
unfolding lines.rule
returns-in-Some c =
    says_on {P = RunsTo rule (statements.called_rule c.args.at c.args.name) c.in-Some.behind.now} {Q = Reads rule (lines.Begun c.args.at c.args.name) c.args.ts.now}
    (λ o q. reads (skipped (none _ c.name_first.result c.name_first.ensures c.if-is_some.ensures) (taken c.in-Some.ensures q))) c.called.result c.called.ensures

pub returns-in-None : goal.returns-in-None
unfolding lines.rule
returns-in-None c =
    says_on {P = RunsTo rule (statements.assigned_rule c.args.at c.args.name) c.args.ts.now} {Q = Reads rule (lines.Begun c.args.at c.args.name) c.args.ts.now}
    (λ o q. reads (skipped (none _ c.name_first.result c.name_first.ensures c.if-is_some.ensures) (skipped c.in-None.ensures q))) c.assigned.result c.assigned.ensures

use Rattle.std.proofs.Common.{List, []}
use Rattle.spl_tree.specs.declared.keyword.Keyword.TheVariants as K
use Rattle.spl_tree.specs.declared.token.Token.{Token}
use Rattle.spl_tree.specs.declared.unit.Definition.{Definition}
use Rattle.expr_parser.specs.Rules.{call, done, look, RuleResult, RunsTo, Reads}
use Rattle.statement_parser.proofs.Readings.{reads, taken, skipped, line_read, says_on, fails, line_fails}
use Rattle.unit_parser.proofs.DefinitionReadings.{names_stopped}
use Rattle.statement_parser.specs.Lines as lines
use Rattle.statement_parser.specs.Lines.{rule, is_word}
use Rattle.unit_parser.proofs.units.unit.Goals as goal
use Rattle.expr_parser.proofs.RuleLaws.{runs_last}

unit_read : {ts : List Token} {o : RuleResult (List Definition)}
    → RunsTo rule (look (is_word K.Namespace) (λ _. call lines.Namespace (λ _. call (lines.Definitions []) done)) (call (lines.Definitions []) done)) ts o → Reads rule lines.Whole ts o
unfolding lines.rule
unit_read r = reads r

pub returns-in_err-behind-in-Some : goal.returns-in_err-behind-in-Some
returns-in_err-behind-in-Some c =
    fails lines.Whole c.args.ts.now c.in-Some.behind.now _ c.from_residual.result c.in_err-behind-in-Some.field-0.0 c.from_residual.ensures.1
    (λ o q. unit_read (taken c.in-Some.ensures q))
    (line_fails _ lines.Namespace _ _ (names_stopped _ _ c.in_err-behind-in-Some.ensures))

pub returns-in_ok-behind-in-Some : goal.returns-in_ok-behind-in-Some
returns-in_ok-behind-in-Some c =
    says_on {P = Reads lines.rule (lines.Definitions []) c.in_ok-behind-in-Some.behind.now} {Q = Reads lines.rule lines.Whole c.args.ts.now}
    (λ o r. unit_read (taken c.in-Some.ensures (line_read c.in_ok-behind-in-Some.ensures (runs_last r)))) c.definitions.result c.definitions.ensures

pub returns-in-None : goal.returns-in-None
returns-in-None c =
    says_on {P = Reads lines.rule (lines.Definitions []) c.args.ts.now} {Q = Reads lines.rule lines.Whole c.args.ts.now}
    (λ o r. unit_read (skipped c.in-None.ensures (runs_last r))) c.definitions-in-None.result c.definitions-in-None.ensures

use Rattle.std.proofs.Common.{[], subst}
use Rattle.expr_parser.specs.Rules.{done, call, RunsTo}
use Rattle.spl_tree.specs.declared.symbol.Symbol.TheVariants as S
use Rattle.statement_parser.proofs.Readings.{taken, skipped, word_passed, line_read, rule_on, rule_fails, word_fails, line_fails}
use Rattle.statement_parser.specs.Lines.{Ports, expect, rule}
use Rattle.unit_parser.specs.steps.GivesComposites.{other_ports_rule}
use Rattle.unit_parser.proofs.composites.other_ports.Goals as goal

pub returns-in_default : goal.returns-in_default
returns-in_default c =
    rule_on (other_ports_rule c.args.word) (expect S.RightParen (done c.new.result)) c.args.ts.now c.args.ts.now c.closed.result
    (λ o q. skipped c.in_default.ensures (subst (λ ps. RunsTo rule (expect S.RightParen (done ps)) c.args.ts.now o) c.new.ensures q)) c.closed.ensures

pub returns-in_err-behind : goal.returns-in_err-behind
returns-in_err-behind c =
    rule_fails (other_ports_rule c.args.word) _ c.args.ts.now c.in-Some.behind.now _ c.in_err-behind.field-0.0 c.from_residual.ensures.1
    (λ o q. taken c.in-Some.ensures q)
    (word_fails _ c.args.word (call (Ports []) (λ ps. expect S.RightParen (done ps))) _ c.in_err-behind.ensures)

pub returns-in_err-all : goal.returns-in_err-all
returns-in_err-all c =
    rule_fails (other_ports_rule c.args.word) _ c.args.ts.now c.in_ok-behind.behind.now _ c.in_err-all.field-0.0 c.from_residual-in_err-all.ensures.1
    (λ o q. taken c.in-Some.ensures (word_passed c.args.word c.in_ok-behind.ensures q))
    (line_fails _ (Ports []) (λ ps. expect S.RightParen (done ps)) _ c.in_err-all.ensures)

pub returns : goal.returns
returns c =
    rule_on (other_ports_rule c.args.word) (expect S.RightParen (done c.in_ok-all.all)) c.args.ts.now c.in_ok-all.behind.now c.closed-2.result
    (λ o q. taken c.in-Some.ensures (word_passed c.args.word c.in_ok-behind.ensures (line_read c.in_ok-all.ensures q))) c.closed-2.ensures

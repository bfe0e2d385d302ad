use Rattle.std.proofs.Common.{List, Option, refl}
use Rattle.spl_tree.specs.declared.expression.Placed.{Placed}
use Rattle.spl_tree.specs.declared.token.Token.{Token}
use Rattle.spl_tree.specs.declared.unit.Clauses.{Clauses}
use Rattle.spl_tree.specs.declared.unit.Logic.{Logic}
use Rattle.spl_tree.specs.declared.unit.OutputAssignments.{OutputAssignments}
use Rattle.spl_tree.specs.declared.unit.Parameter.{Parameter}
use Rattle.spl_tree.specs.declared.unit.PortWindow.{PortWindow}
use Rattle.expr_parser.specs.Rules.{done, RuleResult, RunsTo, Reads}
use Rattle.spl_tree.specs.declared.symbol.Symbol.TheVariants as S
use Rattle.unit_parser.specs.steps.GivesParts.{logic_and_window, param_to_config}
use Rattle.statement_parser.specs.Lines as lines
use Rattle.statement_parser.specs.Lines.{R, rule}
use Rattle.statement_parser.proofs.Readings.{finished, reads, taken, skipped, passed, fails, pass_fails}
use Rattle.unit_parser.proofs.Rows.{made}
use Rattle.statement_parser.proofs.StatementReadings.{behind, part_read, part_fails}
use Rattle.unit_parser.proofs.clauses.end.Goals as goal

-- the rule after the closing brace, and after the windows
abbrev closed : Option (Placed Logic) × Option (Placed (List PortWindow)) → List Parameter × Option (Placed (List OutputAssignments)) × List Parameter → R Clauses
closed a b = done (record { logic = a.0; window = a.1; parameters = b.0; output = b.1; config = b.2 })

abbrev windowed : Option (Placed Logic) × Option (Placed (List PortWindow)) → R Clauses
windowed a = behind param_to_config (closed a)

-- what its rule gives
end_read : {ts : List Token} {o : RuleResult Clauses} → RunsTo rule lines.end_rule ts o → Reads rule lines.End ts o
unfolding lines.rule
end_read r = reads r

pub returns-in-Some : goal.returns-in-Some
returns-in-Some c =
    let same = c.new.ensures in
    let rest = c.new-in-Some.ensures in
    end_read (taken c.in-Some.ensures (made (rw same (rw rest refl))))

pub returns-in_err-behind : goal.returns-in_err-behind
returns-in_err-behind c =
    fails lines.End c.args.ts.now c.args.ts.now _ c.from_residual.result c.in_err-behind.field-0.0 c.from_residual.ensures.1
    (λ o q. end_read (skipped c.in_default.ensures q))
    (pass_fails _ S.LeftBrace _ _ c.in_err-behind.ensures)

pub returns-in_err-logic : goal.returns-in_err-logic
returns-in_err-logic c =
    fails lines.End c.args.ts.now c.in_ok-behind.behind.now _ c.from_residual-in_err-logic.result c.in_err-logic.field-0.0 c.from_residual-in_err-logic.ensures.1
    (λ o q. end_read (skipped c.in_default.ensures (passed S.LeftBrace c.in_ok-behind.ensures q)))
    (part_fails logic_and_window windowed _ _ c.in_err-logic.ensures)

pub returns-in_err-parameters : goal.returns-in_err-parameters
returns-in_err-parameters c =
    fails lines.End c.args.ts.now c.in_ok-logic.behind.now _ c.from_residual-in_err-parameters.result c.in_err-parameters.field-0.0 c.from_residual-in_err-parameters.ensures.1
    (λ o q. end_read (skipped c.in_default.ensures (passed S.LeftBrace c.in_ok-behind.ensures (part_read logic_and_window windowed c.in_ok-logic.ensures q))))
    (part_fails param_to_config (closed (c.in_ok-logic.logic, c.in_ok-logic.window)) _ _ c.in_err-parameters.ensures)

pub returns : goal.returns
returns c =
    end_read (skipped c.in_default.ensures (passed S.LeftBrace c.in_ok-behind.ensures (part_read logic_and_window windowed c.in_ok-logic.ensures
    (part_read param_to_config (closed (c.in_ok-logic.logic, c.in_ok-logic.window)) c.in_ok-parameters.ensures finished))))

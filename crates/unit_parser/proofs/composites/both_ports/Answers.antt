use Rattle.std.specs.Prelude.{List, []}
use Rattle.expr_parser.specs.Rules.{done}
use Rattle.spl_tree.specs.declared.keyword.Keyword.{Keyword}
use Rattle.spl_tree.specs.declared.unit.HeadPort.{HeadPort}
use Rattle.statement_parser.proofs.Readings.{finished, line_read, rule_fails, line_fails}
use Rattle.statement_parser.proofs.StatementReadings.{behind, part_read, part_fails}
use Rattle.statement_parser.specs.Lines.{R, Ports}
use Rattle.unit_parser.specs.steps.GivesComposites.{both_ports_rule, other_ports_rule}
use Rattle.unit_parser.proofs.composites.both_ports.Goals as goal

-- the rule after the other ports, and after the first ones
abbrev paired : List HeadPort → List HeadPort → R (List HeadPort × List HeadPort)
paired ps qs = done (ps, qs)

abbrev others : Keyword → List HeadPort → R (List HeadPort × List HeadPort)
others word ps = behind (other_ports_rule word) (paired ps)

pub returns-in_err-first : goal.returns-in_err-first
returns-in_err-first c =
    rule_fails (both_ports_rule c.args.word) _ c.args.ts.now c.args.ts.now _ c.in_err-first.field-0.0 c.from_residual.ensures.1 (λ o q. q)
    (line_fails _ (Ports []) (others c.args.word) _ c.in_err-first.ensures)

pub returns-in_err-second : goal.returns-in_err-second
returns-in_err-second c =
    rule_fails (both_ports_rule c.args.word) _ c.args.ts.now c.in_ok-first.behind.now _ c.in_err-second.field-0.0 c.from_residual-in_err-second.ensures.1
    (λ o q. line_read {k = others c.args.word} c.in_ok-first.ensures q)
    (part_fails (other_ports_rule c.args.word) (paired c.in_ok-first.first) _ _ c.in_err-second.ensures)

pub returns : goal.returns
returns c =
    line_read {k = others c.args.word} c.in_ok-first.ensures (part_read (other_ports_rule c.args.word) (paired c.in_ok-first.first) c.in_ok-second.ensures finished)

use Rattle.std.proofs.Common.{List, subst, [], ◌∷◌, ◌++◌}
use Rattle.spl_tree.specs.declared.symbol.Symbol.TheVariants as S
use Rattle.spl_tree.specs.declared.unit.PortWindow.{PortWindow}
use Rattle.expr_parser.specs.Rules.{done, call, Took, RunsTo, Reads}
use Rattle.unit_parser.specs.steps.GivesParts.{port_window}
use Rattle.statement_parser.specs.Lines.{Name, R, expect}
use Rattle.statement_parser.specs.Lines as lines
use Rattle.statement_parser.proofs.Readings.{finished, reads, skipped, fails}
use Rattle.statement_parser.proofs.Sequences.{pushed, pushed_fails}
use Rattle.statement_parser.proofs.StatementReadings.{behind, part_read, part_fails}
use Rattle.unit_parser.proofs.CompositeReadings.{name_takes, passing, taken_begins}
use Rattle.unit_parser.proofs.clauses.windows.Goals as goal
use Rattle.expr_parser.proofs.RuleLaws.{runs_last}

-- the rule after the name of one more of them, and after it
abbrev named : Name → R PortWindow
named n = expect S.Colon (call (lines.WindowParts []) (λ ps. done (record { port = n; parts = ps })))

abbrev more : List PortWindow → PortWindow → R (List PortWindow)
more xs x = call (lines.Windows (xs ++ x ∷ [])) done

pub returns-in_default : goal.returns-in_default
unfolding lines.rule
returns-in_default c = c.windows.invariant (Took c.windows.all c.windows.at.now) (reads (skipped c.in_default.ensures finished))

pub returns-in_err-behind : goal.returns-in_err-behind
unfolding lines.rule
returns-in_err-behind c =
    fails (lines.Windows []) c.args.ts.now c.windows.at.now (behind port_window (more c.windows.all)) c.from_residual.result c.in_err-behind.field-0.0 c.from_residual.ensures.1
    (λ o q. c.windows.invariant o (reads (passing (taken_begins c.in-Some.ensures.0) q)))
    (part_fails port_window (more c.windows.all) _ _ (pushed_fails (RunsTo lines.rule port_window c.windows.at.now) _ _ c.port_window.result _ c.port_window.ensures c.in_err-behind.ensures))

pub windows-preserved : goal.windows-preserved
unfolding lines.rule
windows-preserved c =
    let next = pushed (RunsTo lines.rule port_window c.windows.at.now) _ _ c.port_window.result _ c.port_window.ensures c.in_ok-behind.ensures in
    λ o r. c.windows.invariant o (reads (passing (taken_begins c.in-Some.ensures.0) (part_read port_window (more c.windows.all) next.said
    (runs_last (subst (λ xs. Reads lines.rule (lines.Windows xs) c.in_ok-behind.behind.now o) next.is r)))))

pub windows-smaller : goal.windows-smaller
windows-smaller c =
    let next = pushed (RunsTo lines.rule port_window c.windows.at.now) _ _ c.port_window.result _ c.port_window.ensures c.in_ok-behind.ensures in
    name_takes named _ _ _ next.said

use Rattle.std.proofs.Common.{List, subst, [], ◌∷◌, ◌++◌}
use Rattle.spl_tree.specs.declared.symbol.Symbol.TheVariants as S
use Rattle.spl_tree.specs.declared.unit.OutputAssignments.{OutputAssignments}
use Rattle.expr_parser.specs.Rules.{done, call, Took, RunsTo, Reads}
use Rattle.unit_parser.specs.steps.GivesParts.{stream_assignments}
use Rattle.statement_parser.specs.Lines.{Name, R, expect}
use Rattle.statement_parser.specs.Lines as lines
use Rattle.statement_parser.proofs.Readings.{finished, reads, skipped, fails}
use Rattle.statement_parser.proofs.Sequences.{pushed, pushed_fails}
use Rattle.statement_parser.proofs.StatementReadings.{behind, part_read, part_fails}
use Rattle.unit_parser.proofs.CompositeReadings.{name_takes, passing, taken_begins}
use Rattle.unit_parser.proofs.clauses.outputs.Goals as goal
use Rattle.expr_parser.proofs.RuleLaws.{runs_last}

-- the rule after the name of one more of them, and after it
abbrev named : Name → R OutputAssignments
named n = expect S.Colon (call (lines.Assignments []) (λ fs. done (record { stream = n; assignments = fs })))

abbrev more : List OutputAssignments → OutputAssignments → R (List OutputAssignments)
more xs x = call (lines.Outputs (xs ++ x ∷ [])) done

pub returns-in_default : goal.returns-in_default
unfolding lines.rule
returns-in_default c = c.outputs.invariant (Took c.outputs.all c.outputs.at.now) (reads (skipped c.in_default.ensures finished))

pub returns-in_err-behind : goal.returns-in_err-behind
unfolding lines.rule
returns-in_err-behind c =
    fails (lines.Outputs []) c.args.ts.now c.outputs.at.now (behind stream_assignments (more c.outputs.all)) c.from_residual.result c.in_err-behind.field-0.0 c.from_residual.ensures.1
    (λ o q. c.outputs.invariant o (reads (passing (taken_begins c.in-Some.ensures.0) q)))
    (part_fails stream_assignments (more c.outputs.all) _ _ (pushed_fails (RunsTo lines.rule stream_assignments c.outputs.at.now) _ _ c.stream_assignments.result _ c.stream_assignments.ensures c.in_err-behind.ensures))

pub outputs-preserved : goal.outputs-preserved
unfolding lines.rule
outputs-preserved c =
    let next = pushed (RunsTo lines.rule stream_assignments c.outputs.at.now) _ _ c.stream_assignments.result _ c.stream_assignments.ensures c.in_ok-behind.ensures in
    λ o r. c.outputs.invariant o (reads (passing (taken_begins c.in-Some.ensures.0) (part_read stream_assignments (more c.outputs.all) next.said
    (runs_last (subst (λ xs. Reads lines.rule (lines.Outputs xs) c.in_ok-behind.behind.now o) next.is r)))))

pub outputs-smaller : goal.outputs-smaller
outputs-smaller c =
    let next = pushed (RunsTo lines.rule stream_assignments c.outputs.at.now) _ _ c.stream_assignments.result _ c.stream_assignments.ensures c.in_ok-behind.ensures in
    name_takes named _ _ _ next.said

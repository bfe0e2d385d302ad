use Rattle.std.proofs.Common.{List, [], ◌∷◌, ◌++◌, subst, arith}
use Rattle.spl_tree.specs.declared.unit.CompositeParameter.{CompositeParameter}
use Rattle.expr_parser.specs.Rules.{done, call, Took, RunsTo, Reads}
use Rattle.statement_parser.proofs.Readings.{finished, reads, taken, skipped, fails}
use Rattle.statement_parser.proofs.Sequences.{pushed, pushed_fails}
use Rattle.statement_parser.proofs.StatementReadings.{part_read, part_fails}
use Rattle.unit_parser.specs.steps.GivesParts.{composite_parameter}
use Rattle.statement_parser.specs.Lines as lines
use Rattle.statement_parser.specs.Lines.{R}
use Rattle.unit_parser.proofs.composites.composite_parameters.Goals as goal
use Rattle.expr_parser.proofs.Locality.{runs_shrinks, taken_shrinks}
use Rattle.expr_parser.proofs.RuleLaws.{runs_last}

-- the rule after one more parameter
abbrev more : List CompositeParameter → CompositeParameter → R (List CompositeParameter)
more ps p = call (lines.CompositeParameters (ps ++ p ∷ [])) done

pub returns-in_default : goal.returns-in_default
unfolding lines.rule
returns-in_default c = c.parameters.invariant (Took c.parameters.all c.parameters.at.now) (reads (skipped c.in_default.ensures finished))

pub returns-in_err-behind : goal.returns-in_err-behind
unfolding lines.rule
returns-in_err-behind c =
    fails (lines.CompositeParameters []) c.args.ts.now c.in-Some.behind.now _ c.from_residual.result c.in_err-behind.field-0.0 c.from_residual.ensures.1
    (λ o q. c.parameters.invariant o (reads (taken c.in-Some.ensures q)))
    (part_fails composite_parameter (more c.parameters.all) _ _
    (pushed_fails (RunsTo lines.rule composite_parameter c.in-Some.behind.now) _ _ c.composite_parameter.result _ c.composite_parameter.ensures c.in_err-behind.ensures))

pub parameters-smaller : goal.parameters-smaller
parameters-smaller c =
    let next = pushed (RunsTo lines.rule composite_parameter c.in-Some.behind.now) _ _ c.composite_parameter.result _ c.composite_parameter.ensures c.in_ok-behind.ensures in
    let one = taken_shrinks c.in-Some.ensures in
    let two = runs_shrinks next.said in
    omega arith

pub parameters-preserved : goal.parameters-preserved
unfolding lines.rule
parameters-preserved c =
    let next = pushed (RunsTo lines.rule composite_parameter c.in-Some.behind.now) _ _ c.composite_parameter.result _ c.composite_parameter.ensures c.in_ok-behind.ensures in
    λ o r. c.parameters.invariant o (reads (taken c.in-Some.ensures (part_read composite_parameter (more c.parameters.all) next.said
    (runs_last (subst (λ ps. Reads lines.rule (lines.CompositeParameters ps) c.in_ok-behind.behind.now o) next.is r)))))

use Rattle.std.proofs.Common.{[], subst}
use Rattle.expr_parser.specs.Rules.{Took, Reads}
use Rattle.statement_parser.proofs.Readings.{finished, reads, skipped, fails}
use Rattle.statement_parser.proofs.Sequences.{pushed, pushed_fails}
use Rattle.unit_parser.proofs.CompositeReadings.{rule_comes, one_more}
use Rattle.statement_parser.specs.Lines as lines
use Rattle.unit_parser.proofs.CompositeReadings.{more_types, taken_begins, type_shrinks, type_read}
use Rattle.unit_parser.proofs.composites.types.Goals as goal
use Rattle.statement_parser.proofs.StatementReadings.{behind, part_fails}

pub returns-in_default : goal.returns-in_default
unfolding lines.rule
returns-in_default c = c.types.invariant (Took c.types.all c.types.at.now) (reads (skipped c.in_default.ensures finished))

pub returns-in_err-behind : goal.returns-in_err-behind
unfolding lines.rule
returns-in_err-behind c =
    fails (lines.Types []) c.args.ts.now c.types.at.now (behind (lines.rule lines.TypeOf) (one_more c.types.all)) c.from_residual.result c.in_err-behind.field-0.0 c.from_residual.ensures.1
    (λ o q. c.types.invariant o (more_types (taken_begins c.in-Some.ensures.0) q))
    (part_fails (lines.rule lines.TypeOf) (one_more c.types.all) _ _ (rule_comes lines.TypeOf _ _
    (pushed_fails (Reads lines.rule lines.TypeOf c.types.at.now) _ _ c.type_definition.result _ c.type_definition.ensures c.in_err-behind.ensures)))

pub types-smaller : goal.types-smaller
types-smaller c =
    let next = pushed (Reads lines.rule lines.TypeOf c.types.at.now) _ _ c.type_definition.result _ c.type_definition.ensures c.in_ok-behind.ensures in
    type_shrinks next.said

pub types-preserved : goal.types-preserved
types-preserved c =
    let next = pushed (Reads lines.rule lines.TypeOf c.types.at.now) _ _ c.type_definition.result _ c.type_definition.ensures c.in_ok-behind.ensures in
    λ o r. c.types.invariant o (type_read (taken_begins c.in-Some.ensures.0) next.said (subst (λ ds. Reads lines.rule (lines.Types ds) c.in_ok-behind.behind.now o) next.is r))

use Rattle.std.proofs.Common.{List, subst, arith, [], ◌∷◌, ◌++◌}
use Rattle.spl_tree.specs.declared.symbol.Symbol.TheVariants as S
use Rattle.spl_tree.specs.declared.unit.WindowPart.{WindowPart}
use Rattle.expr_parser.specs.Lines as expressions
use Rattle.expr_parser.specs.Rules.{done, look, call, RunsTo, Reads}
use Rattle.unit_parser.specs.steps.GivesParts.{window_part}
use Rattle.statement_parser.specs.Lines.{R, expect}
use Rattle.statement_parser.specs.Lines as lines
use Rattle.statement_parser.proofs.Readings.{reads, taken, skipped, fails}
use Rattle.statement_parser.proofs.Sequences.{pushed, pushed_fails}
use Rattle.statement_parser.proofs.StatementReadings.{part_read, part_fails}
use Rattle.statement_parser.proofs.TypeReadings.{goes}
use Rattle.unit_parser.proofs.clauses.window_parts.Goals as goal
use Rattle.expr_parser.proofs.Locality.{runs_shrinks, taken_shrinks}
use Rattle.expr_parser.proofs.RuleLaws.{runs_last}

-- the rule after one more of them
abbrev more : List WindowPart → WindowPart → R (List WindowPart)
more xs x = let all = xs ++ x ∷ [] in look (expressions.is S.Comma) (λ _. call (lines.WindowParts all) done) (expect S.Semicolon (done all))

pub returns-in_err-behind : goal.returns-in_err-behind
unfolding lines.rule
returns-in_err-behind c =
    fails (lines.WindowParts []) c.args.ts.now c.parts.at.now _ c.from_residual.result c.in_err-behind.field-0.0 c.from_residual.ensures.1
    (λ o q. c.parts.invariant o (reads q))
    (part_fails window_part (more c.parts.all) _ _ (pushed_fails (RunsTo lines.rule window_part c.parts.at.now) _ _ c.window_part.result _ c.window_part.ensures c.in_err-behind.ensures))

pub returns-in_default : goal.returns-in_default
unfolding lines.rule
returns-in_default c =
    let next = pushed (RunsTo lines.rule window_part c.parts.at.now) _ _ c.window_part.result _ c.window_part.ensures c.in_ok-behind.ensures in
    goes (lines.WindowParts []) c.args.ts.now c.in_ok-behind.behind.now (expect S.Semicolon (done c.push_taken.new.all)) c.closed.result
    (λ o q. c.parts.invariant o (reads (part_read window_part (more c.parts.all) next.said (skipped c.in_default.ensures
    (subst (λ xs. RunsTo lines.rule (expect S.Semicolon (done xs)) c.in_ok-behind.behind.now o) next.is q))))) c.closed.ensures

pub parts-preserved : goal.parts-preserved
unfolding lines.rule
parts-preserved c =
    let next = pushed (RunsTo lines.rule window_part c.parts.at.now) _ _ c.window_part.result _ c.window_part.ensures c.in_ok-behind.ensures in
    λ o r. c.parts.invariant o (reads (part_read window_part (more c.parts.all) next.said (taken c.in-Some.ensures
    (runs_last (subst (λ xs. Reads lines.rule (lines.WindowParts xs) c.in-Some.behind.now o) next.is r)))))

pub parts-smaller : goal.parts-smaller
parts-smaller c =
    let next = pushed (RunsTo lines.rule window_part c.parts.at.now) _ _ c.window_part.result _ c.window_part.ensures c.in_ok-behind.ensures in
    let one = runs_shrinks next.said in
    let two = taken_shrinks c.in-Some.ensures in
    omega arith

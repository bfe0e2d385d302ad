use Rattle.std.proofs.Common.{List, subst, arith, [], ◌∷◌, ◌++◌}
use Rattle.spl_tree.specs.declared.symbol.Symbol.TheVariants as S
use Rattle.spl_tree.specs.declared.unit.OutputStream.{OutputStream}
use Rattle.expr_parser.specs.Lines as expressions
use Rattle.expr_parser.specs.Rules.{done, look, call, RunsTo, Reads}
use Rattle.unit_parser.specs.steps.GivesParts.{listed_stream}
use Rattle.statement_parser.specs.Lines.{R, expect}
use Rattle.statement_parser.specs.Lines as lines
use Rattle.statement_parser.proofs.Readings.{reads, taken, skipped, fails}
use Rattle.statement_parser.proofs.Sequences.{pushed, pushed_fails}
use Rattle.statement_parser.proofs.StatementReadings.{part_read, part_fails}
use Rattle.statement_parser.proofs.TypeReadings.{goes}
use Rattle.unit_parser.proofs.invocations.streams.Goals as goal
use Rattle.expr_parser.proofs.Locality.{runs_shrinks, taken_shrinks}
use Rattle.expr_parser.proofs.RuleLaws.{runs_last}

-- the rule after one more of them
abbrev more : List OutputStream → OutputStream → R (List OutputStream)
more xs x = let all = xs ++ x ∷ [] in look (expressions.is S.Semicolon) (λ _. call (lines.Streams all) done) (expect S.RightParen (done all))

pub returns-in_err-behind : goal.returns-in_err-behind
unfolding lines.rule
returns-in_err-behind c =
    fails (lines.Streams []) c.args.ts.now c.streams.at.now _ c.from_residual.result c.in_err-behind.field-0.0 c.from_residual.ensures.1
    (λ o q. c.streams.invariant o (reads q))
    (part_fails listed_stream (more c.streams.all) _ _ (pushed_fails (RunsTo lines.rule listed_stream c.streams.at.now) _ _ c.listed_stream.result _ c.listed_stream.ensures c.in_err-behind.ensures))

pub returns-in_default : goal.returns-in_default
unfolding lines.rule
returns-in_default c =
    let next = pushed (RunsTo lines.rule listed_stream c.streams.at.now) _ _ c.listed_stream.result _ c.listed_stream.ensures c.in_ok-behind.ensures in
    goes (lines.Streams []) c.args.ts.now c.in_ok-behind.behind.now (expect S.RightParen (done c.push_taken.new.all)) c.closed.result
    (λ o q. c.streams.invariant o (reads (part_read listed_stream (more c.streams.all) next.said (skipped c.in_default.ensures
    (subst (λ xs. RunsTo lines.rule (expect S.RightParen (done xs)) c.in_ok-behind.behind.now o) next.is q))))) c.closed.ensures

pub streams-preserved : goal.streams-preserved
unfolding lines.rule
streams-preserved c =
    let next = pushed (RunsTo lines.rule listed_stream c.streams.at.now) _ _ c.listed_stream.result _ c.listed_stream.ensures c.in_ok-behind.ensures in
    λ o r. c.streams.invariant o (reads (part_read listed_stream (more c.streams.all) next.said (taken c.in-Some.ensures
    (runs_last (subst (λ xs. Reads lines.rule (lines.Streams xs) c.in-Some.behind.now o) next.is r)))))

pub streams-smaller : goal.streams-smaller
streams-smaller c =
    let next = pushed (RunsTo lines.rule listed_stream c.streams.at.now) _ _ c.listed_stream.result _ c.listed_stream.ensures c.in_ok-behind.ensures in
    let one = runs_shrinks next.said in
    let two = taken_shrinks c.in-Some.ensures in
    omega arith

use Rattle.std.proofs.Common.{List, subst, arith, [], ◌∷◌, ◌++◌}
use Rattle.spl_tree.specs.declared.symbol.Symbol.TheVariants as S
use Rattle.expr_parser.specs.Lines as expressions
use Rattle.expr_parser.specs.Rules.{done, look, call, Took, RunsTo, Reads}
use Rattle.statement_parser.specs.Lines.{Name, R, expect_name}
use Rattle.statement_parser.specs.Lines as lines
use Rattle.statement_parser.proofs.Readings.{reads, taken, skipped, fails, name_comes}
use Rattle.statement_parser.proofs.Sequences.{pushed, pushed_fails}
use Rattle.statement_parser.proofs.StatementReadings.{part_read, part_fails}
use Rattle.unit_parser.proofs.Rows.{made}
use Rattle.unit_parser.proofs.invocations.input_streams.Goals as goal
use Rattle.expr_parser.proofs.Locality.{runs_shrinks, taken_shrinks}
use Rattle.expr_parser.proofs.RuleLaws.{runs_last}

-- a name, and what follows the name of one more stream
abbrev a_name : R Name
a_name = expect_name done

abbrev stream_behind : List Name → Name → R (List Name)
stream_behind ns n = look (expressions.is S.Comma) (λ _. call (lines.InputStreams (ns ++ n ∷ [])) done) (done (ns ++ n ∷ []))

pub returns-in_err-behind : goal.returns-in_err-behind
unfolding lines.rule
returns-in_err-behind c =
    fails (lines.InputStreams []) c.args.ts.now c.streams.at.now _ c.from_residual.result c.in_err-behind.field-0.0 c.from_residual.ensures.1
    (λ o q. c.streams.invariant o (reads q))
    (part_fails a_name (stream_behind c.streams.all) _ _
    (pushed_fails (RunsTo lines.rule a_name c.streams.at.now) _ _ c.pass_name.result _ (name_comes c.streams.at.now c.pass_name.result c.pass_name.ensures) c.in_err-behind.ensures))

pub returns-in_default : goal.returns-in_default
unfolding lines.rule
returns-in_default c =
    let next = pushed (RunsTo lines.rule a_name c.streams.at.now) _ _ c.pass_name.result _ (name_comes c.streams.at.now c.pass_name.result c.pass_name.ensures) c.in_ok-behind.ensures in
    c.streams.invariant (Took c.push_taken.new.all c.in_ok-behind.behind.now)
    (reads (part_read a_name (stream_behind c.streams.all) next.said (skipped c.in_default.ensures (made next.is))))

pub streams-preserved : goal.streams-preserved
unfolding lines.rule
streams-preserved c =
    let next = pushed (RunsTo lines.rule a_name c.streams.at.now) _ _ c.pass_name.result _ (name_comes c.streams.at.now c.pass_name.result c.pass_name.ensures) c.in_ok-behind.ensures in
    λ o r. c.streams.invariant o
    (reads (part_read a_name (stream_behind c.streams.all) next.said (taken c.in-Some.ensures
    (runs_last (subst (λ ns. Reads lines.rule (lines.InputStreams ns) c.in-Some.after_comma.now o) next.is r)))))

pub streams-smaller : goal.streams-smaller
streams-smaller c =
    let next = pushed (RunsTo lines.rule a_name c.streams.at.now) _ _ c.pass_name.result _ (name_comes c.streams.at.now c.pass_name.result c.pass_name.ensures) c.in_ok-behind.ensures in
    let one = runs_shrinks next.said in
    let two = taken_shrinks c.in-Some.ensures in
    omega arith

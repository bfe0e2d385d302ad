use Rattle.std.proofs.Common.{List, [], ◌∷◌, ◌++◌, subst, arith}
use Rattle.spl_tree.specs.declared.symbol.Symbol.TheVariants as S
use Rattle.spl_tree.specs.declared.unit.HeadPort.{HeadPort}
use Rattle.expr_parser.specs.Lines as expressions
use Rattle.expr_parser.specs.Rules.{done, look, call, Took, Reads}
use Rattle.statement_parser.proofs.Readings.{reads, taken, skipped, line_read, fails, line_fails}
use Rattle.statement_parser.proofs.Sequences.{pushed, pushed_fails}
use Rattle.statement_parser.specs.Lines as lines
use Rattle.statement_parser.specs.Lines.{R}
use Rattle.unit_parser.proofs.Rows.{made}
use Rattle.unit_parser.proofs.composites.ports.Goals as goal
use Rattle.expr_parser.proofs.Locality.{reads_shrinks, taken_shrinks}
use Rattle.expr_parser.proofs.RuleLaws.{runs_last}

-- the rule after one more port
abbrev more : List HeadPort → HeadPort → R (List HeadPort)
more ps p = look (expressions.is S.Comma) (λ _. call (lines.Ports (ps ++ p ∷ [])) done) (done (ps ++ p ∷ []))

pub returns-in_err-behind : goal.returns-in_err-behind
unfolding lines.rule
returns-in_err-behind c =
    fails (lines.Ports []) c.args.ts.now c.ports.at.now _ c.from_residual.result c.in_err-behind.field-0.0 c.from_residual.ensures.1
    (λ o q. c.ports.invariant o (reads q))
    (line_fails _ lines.Port (more c.ports.all) _ (pushed_fails (Reads lines.rule lines.Port c.ports.at.now) _ _ c.port.result _ c.port.ensures c.in_err-behind.ensures))

pub returns-in_default : goal.returns-in_default
unfolding lines.rule
returns-in_default c =
    let next = pushed (Reads lines.rule lines.Port c.ports.at.now) _ _ c.port.result _ c.port.ensures c.in_ok-behind.ensures in
    c.ports.invariant (Took c.push_taken.new.all c.in_ok-behind.behind.now) (reads (line_read {k = more c.ports.all} next.said (skipped c.in_default.ensures (made next.is))))

pub ports-smaller : goal.ports-smaller
ports-smaller c =
    let next = pushed (Reads lines.rule lines.Port c.ports.at.now) _ _ c.port.result _ c.port.ensures c.in_ok-behind.ensures in
    let one = reads_shrinks next.said in
    let two = taken_shrinks c.in-Some.ensures in
    omega arith

pub ports-preserved : goal.ports-preserved
unfolding lines.rule
ports-preserved c =
    let next = pushed (Reads lines.rule lines.Port c.ports.at.now) _ _ c.port.result _ c.port.ensures c.in_ok-behind.ensures in
    λ o r. c.ports.invariant o (reads (line_read {k = more c.ports.all} next.said (taken c.in-Some.ensures
    (runs_last (subst (λ ps. Reads lines.rule (lines.Ports ps) c.in-Some.after_comma.now o) next.is r)))))

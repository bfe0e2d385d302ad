use Rattle.std.proofs.Common.{List, subst, arith, [], ◌∷◌, ◌++◌}
use Rattle.spl_tree.specs.declared.expression.Placed.{Placed}
use Rattle.spl_tree.specs.declared.unit.Handler.{Handler}
use Rattle.expr_parser.specs.Rules.{done, call, Reads}
use Rattle.statement_parser.specs.Lines as lines
use Rattle.statement_parser.specs.Lines.{R}
use Rattle.statement_parser.proofs.Readings.{line_read, fails, line_fails}
use Rattle.statement_parser.proofs.Sequences.{pushed, pushed_fails}
use Rattle.unit_parser.proofs.clauses.handlers.Goals as goal
use Rattle.expr_parser.proofs.Locality.{reads_shrinks}
use Rattle.expr_parser.proofs.RuleLaws.{runs_last}

-- the rule after one more handler
abbrev more : List (Placed Handler) → Placed Handler → R (List (Placed Handler))
more hs h = call (lines.Handlers (hs ++ h ∷ [])) done

pub returns-in_err-behind : goal.returns-in_err-behind
unfolding lines.rule
returns-in_err-behind c =
    let one = lines.HandlerOf c.in-Some.place c.in-Some.event in
    fails (lines.Handlers []) c.args.ts.now c.in-Some.behind.now _ c.from_residual.result c.in_err-behind.field-0.0 c.from_residual.ensures.1
    (λ o q. c.handlers.invariant o (c.in-Some.ensures.1 c.handlers.all o q))
    (line_fails _ one (more c.handlers.all) _ (pushed_fails (Reads lines.rule one c.in-Some.behind.now) _ _ c.handler.result _ c.handler.ensures c.in_err-behind.ensures))

pub handlers-smaller : goal.handlers-smaller
handlers-smaller c =
    let next = pushed (Reads lines.rule (lines.HandlerOf c.in-Some.place c.in-Some.event) c.in-Some.behind.now) _ _ c.handler.result _ c.handler.ensures c.in_ok-behind.ensures in
    let one = c.in-Some.ensures.0 in
    let two = reads_shrinks next.said in
    omega arith

pub handlers-preserved : goal.handlers-preserved
handlers-preserved c =
    let next = pushed (Reads lines.rule (lines.HandlerOf c.in-Some.place c.in-Some.event) c.in-Some.behind.now) _ _ c.handler.result _ c.handler.ensures c.in_ok-behind.ensures in
    λ o r. c.handlers.invariant o (c.in-Some.ensures.1 c.handlers.all o (line_read next.said
    (runs_last (subst (λ hs. Reads lines.rule (lines.Handlers hs) c.in_ok-behind.behind.now o) next.is r))))

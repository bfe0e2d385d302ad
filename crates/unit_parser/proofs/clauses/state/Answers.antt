use Rattle.std.proofs.Common.{ap, [], ◌∷◌, ◌++◌, ◌∙◌}
use Rattle.spl_tree.specs.declared.symbol.Symbol.TheVariants as S
use Rattle.expr_parser.specs.Rules.{done, Reads}
use Rattle.statement_parser.specs.Lines as lines
use Rattle.statement_parser.proofs.Sequences.{pushed, pushed_fails}
use Rattle.statement_parser.proofs.Readings.{reads, taken, skipped, passed, line_read, fails, pass_fails, line_fails}
use Rattle.unit_parser.proofs.Rows.{made}
use Rattle.unit_parser.proofs.clauses.state.Goals as goal
use Rattle.statement_parser.proofs.TypeReadings.{goes, tail}

pub returns-in_default : goal.returns-in_default
unfolding lines.rule
returns-in_default c = reads (skipped c.in_default.ensures (made c.new.ensures))

pub returns-in_err-behind : goal.returns-in_err-behind
unfolding lines.rule
returns-in_err-behind c =
    fails lines.State c.args.ts.now c.in-Some.behind.now _ c.from_residual.result c.in_err-behind.field-0.0 c.from_residual.ensures.1
    (λ o q. reads (taken c.in-Some.ensures q))
    (pass_fails _ S.Colon _ _ c.in_err-behind.ensures)

pub returns-in-Some-symbol_first : goal.returns-in-Some-symbol_first
unfolding lines.rule
returns-in-Some-symbol_first c =
    goes lines.State c.args.ts.now c.in-Some-symbol_first.behind.now _ c.declarations.result (λ o q. reads (taken c.in-Some.ensures (passed S.Colon c.in_ok-behind.ensures
    (taken c.in-Some-symbol_first.ensures q))))
    (tail (lines.Declarations []) _ c.declarations.result c.declarations.ensures)

pub returns-in_err-behind-2 : goal.returns-in_err-behind-2
unfolding lines.rule
returns-in_err-behind-2 c =
    fails lines.State c.args.ts.now c.in_ok-behind.behind.now _ c.from_residual-in_err-behind-2.result c.in_err-behind-2.field-0.0 c.from_residual-in_err-behind-2.ensures.1
    (λ o q. reads (taken c.in-Some.ensures (passed S.Colon c.in_ok-behind.ensures (skipped c.in_default-symbol_first.ensures q))))
    (line_fails _ lines.Declare (λ d. done (d ∷ [])) _
    (pushed_fails (Reads lines.rule lines.Declare c.in_ok-behind.behind.now) _ _ c.declaration.result _ c.declaration.ensures c.in_err-behind-2.ensures))

pub returns : goal.returns
unfolding lines.rule
returns c =
    let next = pushed (Reads lines.rule lines.Declare c.in_ok-behind.behind.now) _ _ c.declaration.result _ c.declaration.ensures c.in_ok-behind-2.ensures in
    let one = next.is ∙ ap (λ ds. ds ++ next.one ∷ []) c.new-all.ensures in
    reads (taken c.in-Some.ensures (passed S.Colon c.in_ok-behind.ensures (skipped c.in_default-symbol_first.ensures (line_read next.said (made one)))))

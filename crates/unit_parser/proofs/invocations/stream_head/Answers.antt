use Rattle.std.proofs.Common.{ap, [], ◌∷◌, ◌++◌, ◌∙◌}
use Rattle.expr_parser.specs.Rules.{done, call, Reads}
use Rattle.statement_parser.specs.Lines as lines
use Rattle.statement_parser.proofs.Readings.{reads, line_read, fails, line_fails}
use Rattle.statement_parser.proofs.Sequences.{pushed, pushed_fails}
use Rattle.unit_parser.proofs.Rows.{made}
use Rattle.unit_parser.proofs.invocations.stream_head.Goals as goal

pub returns-in_err-behind : goal.returns-in_err-behind
unfolding lines.rule
returns-in_err-behind c =
    fails lines.StreamHead c.args.ts.now c.args.ts.now _ c.from_residual.result c.in_err-behind.field-0.0 c.from_residual.ensures.1 (λ o q. reads q)
    (line_fails _ lines.Stream (λ x. call lines.Alias (λ l. done (x ∷ [], l))) _
    (pushed_fails (Reads lines.rule lines.Stream c.args.ts.now) _ _ c.stream.result _ c.stream.ensures c.in_err-behind.ensures))

pub returns-in_err-alias : goal.returns-in_err-alias
unfolding lines.rule
returns-in_err-alias c =
    let next = pushed (Reads lines.rule lines.Stream c.args.ts.now) _ _ c.stream.result _ c.stream.ensures c.in_ok-behind.ensures in
    fails lines.StreamHead c.args.ts.now c.in_ok-behind.behind.now _ c.from_residual-in_err-alias.result c.in_err-alias.field-0.0 c.from_residual-in_err-alias.ensures.1
    (λ o q. reads (line_read next.said q))
    (line_fails _ lines.Alias _ _ c.in_err-alias.ensures)

pub returns : goal.returns
unfolding lines.rule
returns c =
    let next = pushed (Reads lines.rule lines.Stream c.args.ts.now) _ _ c.stream.result _ c.stream.ensures c.in_ok-behind.ensures in
    let one = next.is ∙ ap (λ xs. xs ++ next.one ∷ []) c.new-outputs.ensures in
    reads (line_read next.said (line_read c.in_ok-alias.ensures (made (ap (λ xs. (xs, c.in_ok-alias.alias)) one))))

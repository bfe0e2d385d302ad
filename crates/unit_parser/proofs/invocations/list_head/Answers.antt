use Rattle.std.proofs.Common.{List, Some, ap, []}
use Rattle.spl_tree.specs.declared.keyword.Keyword.TheVariants as K
use Rattle.spl_tree.specs.declared.unit.OutputStream.{OutputStream}
use Rattle.std.specs.Prelude.{Option}
use Rattle.expr_parser.specs.Rules.{done}
use Rattle.statement_parser.specs.Lines.{Name, R}
use Rattle.statement_parser.specs.Lines as lines
use Rattle.statement_parser.proofs.Readings.{finished, reads, taken, skipped, word_passed, name_passed, line_read, fails, word_fails, name_fails, line_fails}
use Rattle.unit_parser.proofs.Rows.{made}
use Rattle.unit_parser.proofs.invocations.list_head.Goals as goal

-- after the word `as` of a head without streams
abbrev alias_behind : Name → R (List OutputStream × Option Name)
alias_behind n = done ([], Some n)

pub returns-in_err-behind : goal.returns-in_err-behind
unfolding lines.rule
returns-in_err-behind c =
    fails lines.ListHead c.args.ts.now c.in-Some.behind.now _ c.from_residual.result c.in_err-behind.field-0.0 c.from_residual.ensures.1
    (λ o q. reads (taken c.in-Some.ensures q))
    (word_fails _ K.As _ _ c.in_err-behind.ensures)

pub returns-in_err-name : goal.returns-in_err-name
unfolding lines.rule
returns-in_err-name c =
    fails lines.ListHead c.args.ts.now c.in_ok-behind.behind.now _ c.from_residual-in_err-name.result c.in_err-name.field-0.0 c.from_residual-in_err-name.ensures.1
    (λ o q. reads (taken c.in-Some.ensures (word_passed K.As c.in_ok-behind.ensures q)))
    (name_fails _ alias_behind _ c.in_err-name.ensures)

pub returns-in-Some : goal.returns-in-Some
unfolding lines.rule
returns-in-Some c =
    reads (taken c.in-Some.ensures (word_passed K.As c.in_ok-behind.ensures (name_passed alias_behind c.in_ok-name.ensures
    (made (ap (λ xs. (xs, Some c.in_ok-name.name)) c.new.ensures)))))

pub returns-in_err-outputs : goal.returns-in_err-outputs
unfolding lines.rule
returns-in_err-outputs c =
    fails lines.ListHead c.args.ts.now c.args.ts.now _ c.from_residual-in_err-outputs.result c.in_err-outputs.field-0.0 c.from_residual-in_err-outputs.ensures.1
    (λ o q. reads (skipped c.in_default.ensures q))
    (line_fails _ (lines.Streams []) _ _ c.in_err-outputs.ensures)

pub returns-in_err-alias : goal.returns-in_err-alias
unfolding lines.rule
returns-in_err-alias c =
    fails lines.ListHead c.args.ts.now c.in_ok-outputs.behind.now _ c.from_residual-in_err-alias.result c.in_err-alias.field-0.0 c.from_residual-in_err-alias.ensures.1
    (λ o q. reads (skipped c.in_default.ensures (line_read c.in_ok-outputs.ensures q)))
    (line_fails _ lines.Alias _ _ c.in_err-alias.ensures)

pub returns : goal.returns
unfolding lines.rule
returns c = reads (skipped c.in_default.ensures (line_read c.in_ok-outputs.ensures (line_read c.in_ok-alias.ensures finished)))

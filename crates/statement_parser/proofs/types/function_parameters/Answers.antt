use Rattle.std.proofs.Common.{[], sym, subst}
use Rattle.spl_tree.specs.declared.symbol.Symbol.TheVariants as S
use Rattle.expr_parser.specs.Rules.{done, call, Took, Reads}
use Rattle.statement_parser.proofs.Readings.{finished, reads, taken, skipped}
use Rattle.statement_parser.proofs.TypeReadings.{goes, tail}
use Rattle.statement_parser.specs.Lines.{Attributes, FunctionParameters, rule}
use Rattle.statement_parser.proofs.types.function_parameters.Goals as goal

pub returns-in-Some : goal.returns-in-Some
unfolding rule
returns-in-Some c =
    subst (λ xs. Reads rule FunctionParameters c.args.ts.now (Took xs c.in-Some.behind.now)) (sym c.new.ensures) (reads (taken c.in-Some.ensures finished))

pub returns-in-None : goal.returns-in-None
unfolding rule
returns-in-None c =
    goes FunctionParameters c.args.ts.now c.args.ts.now (call (Attributes S.RightParen []) done) c.attributes.result (λ o q. reads (skipped c.in-None.ensures q))
    (tail (Attributes S.RightParen []) c.args.ts.now c.attributes.result c.attributes.ensures)

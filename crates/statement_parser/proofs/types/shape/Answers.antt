use Rattle.std.proofs.Common.{[], ◌∷◌, ◌≡◌, false, true≢false, Option, Some, None}
use Rattle.std.specs.Prelude.{MatchOption, is_some}
use Rattle.spl_tree.specs.declared.symbol.Symbol.{Symbol}
use Rattle.spl_tree.specs.declared.shape.ShapeKind.TheVariants as H
use Rattle.spl_tree.specs.Trees.{placed, TypeExpr, Shape}
use Rattle.expr_parser.specs.Lines.{is_name}
use Rattle.expr_parser.specs.Taken.{begins_with}
use Rattle.expr_parser.specs.Rules.{done, call}
use Rattle.statement_parser.proofs.Readings.{reads, taken_as, skipped, line_read, fails, line_fails}
use Rattle.statement_parser.proofs.TypeReadings.{goes, attribute}
use Rattle.statement_parser.specs.Lines.{Name, R, TypeExpression, MoreAttributes, Shaped, expect, name_at, rule}
use Rattle.statement_parser.proofs.types.shape.Goals as goal

-- what follows the name of a first attribute
abbrev behind_name : Symbol → TypeExpr → Name → R Shape
behind_name close k n = call (MoreAttributes close (attribute k n ∷ [])) (λ xs. done (placed k.at (H.Attributes xs)))

-- no name comes first
none_first : {X : Type 0} (P : Type 0) (Q : X → Type 0) (found : Option X) → MatchOption found P Q → is_some found ≡ false → P
none_first P Q None m e = m
none_first P Q (Some x) m e = absurd (true≢false e)

pub returns-in_err-kind : goal.returns-in_err-kind
unfolding rule
returns-in_err-kind c =
    fails (Shaped c.args.close) c.args.ts.now c.args.ts.now _ c.from_residual.result c.in_err-kind.field-0.0 c.from_residual.ensures.1 (λ o q. reads q)
    (line_fails _ TypeExpression _ _ c.in_err-kind.ensures)

pub returns-then-is_none : goal.returns-then-is_none
unfolding rule
returns-then-is_none c =
    goes (Shaped c.args.close) c.args.ts.now c.in_ok-kind.behind.now (expect c.args.close (done (placed c.in_ok-kind.kind.at (H.Type c.in_ok-kind.kind)))) c.closed.result
    (λ o q. reads (line_read c.in_ok-kind.ensures (skipped (none_first (begins_with is_name c.in_ok-kind.behind.now ≡ false) _ c.name_first.result c.name_first.ensures c.if-is_none.ensures) q)))
    c.closed.ensures

pub returns : goal.returns
unfolding rule
returns c =
    goes (Shaped c.args.close) c.args.ts.now c.in_ok-name.behind.now (behind_name c.args.close c.in_ok-kind.kind c.in_ok-name.name) c.named_shape.result
    (λ o q. reads (line_read c.in_ok-kind.ensures (taken_as is_name name_at (behind_name c.args.close c.in_ok-kind.kind) c.in_ok-name.ensures q))) c.named_shape.ensures

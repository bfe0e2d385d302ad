-- Parts of rules that calls read by themselves.
use Rattle.std.specs.Prelude.{ℕ, [], ◌∷◌}
use Rattle.spl_tree.specs.declared.shape.Attribute.{Attribute}
use Rattle.spl_tree.specs.declared.shape.ShapeKind.TheVariants as H
use Rattle.spl_tree.specs.declared.symbol.Symbol.{Symbol}
use Rattle.spl_tree.specs.Trees.{Expr, placed, TypeExpr, Shape}
use Rattle.expr_parser.specs.Rules.{done, call}
use Rattle.statement_parser.specs.Lines.{R, TypeExpression, MoreAttributes, expect, expect_name, expression_before}

-- an expression between two symbols
abbrev pub expression_between : Symbol → Symbol → R Expr
expression_between opening close = expect opening (expression_before close)

-- a type with a name, also after the type
abbrev pub named_attribute_rule : TypeExpr → R (Attribute TypeExpr)
named_attribute_rule k = expect_name (λ n. done (record { kind = k; name = n }))

abbrev pub attribute_rule : R (Attribute TypeExpr)
attribute_rule = call TypeExpression named_attribute_rule

-- a shape at a place, after its first attribute
abbrev pub named_shape_rule : ℕ → Symbol → Attribute TypeExpr → R Shape
named_shape_rule at close x = call (MoreAttributes close (x ∷ [])) (λ xs. done (placed at (H.Attributes xs)))

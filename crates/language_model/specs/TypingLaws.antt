-- Expressions inside others, as parts with their places.
use Rattle.std.specs.Prelude.{ℕ, List, map}
use Rattle.spl_tree.specs.Trees.{Expr}
use Rattle.spl_tree.specs.declared.expression.Placed.{Placed}
use Rattle.spl_tree.specs.declared.expression.Field.{Field}
use Rattle.spl_tree.specs.declared.expression.ExprKind.{ExprKind}
use Rattle.spl_tree.specs.declared.expression.ExprKind.TheFolds.{para-ExprKind}
use Rattle.spl_tree.specs.declared.expression.Step.{Step}
use Rattle.spl_tree.specs.declared.expression.Step.TheVariants as N
use Rattle.language_model.specs.declared.scope.Scope.{Scope}
use Rattle.language_model.specs.declared.scope.Typed.{Typed}
pub use Rattle.language_model.specs.Typing.{parted}
use Rattle.language_model.specs.Typing.{Found, Part, Wanted, level_typed}

-- ---- parts

-- the type and code of an expression at a place in a scope, under what is wanted there
abbrev pub TypingAt : Type 0
TypingAt = ℕ → Scope → Wanted → Found Typed

-- an expression, as a part of another one
abbrev pub part : ExprKind → Part
part e = (e, para-ExprKind TypingAt level_typed e)

abbrev pub parts : List Expr → List (Placed Part)
parts es = map parted es

abbrev pub entry_part : Expr × Expr → Placed Part × Placed Part
entry_part e = (parted e.0, parted e.1)

abbrev pub entry_parts : List (Expr × Expr) → List (Placed Part × Placed Part)
entry_parts es = map entry_part es

abbrev pub field_part : Field Expr → Field (Placed Part)
field_part f = record { name = f.name; value = parted f.value }

abbrev pub field_parts : List (Field Expr) → List (Field (Placed Part))
field_parts fs = map field_part fs

abbrev pub step_part : Step Expr → Step (Placed Part)
step_part (N.Member m) = N.Member m
step_part (N.Index e) = N.Index (parted e)

abbrev pub step_parts : List (Step Expr) → List (Step (Placed Part))
step_parts ss = map step_part ss

-- The literals of clauses. A `$` parameter means the literal that it is given, or that is its default.
use Rattle.std.specs.Prelude.{ℕ, ◌&&◌, not, List, if◌then◌else◌, codes, Option, Some, None, Ok}
use Rattle.std.specs.Option.{option_and_then, option_map_or}
use Rattle.std.specs.Str.{bytes_eq, is_utf8}
use Rattle.spl_value.specs.declared.types.SplType.TheVariants as S
use Rattle.spl_tree.specs.declared.expression.ExprKind.{ExprKind}
use Rattle.spl_tree.specs.declared.expression.ExprKind.TheOpen as X
use Rattle.spl_tree.specs.declared.expression.ExprKind.TheOpen.{ExprKind-F}
use Rattle.spl_tree.specs.declared.expression.ExprKind.TheViews.{out-ExprKind}
use Rattle.spl_tree.specs.declared.token.Number.{Number}
use Rattle.spl_tree.specs.Trees.{Expr}
use Rattle.language_model.specs.declared.scope.Scope.{Scope}
use Rattle.language_model.specs.Composites.{is_empty}
use Rattle.language_model.specs.Typing.{Found, after, mismatch, typing}

-- ---- numbers

abbrev pub level_number : ExprKind-F ExprKind → Option Number
level_number (X.Number n) = Some n
level_number _ = None

-- a number literal, or a `$` parameter that fits its type and means one
abbrev pub level_literal : Scope → (Expr → Option Expr) → Expr → ExprKind-F ExprKind → Found (Option Number)
level_literal scope follow e (X.Number n) = after (typing scope e None) (λ t. Ok (Some n))
level_literal scope follow e (X.Dollar name) =
    after (typing scope e None) (λ t. Ok (option_and_then (λ x. level_number (out-ExprKind x.what)) (follow e)))
level_literal scope follow e _ = Ok None

abbrev pub number_literal : Scope → (Expr → Option Expr) → Expr → Found (Option Number)
number_literal scope follow e = level_literal scope follow e (out-ExprKind e.what)

-- ---- files

-- a file's name is UTF-8, not empty, and not `-`
abbrev pub file_or_mismatch : ℕ → List ℕ → Found (List ℕ)
file_or_mismatch at bytes =
    if is_utf8 bytes && not (is_empty bytes) && not (bytes_eq bytes (codes "-")) then Ok bytes else mismatch at

abbrev pub level_text : ℕ → ExprKind-F ExprKind → Found (List ℕ)
level_text at (X.Text bytes) = file_or_mismatch at bytes
level_text at _ = mismatch at

-- a text literal, or a `$` parameter that is a text and means one
abbrev pub level_file : Scope → (Expr → Option Expr) → Expr → ExprKind-F ExprKind → Found (List ℕ)
level_file scope follow e (X.Dollar name) =
    after (typing scope e (Some S.Text)) (λ t. option_map_or
    (λ x. level_text e.at (out-ExprKind x.what)) (follow e) (mismatch e.at))
level_file scope follow e kind = level_text e.at kind

abbrev pub file_typing : Scope → (Expr → Option Expr) → Expr → Found (List ℕ)
file_typing scope follow e = level_file scope follow e (out-ExprKind e.what)

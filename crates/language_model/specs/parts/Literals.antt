-- Words for parts of the rules of literals, for what works them out step by step.
use Rattle.std.specs.Prelude.{ℕ, Bool, ◌&&◌, not, List, codes, Option}
use Rattle.std.specs.Option.{option_map_or}
use Rattle.std.specs.Str.{bytes_eq, is_utf8}
use Rattle.spl_tree.specs.declared.expression.ExprKind.TheViews.{out-ExprKind}
use Rattle.spl_tree.specs.declared.token.Number.{Number}
use Rattle.spl_tree.specs.Trees.{Expr}
use Rattle.language_model.specs.Composites.{is_empty}
use Rattle.language_model.specs.Literals.{level_number, level_text}
use Rattle.language_model.specs.Typing.{Found, mismatch}

abbrev pub number_of : Expr → Option Number
number_of e = level_number (out-ExprKind e.what)

-- a file's name is UTF-8, not empty, and not `-`
abbrev pub is_file_name : List ℕ → Bool
is_file_name bytes = is_utf8 bytes && not (is_empty bytes) && not (bytes_eq bytes (codes "-"))

abbrev pub text_at : ℕ → Option Expr → Found (List ℕ)
text_at at e = option_map_or (λ x. level_text at (out-ExprKind x.what)) e (mismatch at)

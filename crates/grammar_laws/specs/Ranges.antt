-- Numbers of expressions that a program's tokens spell.
use Rattle.std.specs.Prelude.{◌≡◌, ℕ, IsTrue, List, ◌++◌, Ok}
use Rattle.spl_tree.specs.declared.token.Token.{Token}
use Rattle.spl_tree.specs.declared.token.Tokens.{Tokens}
use Rattle.spl_tree.specs.Tokens.{tokens}
use Rattle.spl_tree.specs.Trees.{Expr}
use Rattle.spl_tree.specs.Grammar.{Spells, Expression}
use Rattle.spl_tree.specs.Ranges.{in_range}

-- each of them is one of its type
abbrev pub RangesLaw : Type 0
RangesLaw = (bytes : List ℕ) (ts : Tokens) (e : Expr) (before own after : List Token)
    → tokens bytes ≡ Ok ts → ts.list ≡ before ++ (own ++ after) → Spells (Expression e) own → IsTrue (in_range e.what)

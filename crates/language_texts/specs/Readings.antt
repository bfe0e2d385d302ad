-- What texts are as expressions and as units.
use Rattle.std.specs.Prelude.{◌≡◌, ℕ, List, length, Ok}
use Rattle.spl_tree.specs.declared.token.Tokens.{Tokens}
use Rattle.spl_tree.specs.declared.unit.Definition.{Definition}
use Rattle.spl_tree.specs.Trees.{Expr}
use Rattle.spl_tree.specs.Tokens.{tokens}
use Rattle.spl_tree.specs.Units.{IsUnit}
use Rattle.expr_parser.specs.Parses.{IsParsed}

-- the expression that all tokens from one of them on are
abbrev pub IsWhole : Tokens → ℕ → Expr → Type 0
IsWhole ts from e = IsParsed ts from (record { expr = e; next = length ts.list })

-- the expression that all tokens of these bytes are
abbrev pub IsExprOfBytes : List ℕ → Expr → Type 0
IsExprOfBytes bytes e = (ts : Tokens) × (tokens bytes ≡ Ok ts) × IsWhole ts 0 e

-- the unit that they spell
abbrev pub IsUnitOfBytes : List ℕ → List Definition → Type 0
IsUnitOfBytes bytes unit = (ts : Tokens) × (tokens bytes ≡ Ok ts) × IsUnit ts unit

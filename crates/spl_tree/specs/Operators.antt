-- Operators, and how tight they bind.
use Rattle.std.specs.Prelude.{ℕ, Bool, false, Option, Some, None}
use Rattle.std.specs.Str.{bytes_eq}
use Rattle.spl_tree.specs.declared.symbol.Symbol.{Symbol}
use Rattle.spl_tree.specs.declared.symbol.Symbol.TheVariants as S
use Rattle.spl_tree.specs.declared.keyword.Keyword.{Keyword}
use Rattle.spl_tree.specs.declared.keyword.Keyword.TheVariants as K
use Rattle.spl_tree.specs.Words.{symbol_text}
use Rattle.spl_tree.specs.declared.token.TokenKind.{TokenKind}
use Rattle.spl_tree.specs.declared.token.TokenKind.TheVariants as T
use Rattle.spl_tree.specs.declared.expression.BinaryOperator.{BinaryOperator}
use Rattle.spl_tree.specs.declared.expression.BinaryOperator.TheVariants as B
use Rattle.spl_tree.specs.declared.expression.PrefixOperator.{PrefixOperator}
use Rattle.spl_tree.specs.declared.expression.PrefixOperator.TheVariants as P
use Rattle.spl_tree.specs.declared.expression.CastTarget.{CastTarget}
use Rattle.spl_tree.specs.declared.expression.CastTarget.TheVariants as C

-- the operator between two operands that a token is
abbrev pub binary_symbol : Symbol → Option BinaryOperator
binary_symbol S.Star = Some B.Multiply
binary_symbol S.Slash = Some B.Divide
binary_symbol S.Percent = Some B.Remainder
binary_symbol S.Plus = Some B.Add
binary_symbol S.Minus = Some B.Subtract
binary_symbol S.Less = Some B.Less
binary_symbol S.LessOrEqual = Some B.LessOrEqual
binary_symbol S.Greater = Some B.Greater
binary_symbol S.GreaterOrEqual = Some B.GreaterOrEqual
binary_symbol S.Equal = Some B.Equal
binary_symbol S.NotEqual = Some B.NotEqual
binary_symbol S.Ampersand = Some B.BitAnd
binary_symbol S.Caret = Some B.BitXor
binary_symbol S.Pipe = Some B.BitOr
binary_symbol S.DoubleAmpersand = Some B.And
binary_symbol S.DoublePipe = Some B.Or
binary_symbol _ = None

abbrev pub binary_keyword : Keyword → Option BinaryOperator
binary_keyword K.In = Some B.In
binary_keyword _ = None

abbrev pub binary_of : TokenKind → Option BinaryOperator
binary_of (T.Symbol s) = binary_symbol s
binary_of (T.Keyword k) = binary_keyword k
binary_of _ = None

-- the level of an operator between two operands, of nine; 1 binds tightest
abbrev pub level : BinaryOperator → ℕ
level B.Multiply = 1
level B.Divide = 1
level B.Remainder = 1
level B.Add = 2
level B.Subtract = 2
level B.Less = 3
level B.LessOrEqual = 3
level B.Greater = 3
level B.GreaterOrEqual = 3
level B.In = 3
level B.Equal = 4
level B.NotEqual = 4
level B.BitAnd = 5
level B.BitXor = 6
level B.BitOr = 7
level B.And = 8
level B.Or = 9

-- the operator in front of an operand that a token is
abbrev pub prefix_symbol : Symbol → Option PrefixOperator
prefix_symbol S.Exclamation = Some P.Not
prefix_symbol S.Minus = Some P.Negate
prefix_symbol S.Tilde = Some P.Complement
prefix_symbol _ = None

abbrev pub prefix_of : TokenKind → Option PrefixOperator
prefix_of (T.Symbol s) = prefix_symbol s
prefix_of _ = None

-- the type that a token names, where an expression can be cast to it
abbrev pub target_keyword : Keyword → Option CastTarget
target_keyword (K.Int kind) = Some (C.Int kind)
target_keyword K.Rstring = Some C.Text
target_keyword _ = None

abbrev pub target_of : TokenKind → Option CastTarget
target_of (T.Keyword k) = target_keyword k
target_of _ = None

-- the operator of an assignment that a symbol is, if it is one: none for `=`
abbrev pub assignment_symbol : Symbol → Option (Option BinaryOperator)
assignment_symbol S.Assign = Some None
assignment_symbol S.PlusAssign = Some (Some B.Add)
assignment_symbol S.MinusAssign = Some (Some B.Subtract)
assignment_symbol S.StarAssign = Some (Some B.Multiply)
assignment_symbol S.SlashAssign = Some (Some B.Divide)
assignment_symbol S.PercentAssign = Some (Some B.Remainder)
assignment_symbol _ = None

abbrev pub assignment_of : TokenKind → Option (Option BinaryOperator)
assignment_of (T.Symbol s) = assignment_symbol s
assignment_of _ = None

-- whether a token is that symbol
abbrev pub is_symbol : Symbol → TokenKind → Bool
is_symbol s (T.Symbol x) = bytes_eq (symbol_text s) (symbol_text x)
is_symbol s _ = false

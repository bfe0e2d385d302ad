-- The lines of the grammar of expressions: which pieces an expression is made of, and how tight operators bind.
use Rattle.std.specs.Prelude.{◌≡◌, ℕ, suc, true, false, List, [], ◌∷◌, ◌++◌, Some, ◌↔◌}
use Rattle.spl_value.specs.declared.types.IntKind.{IntKind}
use Rattle.spl_tree.specs.declared.expression.BinaryOperator.{BinaryOperator}
use Rattle.spl_tree.specs.declared.expression.BinaryOperator.TheVariants as B
use Rattle.spl_tree.specs.declared.expression.CastTarget.{CastTarget}
use Rattle.spl_tree.specs.declared.expression.CastTarget.TheVariants as C
use Rattle.spl_tree.specs.declared.expression.ExprKind.{ExprKind}
use Rattle.spl_tree.specs.declared.expression.ExprKind.TheVariants as X
use Rattle.spl_tree.specs.declared.expression.Field.{Field}
use Rattle.spl_tree.specs.declared.expression.Placed.{Placed}
use Rattle.spl_tree.specs.declared.expression.PrefixOperator.{PrefixOperator}
use Rattle.spl_tree.specs.declared.expression.PrefixOperator.TheVariants as P
use Rattle.spl_tree.specs.declared.expression.Step.{Step}
use Rattle.spl_tree.specs.declared.expression.Step.TheVariants as N
use Rattle.spl_tree.specs.declared.keyword.Keyword.TheVariants as K
use Rattle.spl_tree.specs.declared.symbol.Symbol.{Symbol}
use Rattle.spl_tree.specs.declared.symbol.Symbol.TheVariants as S
use Rattle.spl_tree.specs.declared.token.Number.{Number}
use Rattle.spl_tree.specs.declared.token.Token.{Token}
use Rattle.spl_tree.specs.declared.token.TokenKind.{TokenKind}
use Rattle.spl_tree.specs.declared.token.TokenKind.TheVariants as T
use Rattle.spl_tree.specs.Trees.{Expr, Prefix, placed}
use Rattle.spl_tree.specs.spellings.Grammar.{Primary, Elements, Items, Entries, Fields, Steps, Prefixes, Operand, Unary, At, Spells}
use Rattle.grammar_laws.specs.Pieces.{One, word, sign, Name, In, first}

-- ---- primary expressions

-- the line of a primary expression
pub data PrimaryLine : ExprKind → List Token → Type 0 where
  dollar : (n : List ℕ) (ts : List Token) → One (T.Dollar n) ts → PrimaryLine (X.Dollar n) ts
  number : (n : Number) (ts : List Token) → One (T.Number n) ts → PrimaryLine (X.Number n) ts
  text : (b : List ℕ) (ts : List Token) → One (T.Text b) ts → PrimaryLine (X.Text b) ts
  truth : (ts : List Token) → word K.True ts → PrimaryLine (X.Bool true) ts
  untruth : (ts : List Token) → word K.False ts → PrimaryLine (X.Bool false) ts
  a_name : (n : List ℕ) (ts : List Token) → One (T.Word n) ts → PrimaryLine (X.Name n) ts
  call : (n : List ℕ) (es : List Expr) (ts : List Token) → In (One (T.Word n) ∷ sign S.LeftParen ∷ Elements es ∷ sign S.RightParen ∷ []) ts → PrimaryLine (X.Call n es) ts
  group : (e : Expr) (ts : List Token) → In (sign S.LeftParen ∷ Spells e ∷ sign S.RightParen ∷ []) ts → PrimaryLine (X.Group e) ts
  list : (es : List Expr) (ts : List Token) → In (sign S.LeftBracket ∷ Elements es ∷ sign S.RightBracket ∷ []) ts → PrimaryLine (X.List es) ts
  empty_map : (ts : List Token) → In (sign S.LeftBrace ∷ sign S.RightBrace ∷ []) ts → PrimaryLine (X.Map []) ts
  map : (es : List (Expr × Expr)) (ts : List Token) → In (sign S.LeftBrace ∷ Entries es ∷ sign S.RightBrace ∷ []) ts → PrimaryLine (X.Map es) ts
  tuple : (fs : List (Field Expr)) (ts : List Token) → In (sign S.LeftBrace ∷ Fields fs ∷ sign S.RightBrace ∷ []) ts → PrimaryLine (X.Tuple fs) ts

-- a primary expression is spelled by its line, and placed at its first token
abbrev pub PrimaryLineLaw : Type 0
PrimaryLineLaw = (e : Expr) (ts : List Token) → Primary e ts ↔ (PrimaryLine e.what ts × (first ts ≡ Some e.at))

-- the lines of lists of expressions
pub record ListLines : Type 0 where
  pub no_elements : Elements [] []
  pub elements : (es : List Expr) (ts : List Token) → Items es ts → Elements es ts
  pub item : (e : Expr) (ts : List Token) → Spells e ts → Items (e ∷ []) ts
  pub items : (es : List Expr) (e : Expr) (ts : List Token) → In (Items es ∷ sign S.Comma ∷ Spells e ∷ []) ts → Items (es ++ e ∷ []) ts
  pub entry : (k v : Expr) (ts : List Token) → In (Spells k ∷ sign S.Colon ∷ Spells v ∷ []) ts → Entries ((k, v) ∷ []) ts
  pub entries : (es : List (Expr × Expr)) (k v : Expr) (ts : List Token) → In (Entries es ∷ sign S.Comma ∷ Spells k ∷ sign S.Colon ∷ Spells v ∷ []) ts
      → Entries (es ++ (k, v) ∷ []) ts
  pub field : (n : Placed (List ℕ)) (e : Expr) (ts : List Token) → In (Name n ∷ sign S.Assign ∷ Spells e ∷ []) ts → Fields (record { name = n; value = e } ∷ []) ts
  pub fields : (fs : List (Field Expr)) (n : Placed (List ℕ)) (e : Expr) (ts : List Token)
      → In (Fields fs ∷ sign S.Comma ∷ Name n ∷ sign S.Assign ∷ Spells e ∷ []) ts → Fields (fs ++ record { name = n; value = e } ∷ []) ts
  pub no_steps : Steps [] []
  pub member : (ss : List (Step Expr)) (n : Placed (List ℕ)) (ts : List Token) → In (Steps ss ∷ sign S.Dot ∷ Name n ∷ []) ts → Steps (ss ++ N.Member n ∷ []) ts
  pub index : (ss : List (Step Expr)) (e : Expr) (ts : List Token) → In (Steps ss ∷ sign S.LeftBracket ∷ Spells e ∷ sign S.RightBracket ∷ []) ts
      → Steps (ss ++ N.Index e ∷ []) ts

-- ---- operators

-- the operators in front of an operand
pub data PrefixSign : PrefixOperator → Symbol → Type 0 where
  not_sign : PrefixSign P.Not S.Exclamation
  minus_sign : PrefixSign P.Negate S.Minus
  tilde_sign : PrefixSign P.Complement S.Tilde

-- the types of casts
pub data Target : CastTarget → List Token → Type 0 where
  to_integer : (k : IntKind) (ts : List Token) → word (K.Int k) ts → Target (C.Int k) ts
  to_text : (ts : List Token) → word K.Rstring ts → Target C.Text ts

-- a piece that begins at a place
abbrev pub placed_at : ℕ → (List Token → Type 0) → List Token → Type 0
placed_at at p ts = p ts × (first ts ≡ Some at)

-- the operators between two operands, from those that bind tightest on, by their levels
pub data Binds : ℕ → BinaryOperator → TokenKind → Type 0 where
  multiply : Binds 1 B.Multiply (T.Symbol S.Star)
  divide : Binds 1 B.Divide (T.Symbol S.Slash)
  remainder : Binds 1 B.Remainder (T.Symbol S.Percent)
  add : Binds 2 B.Add (T.Symbol S.Plus)
  subtract : Binds 2 B.Subtract (T.Symbol S.Minus)
  less : Binds 3 B.Less (T.Symbol S.Less)
  less_or_equal : Binds 3 B.LessOrEqual (T.Symbol S.LessOrEqual)
  greater : Binds 3 B.Greater (T.Symbol S.Greater)
  greater_or_equal : Binds 3 B.GreaterOrEqual (T.Symbol S.GreaterOrEqual)
  within : Binds 3 B.In (T.Keyword K.In)
  equal : Binds 4 B.Equal (T.Symbol S.Equal)
  not_equal : Binds 4 B.NotEqual (T.Symbol S.NotEqual)
  bit_and : Binds 5 B.BitAnd (T.Symbol S.Ampersand)
  bit_xor : Binds 6 B.BitXor (T.Symbol S.Caret)
  bit_or : Binds 7 B.BitOr (T.Symbol S.Pipe)
  and : Binds 8 B.And (T.Symbol S.DoubleAmpersand)
  or : Binds 9 B.Or (T.Symbol S.DoublePipe)

-- the lines of operands and operators
pub record OperatorLines : Type 0 where
  pub no_prefixes : Prefixes [] []
  pub operator : (ps : List Prefix) (p : PrefixOperator) (s : Symbol) (at : ℕ) (ts : List Token) → PrefixSign p s → In (Prefixes ps ∷ placed_at at (sign s) ∷ []) ts
      → Prefixes (ps ++ placed at p ∷ []) ts
  pub cast : (ps : List Prefix) (c : CastTarget) (at : ℕ) (ts : List Token)
      → In (Prefixes ps ∷ placed_at at (sign S.LeftParen) ∷ Target c ∷ sign S.RightParen ∷ []) ts → Prefixes (ps ++ placed at (P.Cast c) ∷ []) ts
  pub primary : (e : Expr) (ts : List Token) → Primary e ts → Operand e ts
  pub select : (e : Expr) (s : Step Expr) (ss : List (Step Expr)) (ts : List Token) → In (Primary e ∷ Steps (s ∷ ss) ∷ []) ts
      → Operand (placed e.at (X.Select e (s ∷ ss))) ts
  pub operand : (e : Expr) (ts : List Token) → Operand e ts → Unary e ts
  pub prefixed : (p : Prefix) (ps : List Prefix) (e : Expr) (ts : List Token) → In (Prefixes (p ∷ ps) ∷ Operand e ∷ []) ts → Unary (placed p.at (X.Unary (p ∷ ps) e)) ts
  pub unary : (e : Expr) (ts : List Token) → Unary e ts → At 0 e ts
  pub tighter : (k : ℕ) (e : Expr) (ts : List Token) → At k e ts → At (suc k) e ts
  -- operators of one level group to the left
  pub binary : (k : ℕ) (l r : Expr) (op : BinaryOperator) (kind : TokenKind) (ts : List Token) → Binds (suc k) op kind → In (At (suc k) l ∷ One kind ∷ At k r ∷ []) ts
      → At (suc k) (placed l.at (X.Binary op l r)) ts
  pub whole : (e : Expr) (ts : List Token) → At 9 e ts → Spells e ts
  -- a conditional groups to the right
  pub conditional : (c x y : Expr) (ts : List Token) → In (At 9 c ∷ sign S.Question ∷ Spells x ∷ sign S.Colon ∷ Spells y ∷ []) ts
      → Spells (placed c.at (X.Conditional c x y)) ts

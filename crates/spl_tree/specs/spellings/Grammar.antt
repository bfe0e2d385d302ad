-- Which tokens spell an expression, by a relation for each kind of phrase, by which the parsers are proved. `grammar_laws` proves that
-- these are the lines of the grammar. Each constructor is one of them, and the tokens that stand there are those of its last argument.
use Rattle.std.specs.Prelude.{◌≡◌, ℕ, zero, suc, true, false, List, [], ◌∷◌, ◌++◌, Some}
use Rattle.spl_tree.specs.declared.symbol.Symbol.{Symbol}
use Rattle.spl_tree.specs.declared.symbol.Symbol.TheVariants as S
use Rattle.spl_tree.specs.declared.keyword.Keyword.TheVariants as K
use Rattle.spl_tree.specs.declared.token.Number.{Number}
use Rattle.spl_tree.specs.declared.token.Token.{Token}
use Rattle.spl_tree.specs.declared.token.TokenKind.TheVariants as T
use Rattle.spl_tree.specs.declared.expression.ExprKind.{ExprKind}
use Rattle.spl_tree.specs.declared.expression.ExprKind.TheVariants as X
use Rattle.spl_tree.specs.declared.expression.Field.{Field}
use Rattle.spl_tree.specs.declared.expression.Step.{Step}
use Rattle.spl_tree.specs.declared.expression.Step.TheVariants as N
use Rattle.spl_tree.specs.declared.expression.PrefixOperator.{PrefixOperator}
use Rattle.spl_tree.specs.declared.expression.PrefixOperator.TheVariants as P
use Rattle.spl_tree.specs.declared.expression.CastTarget.{CastTarget}
use Rattle.spl_tree.specs.declared.expression.BinaryOperator.{BinaryOperator}
use Rattle.spl_tree.specs.Trees.{Expr, Prefix, placed}
use Rattle.spl_tree.specs.Operators.{binary_of, level, prefix_of, target_of}

-- the token is that symbol
abbrev pub Is : Symbol → Token → Type 0
Is s t = t.kind ≡ T.Symbol s

-- the token is that name
abbrev pub Names : List ℕ → Token → Type 0
Names n t = t.kind ≡ T.Word n

-- a token that is an expression by itself; a name isn't among these, since a call begins with one too
pub data Literal : ExprKind → Token → Type 0 where
  dollar : (t : Token) (n : List ℕ) → t.kind ≡ T.Dollar n → Literal (X.Dollar n) t
  number : (t : Token) (n : Number) → t.kind ≡ T.Number n → Literal (X.Number n) t
  text : (t : Token) (bytes : List ℕ) → t.kind ≡ T.Text bytes → Literal (X.Text bytes) t
  yes : (t : Token) → t.kind ≡ T.Keyword K.True → Literal (X.Bool true) t
  no : (t : Token) → t.kind ≡ T.Keyword K.False → Literal (X.Bool false) t

-- prefix operators and casts in a row
pub data Prefixes : List Prefix → List Token → Type 0 where
  no_prefixes : Prefixes [] []
  operator : (ps : List Prefix) (a : List Token) (t : Token) (p : PrefixOperator) → Prefixes ps a → prefix_of t.kind ≡ Some p
      → Prefixes (ps ++ placed t.start p ∷ []) (a ++ t ∷ [])
  cast : (ps : List Prefix) (a : List Token) (o t c : Token) (target : CastTarget) → Prefixes ps a
      → Is S.LeftParen o → target_of t.kind ≡ Some target → Is S.RightParen c
      → Prefixes (ps ++ placed o.start (P.Cast target) ∷ []) (a ++ o ∷ t ∷ c ∷ [])

mutual
  -- primary expressions
  pub data Primary : Expr → List Token → Type 0 where
    literal : (t : Token) (k : ExprKind) → Literal k t → Primary (placed t.start k) (t ∷ [])
    name : (t : Token) (n : List ℕ) → Names n t → Primary (placed t.start (X.Name n)) (t ∷ [])
    call : (t o c : Token) (n : List ℕ) (es : List Expr) (a : List Token) → Names n t → Is S.LeftParen o → Elements es a → Is S.RightParen c
        → Primary (placed t.start (X.Call n es)) (t ∷ o ∷ (a ++ c ∷ []))
    group : (o c : Token) (e : Expr) (a : List Token) → Is S.LeftParen o → Spells e a → Is S.RightParen c
        → Primary (placed o.start (X.Group e)) (o ∷ (a ++ c ∷ []))
    list : (o c : Token) (es : List Expr) (a : List Token) → Is S.LeftBracket o → Elements es a → Is S.RightBracket c
        → Primary (placed o.start (X.List es)) (o ∷ (a ++ c ∷ []))
    empty_map : (o c : Token) → Is S.LeftBrace o → Is S.RightBrace c → Primary (placed o.start (X.Map [])) (o ∷ c ∷ [])
    map : (o c : Token) (es : List (Expr × Expr)) (a : List Token) → Is S.LeftBrace o → Entries es a → Is S.RightBrace c
        → Primary (placed o.start (X.Map es)) (o ∷ (a ++ c ∷ []))
    tuple : (o c : Token) (fs : List (Field Expr)) (a : List Token) → Is S.LeftBrace o → Fields fs a → Is S.RightBrace c
        → Primary (placed o.start (X.Tuple fs)) (o ∷ (a ++ c ∷ []))

  -- the arguments of a call or the elements of a list: expressions with commas between them, or none
  pub data Elements : List Expr → List Token → Type 0 where
    no_elements : Elements [] []
    elements : (es : List Expr) (a : List Token) → Items es a → Elements es a

  pub data Items : List Expr → List Token → Type 0 where
    first_item : (e : Expr) (a : List Token) → Spells e a → Items (e ∷ []) a
    next_item : (es : List Expr) (e : Expr) (t : Token) (a b : List Token) → Items es a → Is S.Comma t → Spells e b → Items (es ++ e ∷ []) (a ++ t ∷ b)

  -- keys and values, a colon between both, with commas between them
  pub data Entries : List (Expr × Expr) → List Token → Type 0 where
    first_entry : (k v : Expr) (t : Token) (a b : List Token) → Spells k a → Is S.Colon t → Spells v b → Entries ((k, v) ∷ []) (a ++ t ∷ b)
    next_entry : (es : List (Expr × Expr)) (k v : Expr) (s t : Token) (a b d : List Token) → Entries es a → Is S.Comma s → Spells k b → Is S.Colon t → Spells v d
        → Entries (es ++ (k, v) ∷ []) (a ++ s ∷ (b ++ t ∷ d))

  -- names and values, a `=` between both, with commas between them
  pub data Fields : List (Field Expr) → List Token → Type 0 where
    first_field : (t s : Token) (n : List ℕ) (e : Expr) (a : List Token) → Names n t → Is S.Assign s → Spells e a
        → Fields (record { name = placed t.start n; value = e } ∷ []) (t ∷ s ∷ a)
    next_field : (fs : List (Field Expr)) (c t s : Token) (n : List ℕ) (e : Expr) (a b : List Token) → Fields fs a → Is S.Comma c → Names n t → Is S.Assign s → Spells e b
        → Fields (fs ++ record { name = placed t.start n; value = e } ∷ []) (a ++ c ∷ t ∷ s ∷ b)

  -- `.name` and `[index]` in a row
  pub data Steps : List (Step Expr) → List Token → Type 0 where
    no_steps : Steps [] []
    member : (ss : List (Step Expr)) (a : List Token) (d t : Token) (n : List ℕ) → Steps ss a → Is S.Dot d → Names n t
        → Steps (ss ++ N.Member (placed t.start n) ∷ []) (a ++ d ∷ t ∷ [])
    index : (ss : List (Step Expr)) (e : Expr) (o c : Token) (a b : List Token) → Steps ss a → Is S.LeftBracket o → Spells e b → Is S.RightBracket c
        → Steps (ss ++ N.Index e ∷ []) (a ++ o ∷ (b ++ c ∷ []))

  -- a primary expression, with the members and indices taken of it
  pub data Operand : Expr → List Token → Type 0 where
    primary : (e : Expr) (a : List Token) → Primary e a → Operand e a
    select : (e : Expr) (s : Step Expr) (ss : List (Step Expr)) (a b : List Token) → Primary e a → Steps (s ∷ ss) b
        → Operand (placed e.at (X.Select e (s ∷ ss))) (a ++ b)

  -- such an operand, with prefix operators and casts in front
  pub data Unary : Expr → List Token → Type 0 where
    operand : (e : Expr) (a : List Token) → Operand e a → Unary e a
    prefixed : (p : Prefix) (ps : List Prefix) (e : Expr) (a b : List Token) → Prefixes (p ∷ ps) a → Operand e b
        → Unary (placed p.at (X.Unary (p ∷ ps) e)) (a ++ b)

  -- operators up to a level, of nine: the left side at that level or a tighter one, the right side at a tighter one, so
  -- operators of one level group to the left
  pub data At : ℕ → Expr → List Token → Type 0 where
    unary : (e : Expr) (a : List Token) → Unary e a → At zero e a
    tighter : (k : ℕ) (e : Expr) (a : List Token) → At k e a → At (suc k) e a
    binary : (k : ℕ) (l r : Expr) (op : BinaryOperator) (t : Token) (a b : List Token) → At (suc k) l a → binary_of t.kind ≡ Some op → level op ≡ suc k → At k r b
        → At (suc k) (placed l.at (X.Binary op l r)) (a ++ t ∷ b)

  -- an expression: a conditional groups to the right
  pub data Spells : Expr → List Token → Type 0 where
    plain : (e : Expr) (a : List Token) → At 9 e a → Spells e a
    conditional : (c x y : Expr) (q k : Token) (a b d : List Token) → At 9 c a → Is S.Question q → Spells x b → Is S.Colon k → Spells y d
        → Spells (placed c.at (X.Conditional c x y)) (a ++ q ∷ (b ++ k ∷ d))

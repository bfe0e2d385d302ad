-- Which tokens spell a statement, by a relation for each kind of phrase.
use Rattle.std.specs.Prelude.{◌≡◌, ℕ, Bool, true, false, List, [], ◌∷◌, ◌++◌, Option, Some, None}
use Rattle.spl_tree.specs.declared.expression.BinaryOperator.{BinaryOperator}
use Rattle.spl_tree.specs.declared.expression.ExprKind.TheVariants as X
use Rattle.spl_tree.specs.declared.expression.Step.{Step}
use Rattle.spl_tree.specs.declared.keyword.Keyword.TheVariants as K
use Rattle.spl_tree.specs.declared.statement.Declaration.{Declaration}
use Rattle.spl_tree.specs.declared.statement.StmtKind.TheVariants as Z
use Rattle.spl_tree.specs.declared.symbol.Symbol.TheVariants as S
use Rattle.spl_tree.specs.declared.token.Token.{Token}
use Rattle.spl_tree.specs.Trees.{Expr, Stmt, TypeExpr, IsNoIf, placed}
use Rattle.spl_tree.specs.Operators.{assignment_of}
use Rattle.spl_tree.specs.spellings.Grammar.{Is, Names, Elements, Steps, Spells}
use Rattle.spl_tree.specs.spellings.Phrases.{IsKeyword}
use Rattle.spl_tree.specs.spellings.TypeGrammar.{named, SpellsType}

-- a name, and the members and elements that are taken of it
pub data SpellsPlace : Expr → List Token → Type 0 where
  variable : (t : Token) (n : List ℕ) → Names n t → SpellsPlace (placed t.start (X.Name n)) (t ∷ [])
  taken : (t : Token) (n : List ℕ) (s : Step Expr) (ss : List (Step Expr)) (a : List Token) → Names n t → Steps (s ∷ ss) a
      → SpellsPlace (placed t.start (X.Select (placed t.start (X.Name n)) (s ∷ ss))) (t ∷ a)

pub data SpellsCall : Expr → List Token → Type 0 where
  call : (t o c : Token) (n : List ℕ) (es : List Expr) (a : List Token) → Names n t → Is S.LeftParen o → Elements es a → Is S.RightParen c
      → SpellsCall (placed t.start (X.Call n es)) (t ∷ o ∷ (a ++ c ∷ []))

-- the first value of a variable, or none
pub data SpellsValue : Option Expr → List Token → Type 0 where
  no_value : SpellsValue None []
  value : (t : Token) (e : Expr) (a : List Token) → Is S.Assign t → Spells e a → SpellsValue (Some e) (t ∷ a)

-- whether `mutable` stands there
pub data SpellsMutable : Bool → List Token → Type 0 where
  constant : SpellsMutable false []
  mutable : (t : Token) → IsKeyword K.Mutable t → SpellsMutable true (t ∷ [])

pub data SpellsDeclaration : Declaration → List Token → Type 0 where
  declaration : (m : Bool) (k : TypeExpr) (t s : Token) (n : List ℕ) (v : Option Expr) (a b d : List Token) → SpellsMutable m a → SpellsType k b → Names n t
      → SpellsValue v d → Is S.Semicolon s → SpellsDeclaration (record { mutable = m; kind = k; name = placed t.start n; value = v }) (a ++ (b ++ t ∷ (d ++ s ∷ [])))

-- the value of a `return`, or none
pub data SpellsReturned : Option Expr → List Token → Type 0 where
  no_result : SpellsReturned None []
  result : (e : Expr) (a : List Token) → Spells e a → SpellsReturned (Some e) a

-- the place of the first of these tokens
pub data BeginsAt : ℕ → List Token → Type 0 where
  begins : (t : Token) (a : List Token) → BeginsAt t.start (t ∷ a)

mutual
  -- a statement. It is closed where an `else` after it would belong to none of its own `if`.
  pub data SpellsStmt : Bool → Stmt → List Token → Type 0 where
    block : (o c : Token) (ss : List Stmt) (a : List Token) → Is S.LeftBrace o → SpellsStmts ss a → Is S.RightBrace c
        → SpellsStmt true (placed o.start (Z.Block ss)) (o ∷ (a ++ c ∷ []))
    declare : (d : Declaration) (at : ℕ) (a : List Token) → SpellsDeclaration d a → BeginsAt at a → SpellsStmt true (placed at (Z.Declare d)) a
    assign : (p e : Expr) (t s : Token) (op : Option BinaryOperator) (a b : List Token) → SpellsPlace p a → assignment_of t.kind ≡ Some op → Spells e b
        → Is S.Semicolon s → SpellsStmt true (placed p.at (Z.Assign p op e)) (a ++ t ∷ (b ++ s ∷ []))
    call_alone : (e : Expr) (s : Token) (a : List Token) → SpellsCall e a → Is S.Semicolon s → SpellsStmt true (placed e.at (Z.Call e)) (a ++ s ∷ [])
    if_alone : (last : Bool) (at : ℕ) (arms : List (Expr × Stmt)) (a : List Token) → SpellsArms last at arms a → SpellsStmt false (placed at (Z.If arms None)) a
    if_else : (closed : Bool) (at : ℕ) (arms : List (Expr × Stmt)) (s : Stmt) (t : Token) (a b : List Token) → SpellsArms true at arms a → IsKeyword K.Else t
        → SpellsStmt closed s b → IsNoIf s → SpellsStmt closed (placed at (Z.If arms (Some s))) (a ++ t ∷ b)
    while : (closed : Bool) (t o c : Token) (e : Expr) (s : Stmt) (a b : List Token) → IsKeyword K.While t → Is S.LeftParen o → Spells e a → Is S.RightParen c
        → SpellsStmt closed s b → SpellsStmt closed (placed t.start (Z.While e s)) (t ∷ o ∷ (a ++ c ∷ b))
    for : (closed : Bool) (t o v i c : Token) (k : TypeExpr) (n : List ℕ) (e : Expr) (s : Stmt) (a b d : List Token) → IsKeyword K.For t → Is S.LeftParen o
        → SpellsType k a → Names n v → IsKeyword K.In i → Spells e b → Is S.RightParen c → SpellsStmt closed s d
        → SpellsStmt closed (placed t.start (Z.For (named k v n) e s)) (t ∷ o ∷ (a ++ v ∷ i ∷ (b ++ c ∷ d)))
    break : (t s : Token) → IsKeyword K.Break t → Is S.Semicolon s → SpellsStmt true (placed t.start Z.Break) (t ∷ s ∷ [])
    continue : (t s : Token) → IsKeyword K.Continue t → Is S.Semicolon s → SpellsStmt true (placed t.start Z.Continue) (t ∷ s ∷ [])
    return : (t s : Token) (v : Option Expr) (a : List Token) → IsKeyword K.Return t → SpellsReturned v a → Is S.Semicolon s
        → SpellsStmt true (placed t.start (Z.Return v)) (t ∷ (a ++ s ∷ []))
    submit : (t o m n c s : Token) (e : Expr) (stream : List ℕ) (a : List Token) → IsKeyword K.Submit t → Is S.LeftParen o → Spells e a → Is S.Comma m
        → Names stream n → Is S.RightParen c → Is S.Semicolon s
        → SpellsStmt true (placed t.start (Z.Submit e (placed n.start stream))) (t ∷ o ∷ (a ++ m ∷ n ∷ c ∷ s ∷ []))

  -- the conditions of an `if` at a place and of each `else if` after it, with their statements. An `else` belongs to the
  -- nearest `if`, so the statement before it is closed. Whether the last statement is closed is the first argument.
  pub data SpellsArms : Bool → ℕ → List (Expr × Stmt) → List Token → Type 0 where
    first_arm : (closed : Bool) (t o c : Token) (e : Expr) (s : Stmt) (a b : List Token) → IsKeyword K.If t → Is S.LeftParen o → Spells e a → Is S.RightParen c
        → SpellsStmt closed s b → SpellsArms closed t.start ((e, s) ∷ []) (t ∷ o ∷ (a ++ c ∷ b))
    next_arm : (closed : Bool) (at : ℕ) (arms : List (Expr × Stmt)) (l t o c : Token) (e : Expr) (s : Stmt) (a b d : List Token) → SpellsArms true at arms a
        → IsKeyword K.Else l → IsKeyword K.If t → Is S.LeftParen o → Spells e b → Is S.RightParen c → SpellsStmt closed s d
        → SpellsArms closed at (arms ++ (e, s) ∷ []) (a ++ l ∷ t ∷ o ∷ (b ++ c ∷ d))

  -- statements in a row, or none
  pub data SpellsStmts : List Stmt → List Token → Type 0 where
    no_statements : SpellsStmts [] []
    more_statements : (closed : Bool) (ss : List Stmt) (s : Stmt) (a b : List Token) → SpellsStmts ss a → SpellsStmt closed s b
        → SpellsStmts (ss ++ s ∷ []) (a ++ b)

-- statements between braces
pub data SpellsBlock : List Stmt → List Token → Type 0 where
  block_of : (o c : Token) (ss : List Stmt) (a : List Token) → Is S.LeftBrace o → SpellsStmts ss a → Is S.RightBrace c → SpellsBlock ss (o ∷ (a ++ c ∷ []))

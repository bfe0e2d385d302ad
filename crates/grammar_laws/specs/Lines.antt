-- The lines of the grammar, by the kind of what they spell: which pieces a type and a statement are made of.
use Rattle.std.specs.Prelude.{◌≡◌, ℕ, Bool, true, false, List, [], ◌∷◌, ◌++◌, Option, Some, None, ◌↔◌}
use Rattle.spl_tree.specs.declared.expression.BinaryOperator.{BinaryOperator}
use Rattle.spl_tree.specs.declared.expression.BinaryOperator.TheVariants as B
use Rattle.spl_tree.specs.declared.expression.Placed.{Placed}
use Rattle.spl_value.specs.declared.types.IntKind.{IntKind}
use Rattle.spl_tree.specs.declared.expression.ExprKind.TheVariants as X
use Rattle.spl_tree.specs.declared.expression.Step.{Step}
use Rattle.spl_tree.specs.declared.shape.ShapeKind.TheVariants as H
use Rattle.spl_tree.specs.declared.keyword.Keyword.TheVariants as K
use Rattle.spl_tree.specs.declared.keyword.LeftOut.{LeftOut}
use Rattle.spl_tree.specs.declared.shape.Attribute.{Attribute}
use Rattle.spl_tree.specs.declared.shape.TypeKind.{TypeKind}
use Rattle.spl_tree.specs.declared.shape.TypeKind.TheVariants as Y
use Rattle.spl_tree.specs.declared.statement.Declaration.{Declaration}
use Rattle.spl_tree.specs.declared.statement.StmtKind.{StmtKind}
use Rattle.spl_tree.specs.declared.statement.StmtKind.TheVariants as Z
use Rattle.spl_tree.specs.declared.symbol.Symbol.{Symbol}
use Rattle.spl_tree.specs.declared.symbol.Symbol.TheVariants as S
use Rattle.spl_tree.specs.declared.token.Token.{Token}
use Rattle.spl_tree.specs.declared.token.TokenKind.TheVariants as T
use Rattle.spl_tree.specs.Trees.{Expr, TypeExpr, Stmt}
use Rattle.spl_tree.specs.spellings.Grammar.{Elements, Steps, Spells}
use Rattle.spl_tree.specs.spellings.TypeGrammar.{SpellsType, SpellsAttributes, SpellsShape, SpellsFunctionParameters}
use Rattle.spl_tree.specs.spellings.StatementGrammar.{SpellsValue, SpellsMutable, SpellsBlock, SpellsPlace, SpellsCall, SpellsDeclaration, SpellsStmt, SpellsStmts, SpellsArms}
use Rattle.grammar_laws.specs.Pieces.{One, word, sign, Name, In, first}

-- ---- types

-- the line of a type
pub data TypeLine : TypeKind → List Token → Type 0 where
  boolean : (ts : List Token) → word K.Boolean ts → TypeLine Y.Boolean ts
  rstring : (ts : List Token) → word K.Rstring ts → TypeLine Y.Rstring ts
  integer : (k : IntKind) (ts : List Token) → word (K.Int k) ts → TypeLine (Y.Int k) ts
  left_out : (w : LeftOut) (ts : List Token) → word (K.LeftOut w) ts → TypeLine (Y.LeftOut w) ts
  name : (n : List ℕ) (ts : List Token) → One (T.Word n) ts → TypeLine (Y.Name n) ts
  list : (k : TypeExpr) (ts : List Token) → In (word K.List ∷ sign S.Less ∷ SpellsType k ∷ sign S.Greater ∷ []) ts → TypeLine (Y.List k) ts
  map : (k v : TypeExpr) (ts : List Token) → In (word K.Map ∷ sign S.Less ∷ SpellsType k ∷ sign S.Comma ∷ SpellsType v ∷ sign S.Greater ∷ []) ts
      → TypeLine (Y.Map k v) ts
  tuple : (xs : List (Attribute TypeExpr)) (ts : List Token) → In (word K.Tuple ∷ sign S.Less ∷ SpellsAttributes xs ∷ sign S.Greater ∷ []) ts
      → TypeLine (Y.Tuple xs) ts

-- a type is spelled by its line, and placed at its first token
abbrev pub TypeLineLaw : Type 0
TypeLineLaw = (k : TypeExpr) (ts : List Token) → SpellsType k ts ↔ (TypeLine k.what ts × (first ts ≡ Some k.at))

-- ---- statements

-- the symbol of an assignment: `=`, or that of its operator with `=`
pub data Assigns : Option BinaryOperator → Symbol → Type 0 where
  plain : Assigns None S.Assign
  add : Assigns (Some B.Add) S.PlusAssign
  subtract : Assigns (Some B.Subtract) S.MinusAssign
  multiply : Assigns (Some B.Multiply) S.StarAssign
  divide : Assigns (Some B.Divide) S.SlashAssign
  remainder : Assigns (Some B.Remainder) S.PercentAssign

pub data AssignSign (op : Option BinaryOperator) : List Token → Type 0 where
  assign_sign : (s : Symbol) (ts : List Token) → Assigns op s → sign s ts → AssignSign op ts

-- arms of an `if`, of which only the last statement may want an `else`
pub data Arms (last : Bool) (arms : List (Expr × Stmt)) (ts : List Token) : Type 0 where
  arms : (at : ℕ) → SpellsArms last at arms ts → Arms last arms ts

-- a statement that is no `if`, since an `if` after `else` is an arm more
abbrev pub IsOther : Stmt → Type 0
IsOther s = (all : List (Expr × Stmt)) (other : Option Stmt) → s.what ≡ Z.If all other → ⊥

-- the line of a statement, and whether it is closed: an `else` after it would belong to none of its own `if`
pub data StatementLine : (closed : Bool) → StmtKind → List Token → Type 0 where
  block : (ss : List Stmt) (ts : List Token) → In (sign S.LeftBrace ∷ SpellsStmts ss ∷ sign S.RightBrace ∷ []) ts → StatementLine true (Z.Block ss) ts
  declaration : (d : Declaration) (ts : List Token) → SpellsDeclaration d ts → StatementLine true (Z.Declare d) ts
  assignment : (p : Expr) (op : Option BinaryOperator) (e : Expr) (ts : List Token) → In (SpellsPlace p ∷ AssignSign op ∷ Spells e ∷ sign S.Semicolon ∷ []) ts
      → StatementLine true (Z.Assign p op e) ts
  call : (e : Expr) (ts : List Token) → In (SpellsCall e ∷ sign S.Semicolon ∷ []) ts → StatementLine true (Z.Call e) ts
  open_if : (last : Bool) (all : List (Expr × Stmt)) (ts : List Token) → Arms last all ts → StatementLine false (Z.If all None) ts
  if_else : (closed : Bool) (all : List (Expr × Stmt)) (s : Stmt) (ts : List Token) → IsOther s → In (Arms true all ∷ word K.Else ∷ SpellsStmt closed s ∷ []) ts
      → StatementLine closed (Z.If all (Some s)) ts
  while : (closed : Bool) (e : Expr) (s : Stmt) (ts : List Token)
      → In (word K.While ∷ sign S.LeftParen ∷ Spells e ∷ sign S.RightParen ∷ SpellsStmt closed s ∷ []) ts → StatementLine closed (Z.While e s) ts
  for : (closed : Bool) (k : TypeExpr) (n : Placed (List ℕ)) (e : Expr) (s : Stmt) (ts : List Token)
      → In (word K.For ∷ sign S.LeftParen ∷ SpellsType k ∷ Name n ∷ word K.In ∷ Spells e ∷ sign S.RightParen ∷ SpellsStmt closed s ∷ []) ts
      → StatementLine closed (Z.For (record { kind = k; name = n }) e s) ts
  break : (ts : List Token) → In (word K.Break ∷ sign S.Semicolon ∷ []) ts → StatementLine true Z.Break ts
  continue : (ts : List Token) → In (word K.Continue ∷ sign S.Semicolon ∷ []) ts → StatementLine true Z.Continue ts
  return : (ts : List Token) → In (word K.Return ∷ sign S.Semicolon ∷ []) ts → StatementLine true (Z.Return None) ts
  return_value : (e : Expr) (ts : List Token) → In (word K.Return ∷ Spells e ∷ sign S.Semicolon ∷ []) ts → StatementLine true (Z.Return (Some e)) ts
  submit : (e : Expr) (s : Placed (List ℕ)) (ts : List Token)
      → In (word K.Submit ∷ sign S.LeftParen ∷ Spells e ∷ sign S.Comma ∷ Name s ∷ sign S.RightParen ∷ sign S.Semicolon ∷ []) ts
      → StatementLine true (Z.Submit e s) ts

-- a statement is spelled by its line, and placed at its first token
abbrev pub StatementLineLaw : Type 0
StatementLineLaw = (closed : Bool) (s : Stmt) (ts : List Token) → SpellsStmt closed s ts ↔ (StatementLine closed s.what ts × (first ts ≡ Some s.at))

-- the first arm of an `if`
abbrev pub FirstArmLaw : Type 0
FirstArmLaw = (closed : Bool) (e : Expr) (s : Stmt) (ts : List Token) →
    In (word K.If ∷ sign S.LeftParen ∷ Spells e ∷ sign S.RightParen ∷ SpellsStmt closed s ∷ []) ts → Arms closed ((e, s) ∷ []) ts

-- one more
abbrev pub NextArmLaw : Type 0
NextArmLaw = (closed : Bool) (all : List (Expr × Stmt)) (e : Expr) (s : Stmt) (ts : List Token) →
    In (Arms true all ∷ word K.Else ∷ word K.If ∷ sign S.LeftParen ∷ Spells e ∷ sign S.RightParen ∷ SpellsStmt closed s ∷ []) ts → Arms closed (all ++ (e, s) ∷ []) ts

-- the lines of the parts of statements and types
pub record PartLines : Type 0 where
  pub variable : (n : Placed (List ℕ)) (ts : List Token) → Name n ts → SpellsPlace (record { at = n.at; what = X.Name n.what }) ts
  pub taken : (n : Placed (List ℕ)) (s : Step Expr) (ss : List (Step Expr)) (ts : List Token) → In (Name n ∷ Steps (s ∷ ss) ∷ []) ts
      → SpellsPlace (record { at = n.at; what = X.Select (record { at = n.at; what = X.Name n.what }) (s ∷ ss) }) ts
  pub call : (n : Placed (List ℕ)) (es : List Expr) (ts : List Token) → In (Name n ∷ sign S.LeftParen ∷ Elements es ∷ sign S.RightParen ∷ []) ts
      → SpellsCall (record { at = n.at; what = X.Call n.what es }) ts
  pub no_value : SpellsValue None []
  pub value : (e : Expr) (ts : List Token) → In (sign S.Assign ∷ Spells e ∷ []) ts → SpellsValue (Some e) ts
  pub constant : SpellsMutable false []
  pub mutable : (ts : List Token) → word K.Mutable ts → SpellsMutable true ts
  pub declaration : (d : Declaration) (ts : List Token) → SpellsDeclaration d ts
      ↔ In (SpellsMutable d.mutable ∷ SpellsType d.kind ∷ Name d.name ∷ SpellsValue d.value ∷ sign S.Semicolon ∷ []) ts
  pub no_statements : SpellsStmts [] []
  pub statements : (closed : Bool) (ss : List Stmt) (s : Stmt) (ts : List Token) → In (SpellsStmts ss ∷ SpellsStmt closed s ∷ []) ts → SpellsStmts (ss ++ s ∷ []) ts
  pub block : (ss : List Stmt) (ts : List Token) → SpellsBlock ss ts ↔ In (sign S.LeftBrace ∷ SpellsStmts ss ∷ sign S.RightBrace ∷ []) ts
  pub attribute : (k : TypeExpr) (n : Placed (List ℕ)) (ts : List Token) → In (SpellsType k ∷ Name n ∷ []) ts → SpellsAttributes (record { kind = k; name = n } ∷ []) ts
  pub attributes : (xs : List (Attribute TypeExpr)) (k : TypeExpr) (n : Placed (List ℕ)) (ts : List Token)
      → In (SpellsAttributes xs ∷ sign S.Comma ∷ SpellsType k ∷ Name n ∷ []) ts → SpellsAttributes (xs ++ record { kind = k; name = n } ∷ []) ts
  pub type_shape : (k : TypeExpr) (ts : List Token) → SpellsType k ts → SpellsShape (record { at = k.at; what = H.Type k }) ts
  pub shape : (x : Attribute TypeExpr) (xs : List (Attribute TypeExpr)) (ts : List Token) → SpellsAttributes (x ∷ xs) ts
      → SpellsShape (record { at = x.kind.at; what = H.Attributes (x ∷ xs) }) ts
  pub no_parameters : SpellsFunctionParameters [] []
  pub parameters : (xs : List (Attribute TypeExpr)) (ts : List Token) → SpellsAttributes xs ts → SpellsFunctionParameters xs ts

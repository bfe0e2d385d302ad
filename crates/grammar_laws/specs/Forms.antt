-- The forms of statements, definitions and types, by the token with which they begin.
use Rattle.std.specs.Prelude.{ℕ, List, ◌∷◌, Bool, Option}
use Rattle.spl_value.specs.declared.types.IntKind.{IntKind}
use Rattle.spl_tree.specs.declared.keyword.Keyword.TheVariants as K
use Rattle.spl_tree.specs.declared.keyword.LeftOut.{LeftOut}
use Rattle.spl_tree.specs.declared.expression.BinaryOperator.{BinaryOperator}
use Rattle.spl_tree.specs.declared.expression.Placed.{Placed}
use Rattle.spl_tree.specs.declared.shape.Attribute.{Attribute}
use Rattle.spl_tree.specs.declared.shape.TypeKind.{TypeKind}
use Rattle.spl_tree.specs.declared.shape.TypeKind.TheVariants as Y
use Rattle.spl_tree.specs.declared.statement.Declaration.{Declaration}
use Rattle.spl_tree.specs.declared.statement.StmtKind.{StmtKind}
use Rattle.spl_tree.specs.declared.statement.StmtKind.TheVariants as Z
use Rattle.spl_tree.specs.declared.symbol.Symbol.TheVariants as S
use Rattle.spl_tree.specs.declared.token.Token.{Token}
use Rattle.spl_tree.specs.declared.token.TokenKind.{TokenKind}
use Rattle.spl_tree.specs.declared.token.TokenKind.TheVariants as T
use Rattle.spl_tree.specs.declared.unit.Composite.{Composite}
use Rattle.spl_tree.specs.declared.unit.Definition.{Definition}
use Rattle.spl_tree.specs.declared.unit.Definition.TheVariants as D
use Rattle.spl_tree.specs.declared.unit.FunctionDefinition.{FunctionDefinition}
use Rattle.spl_tree.specs.declared.unit.TypeDefinition.{TypeDefinition}
use Rattle.spl_tree.specs.Grammar.{Spells, AType, Statement, ADefinition}
use Rattle.spl_tree.specs.Trees.{Expr, Stmt, TypeExpr}

-- ---- types

-- a type that begins with such a token
pub data IsTypeForm : TokenKind → TypeKind → Type 0 where
  boolean : IsTypeForm (T.Keyword K.Boolean) Y.Boolean
  rstring : IsTypeForm (T.Keyword K.Rstring) Y.Rstring
  integer : (k : IntKind) → IsTypeForm (T.Keyword (K.Int k)) (Y.Int k)
  left_out : (w : LeftOut) → IsTypeForm (T.Keyword (K.LeftOut w)) (Y.LeftOut w)
  name : (n : List ℕ) → IsTypeForm (T.Word n) (Y.Name n)
  list : (e : TypeExpr) → IsTypeForm (T.Keyword K.List) (Y.List e)
  map : (k v : TypeExpr) → IsTypeForm (T.Keyword K.Map) (Y.Map k v)
  tuple : (xs : List (Attribute TypeExpr)) → IsTypeForm (T.Keyword K.Tuple) (Y.Tuple xs)

abbrev pub TypeFormLaw : Type 0
TypeFormLaw = (k : TypeExpr) (t : Token) (ts : List Token) → Spells (AType k) (t ∷ ts) → IsTypeForm t.kind k.what

-- a token with which a type begins
pub record BeginsType (first : TokenKind) : Type 0 where
  pub kind : TypeKind
  pub form : IsTypeForm first kind

-- ---- statements

pub data IsForm : TokenKind → StmtKind → Type 0 where
  block : (ss : List Stmt) → IsForm (T.Symbol S.LeftBrace) (Z.Block ss)
  if : (arms : List (Expr × Stmt)) (other : Option Stmt) → IsForm (T.Keyword K.If) (Z.If arms other)
  while : (e : Expr) (s : Stmt) → IsForm (T.Keyword K.While) (Z.While e s)
  for : (x : Attribute TypeExpr) (e : Expr) (s : Stmt) → IsForm (T.Keyword K.For) (Z.For x e s)
  break : IsForm (T.Keyword K.Break) Z.Break
  continue : IsForm (T.Keyword K.Continue) Z.Continue
  return : (v : Option Expr) → IsForm (T.Keyword K.Return) (Z.Return v)
  submit : (e : Expr) (stream : Placed (List ℕ)) → IsForm (T.Keyword K.Submit) (Z.Submit e stream)
  mutable : (d : Declaration) → IsForm (T.Keyword K.Mutable) (Z.Declare d)
  declaration : (first : TokenKind) (d : Declaration) → BeginsType first → IsForm first (Z.Declare d)
  assignment : (n : List ℕ) (place : Expr) (op : Option BinaryOperator) (e : Expr) → IsForm (T.Word n) (Z.Assign place op e)
  call : (n : List ℕ) (e : Expr) → IsForm (T.Word n) (Z.Call e)

-- a statement has a form that its first token allows
abbrev pub FormLaw : Type 0
FormLaw = (closed : Bool) (s : Stmt) (t : Token) (ts : List Token) → Spells (Statement closed s) (t ∷ ts) → IsForm t.kind s.what

-- ---- definitions

pub data IsDefinitionForm : TokenKind → Definition → Type 0 where
  a_type : (x : TypeDefinition) → IsDefinitionForm (T.Keyword K.Type) (D.Type x)
  composite : (x : Composite) → IsDefinitionForm (T.Keyword K.Composite) (D.Composite x)
  public : (x : Composite) → IsDefinitionForm (T.Keyword K.Public) (D.Composite x)
  void : (x : FunctionDefinition) → IsDefinitionForm (T.Keyword K.Void) (D.Function x)
  function : (first : TokenKind) (x : FunctionDefinition) → BeginsType first → IsDefinitionForm first (D.Function x)

abbrev pub DefinitionFormLaw : Type 0
DefinitionFormLaw = (d : Definition) (t : Token) (ts : List Token) → Spells (ADefinition d) (t ∷ ts) → IsDefinitionForm t.kind d

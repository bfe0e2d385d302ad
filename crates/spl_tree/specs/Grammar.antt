-- The grammar. A phrase is a token, or is made of other phrases, one after another, as a line of the grammar says. A
-- tree is placed at its first token.
use Rattle.std.specs.Prelude.{◌≡◌, ℕ, suc, Bool, true, false, List, [], ◌∷◌, ◌++◌, Option, Some, None}
use Rattle.spl_value.specs.declared.types.IntKind.{IntKind}
use Rattle.spl_tree.specs.declared.expression.BinaryOperator.{BinaryOperator}
use Rattle.spl_tree.specs.declared.expression.CastTarget.{CastTarget}
use Rattle.spl_tree.specs.declared.expression.ExprKind.TheVariants as X
use Rattle.spl_tree.specs.declared.expression.Field.{Field}
use Rattle.spl_tree.specs.declared.expression.Placed.{Placed}
use Rattle.spl_tree.specs.declared.expression.PrefixOperator.{PrefixOperator}
use Rattle.spl_tree.specs.declared.expression.PrefixOperator.TheVariants as P
use Rattle.spl_tree.specs.declared.expression.Step.{Step}
use Rattle.spl_tree.specs.declared.expression.Step.TheVariants as N
use Rattle.spl_tree.specs.declared.keyword.Keyword.{Keyword}
use Rattle.spl_tree.specs.declared.keyword.Keyword.TheVariants as K
use Rattle.spl_tree.specs.declared.keyword.LeftOut.{LeftOut}
use Rattle.spl_tree.specs.declared.shape.Attribute.{Attribute}
use Rattle.spl_tree.specs.declared.shape.ShapeKind.TheVariants as H
use Rattle.spl_tree.specs.declared.shape.TypeKind.TheVariants as Y
use Rattle.spl_tree.specs.declared.statement.Declaration.{Declaration}
use Rattle.spl_tree.specs.declared.statement.StmtKind.TheVariants as Z
use Rattle.spl_tree.specs.declared.symbol.Symbol.{Symbol}
use Rattle.spl_tree.specs.declared.symbol.Symbol.TheVariants as S
use Rattle.spl_tree.specs.declared.token.Number.{Number}
use Rattle.spl_tree.specs.declared.token.Token.{Token}
use Rattle.spl_tree.specs.declared.token.TokenKind.{TokenKind}
use Rattle.spl_tree.specs.declared.token.TokenKind.TheVariants as T
use Rattle.spl_tree.specs.declared.unit.Clauses.{Clauses}
use Rattle.spl_tree.specs.declared.unit.Composite.{Composite}
use Rattle.spl_tree.specs.declared.unit.CompositeParameter.{CompositeParameter}
use Rattle.spl_tree.specs.declared.unit.Definition.{Definition}
use Rattle.spl_tree.specs.declared.unit.Definition.TheVariants as D
use Rattle.spl_tree.specs.declared.unit.FunctionDefinition.{FunctionDefinition}
use Rattle.spl_tree.specs.declared.unit.HandledEvent.{HandledEvent}
use Rattle.spl_tree.specs.declared.unit.HandledEvent.TheVariants as V
use Rattle.spl_tree.specs.declared.unit.Handler.{Handler}
use Rattle.spl_tree.specs.declared.unit.HeadPort.{HeadPort}
use Rattle.spl_tree.specs.declared.unit.InputPort.{InputPort}
use Rattle.spl_tree.specs.declared.unit.Invocation.{Invocation}
use Rattle.spl_tree.specs.declared.unit.Logic.{Logic}
use Rattle.spl_tree.specs.declared.unit.OutputAssignments.{OutputAssignments}
use Rattle.spl_tree.specs.declared.unit.OutputStream.{OutputStream}
use Rattle.spl_tree.specs.declared.unit.Parameter.{Parameter}
use Rattle.spl_tree.specs.declared.unit.PortWindow.{PortWindow}
use Rattle.spl_tree.specs.declared.unit.TypeDefinition.{TypeDefinition}
use Rattle.spl_tree.specs.declared.unit.WindowPart.{WindowPart}
use Rattle.spl_tree.specs.Operators.{assignment_of, binary_of, level, prefix_of, target_of}
use Rattle.spl_tree.specs.Trees.{Expr, Prefix, TypeExpr, Shape, Stmt, IsNoIf, placed}

-- ---- phrases

pub data Phrase : Type 0 where
  -- that token
  OneToken : TokenKind → Phrase
  -- the phrase, whose first token begins at that place
  At : ℕ → Phrase → Phrase
  -- the phrase, or no token
  Optional : Phrase → Phrase
  -- a primary expression; one with the members and elements taken of it; a prefix operator or a cast; an operand with
  -- those before it; an expression whose operators between operands are of the levels up to this one, of nine; any one
  Primary : Expr → Phrase
  Operand : Expr → Phrase
  InFront : Prefix → Phrase
  Unary : Expr → Phrase
  Level : ℕ → Expr → Phrase
  Expression : Expr → Phrase
  -- types; and shapes, which are types or the attributes of a tuple type
  AType : TypeExpr → Phrase
  AShape : Shape → Phrase
  -- what an assignment changes, and the declaration of a variable
  Place : Expr → Phrase
  Variable : Declaration → Phrase
  -- a statement, closed where an `else` right after it can belong to no `if` within it; and one that is closed or not
  Statement : (closed : Bool) → Stmt → Phrase
  AnyStatement : Stmt → Phrase
  -- the conditions of an `if` at a place and of each `else if` after it, with their statements, of which the last one
  -- is closed or not
  Arms : (closed : Bool) → ℕ → List (Expr × Stmt) → Phrase
  -- an invocation, and its parts: the streams that it makes, with an alias; an input port; the variables of its state;
  -- the window of a port; the assignments of an output; a parameter; and the clauses, or `;`
  AnInvocation : Invocation → Phrase
  Head : List OutputStream → Option (Placed (List ℕ)) → Phrase
  Input : InputPort → Phrase
  States : List Declaration → Phrase
  Windows : PortWindow → Phrase
  Assignments : OutputAssignments → Phrase
  AParameter : Parameter → Phrase
  Ending : Clauses → Phrase
  -- the ports of a composite, or none; the definition of a type, a function or a composite; a `namespace` line, or
  -- none; a program
  Ports : (outputs inputs : List HeadPort) → Phrase
  ADefinition : Definition → Phrase
  Namespace : Phrase
  Program : List Definition → Phrase

abbrev pub Sign : Symbol → Phrase
Sign s = OneToken (T.Symbol s)

abbrev pub Word : Keyword → Phrase
Word k = OneToken (T.Keyword k)

abbrev pub Name : Placed (List ℕ) → Phrase
Name n = At n.at (OneToken (T.Word n.what))

-- ---- phrases one after another

-- one phrase
abbrev pub alone : {A : Type 0} → (A → Phrase) → A → List Phrase
alone f x = f x ∷ []

abbrev pub maybe : {A : Type 0} → (A → List Phrase) → Option A → List Phrase
maybe f None = []
maybe f (Some x) = f x

-- the phrases of each element, one after another
abbrev pub row : {A : Type 0} → (A → List Phrase) → List A → List Phrase
row f [] = []
row f (x ∷ xs) = f x ++ row f xs

-- the same with that symbol between two of them
abbrev pub separated : {A : Type 0} → Symbol → (A → List Phrase) → List A → List Phrase
separated s f [] = []
separated s f (x ∷ []) = f x
separated s f (x ∷ y ∷ xs) = f x ++ Sign s ∷ separated s f (y ∷ xs)

abbrev pub in_parens : List Phrase → List Phrase
in_parens ps = Sign S.LeftParen ∷ (ps ++ Sign S.RightParen ∷ [])

abbrev pub in_braces : List Phrase → List Phrase
in_braces ps = Sign S.LeftBrace ∷ (ps ++ Sign S.RightBrace ∷ [])

-- ---- parts of lines

abbrev pub expressions : List Expr → List Phrase
expressions = separated S.Comma (alone Expression)

abbrev pub entry : Expr × Expr → List Phrase
entry e = Expression e.0 ∷ Sign S.Colon ∷ Expression e.1 ∷ []

abbrev pub field : Field Expr → List Phrase
field f = Name f.name ∷ Sign S.Assign ∷ Expression f.value ∷ []

-- `.name` and `[index]`
abbrev pub step : Step Expr → List Phrase
step (N.Member n) = Sign S.Dot ∷ Name n ∷ []
step (N.Index e) = Sign S.LeftBracket ∷ Expression e ∷ Sign S.RightBracket ∷ []

-- a name, and arguments in parentheses
abbrev pub call_of : Placed (List ℕ) → List Expr → List Phrase
call_of n es = Name n ∷ in_parens (expressions es)

abbrev pub attribute : Attribute TypeExpr → List Phrase
attribute x = AType x.kind ∷ Name x.name ∷ []

abbrev pub attributes : List (Attribute TypeExpr) → List Phrase
attributes = separated S.Comma attribute

abbrev pub block : List Stmt → List Phrase
block ss = in_braces (row (alone AnyStatement) ss)

abbrev pub condition : Expr → List Phrase
condition e = in_parens (Expression e ∷ [])

abbrev pub mutable_word : Bool → List Phrase
mutable_word false = []
mutable_word true = Word K.Mutable ∷ []

abbrev pub stream : Shape → List Phrase
stream h = Word K.Stream ∷ Sign S.Less ∷ AShape h ∷ Sign S.Greater ∷ []

abbrev pub output : OutputStream → List Phrase
output x = stream x.shape ++ Name x.name ∷ []

abbrev pub alias : Option (Placed (List ℕ)) → List Phrase
alias = maybe (λ n. Word K.As ∷ Name n ∷ [])

-- a clause: its word, and what follows in a row. Where nothing follows, the word may be left out
abbrev pub clause : {A : Type 0} → Keyword → (A → List Phrase) → List A → List Phrase
clause k f [] = Optional (Word k) ∷ []
clause k f (x ∷ xs) = Word k ∷ row f (x ∷ xs)

-- a clause that is placed where its word stands: where there is none, no word; where nothing follows, the word alone
abbrev pub placed_clause : {A : Type 0} → Keyword → (A → List Phrase) → Option (Placed (List A)) → List Phrase
placed_clause k f = maybe (λ c. At c.at (Word k) ∷ row f c.what)

abbrev pub event_word : HandledEvent → Keyword
event_word V.Tuple = K.OnTuple
event_word V.Punctuation = K.OnPunct

abbrev pub handler : Placed Handler → List Phrase
handler h = At h.at (Word (event_word h.what.event)) ∷ Name h.what.port ∷ Sign S.Colon ∷ block h.what.body

abbrev pub logic : Placed Logic → List Phrase
logic l = At l.at (Word K.Logic) ∷ States l.what.state ∷ row handler l.what.handlers

abbrev pub window_part : WindowPart → List Phrase
window_part w = Name w.name ∷ maybe (λ es. in_parens (expressions es)) w.arguments

abbrev pub clauses : Clauses → List Phrase
clauses x =
    maybe logic x.logic ++ (placed_clause K.Window (alone Windows) x.window
    ++ (clause K.Param (alone AParameter) x.parameters
    ++ (placed_clause K.Output (alone Assignments) x.output ++ clause K.Config (alone AParameter) x.config)))

abbrev pub head_port : HeadPort → List Phrase
head_port p = maybe stream p.shape ++ Name p.name ∷ []

abbrev pub ports : Keyword → List HeadPort → List Phrase
ports k ps = Word k ∷ separated S.Comma head_port ps

abbrev pub composite_parameter : CompositeParameter → List Phrase
composite_parameter p =
    Word K.Expression ∷ Sign S.Less ∷ AType p.kind ∷ Sign S.Greater ∷ At p.name.at (OneToken (T.Dollar p.name.what))
    ∷ (maybe (λ e. Sign S.Colon ∷ Expression e ∷ []) p.default ++ Sign S.Semicolon ∷ [])

abbrev pub type_definition : TypeDefinition → List Phrase
type_definition x = Name x.name ∷ Sign S.Assign ∷ AShape x.shape ∷ Sign S.Semicolon ∷ []

abbrev pub result_type : Option TypeExpr → List Phrase
result_type None = Word K.Void ∷ []
result_type (Some k) = AType k ∷ []

-- ---- lines

-- the phrase may be made of those, one after another
pub data Line : Phrase → List Phrase → Type 0 where
  absent : (p : Phrase) → Line (Optional p) []
  present : (p : Phrase) → Line (Optional p) (p ∷ [])
  -- expressions
  name : (n : Placed (List ℕ)) → Line (Primary (placed n.at (X.Name n.what))) (Name n ∷ [])
  dollar : (at : ℕ) (n : List ℕ) → Line (Primary (placed at (X.Dollar n))) (At at (OneToken (T.Dollar n)) ∷ [])
  number : (at : ℕ) (n : Number) → Line (Primary (placed at (X.Number n))) (At at (OneToken (T.Number n)) ∷ [])
  text : (at : ℕ) (bytes : List ℕ) → Line (Primary (placed at (X.Text bytes))) (At at (OneToken (T.Text bytes)) ∷ [])
  yes : (at : ℕ) → Line (Primary (placed at (X.Bool true))) (At at (Word K.True) ∷ [])
  no : (at : ℕ) → Line (Primary (placed at (X.Bool false))) (At at (Word K.False) ∷ [])
  call : (n : Placed (List ℕ)) (es : List Expr) → Line (Primary (placed n.at (X.Call n.what es))) (call_of n es)
  group : (at : ℕ) (e : Expr)
      → Line (Primary (placed at (X.Group e))) (At at (Sign S.LeftParen) ∷ Expression e ∷ Sign S.RightParen ∷ [])
  list : (at : ℕ) (es : List Expr)
      → Line (Primary (placed at (X.List es)))
      (At at (Sign S.LeftBracket) ∷ (expressions es ++ Sign S.RightBracket ∷ []))
  map : (at : ℕ) (es : List (Expr × Expr)) → Line (Primary (placed at (X.Map es)))
      (At at (Sign S.LeftBrace) ∷ (separated S.Comma entry es ++ Sign S.RightBrace ∷ []))
  tuple : (at : ℕ) (f : Field Expr) (fs : List (Field Expr))
      → Line (Primary (placed at (X.Tuple (f ∷ fs))))
      (At at (Sign S.LeftBrace) ∷ (separated S.Comma field (f ∷ fs) ++ Sign S.RightBrace ∷ []))
  primary : (e : Expr) → Line (Operand e) (Primary e ∷ [])
  select : (e : Expr) (s : Step Expr) (ss : List (Step Expr))
      → Line (Operand (placed e.at (X.Select e (s ∷ ss)))) (Primary e ∷ row step (s ∷ ss))
  operator : (at : ℕ) (kind : TokenKind) (p : PrefixOperator) → prefix_of kind ≡ Some p
      → Line (InFront (placed at p)) (At at (OneToken kind) ∷ [])
  cast : (at : ℕ) (kind : TokenKind) (target : CastTarget) → target_of kind ≡ Some target
      → Line (InFront (placed at (P.Cast target))) (At at (Sign S.LeftParen) ∷ OneToken kind ∷ Sign S.RightParen ∷ [])
  operand : (e : Expr) → Line (Unary e) (Operand e ∷ [])
  prefixed : (p : Prefix) (ps : List Prefix) (e : Expr)
      → Line (Unary (placed p.at (X.Unary (p ∷ ps) e))) (row (alone InFront) (p ∷ ps) ++ Operand e ∷ [])
  unary : (e : Expr) → Line (Level 0 e) (Unary e ∷ [])
  tighter : (k : ℕ) (e : Expr) → Line (Level (suc k) e) (Level k e ∷ [])
  -- operators of one level group to the left
  binary : (k : ℕ) (l r : Expr) (op : BinaryOperator) (kind : TokenKind) → binary_of kind ≡ Some op → level op ≡ suc k
      → Line (Level (suc k) (placed l.at (X.Binary op l r))) (Level (suc k) l ∷ OneToken kind ∷ Level k r ∷ [])
  whole : (e : Expr) → Line (Expression e) (Level 9 e ∷ [])
  -- a conditional groups to the right
  conditional : (c x y : Expr) → Line (Expression (placed c.at (X.Conditional c x y)))
      (Level 9 c ∷ Sign S.Question ∷ Expression x ∷ Sign S.Colon ∷ Expression y ∷ [])
  -- types and shapes
  boolean : (at : ℕ) → Line (AType (placed at Y.Boolean)) (At at (Word K.Boolean) ∷ [])
  rstring : (at : ℕ) → Line (AType (placed at Y.Rstring)) (At at (Word K.Rstring) ∷ [])
  integer : (at : ℕ) (k : IntKind) → Line (AType (placed at (Y.Int k))) (At at (Word (K.Int k)) ∷ [])
  left_out : (at : ℕ) (w : LeftOut) → Line (AType (placed at (Y.LeftOut w))) (At at (Word (K.LeftOut w)) ∷ [])
  named : (n : Placed (List ℕ)) → Line (AType (placed n.at (Y.Name n.what))) (Name n ∷ [])
  list_of : (at : ℕ) (k : TypeExpr)
      → Line (AType (placed at (Y.List k))) (At at (Word K.List) ∷ Sign S.Less ∷ AType k ∷ Sign S.Greater ∷ [])
  map_of : (at : ℕ) (k v : TypeExpr)
      → Line (AType (placed at (Y.Map k v))) (At at (Word K.Map) ∷ Sign S.Less
      ∷ AType k ∷ Sign S.Comma ∷ AType v ∷ Sign S.Greater ∷ [])
  tuple_of : (at : ℕ) (x : Attribute TypeExpr) (xs : List (Attribute TypeExpr))
      → Line (AType (placed at (Y.Tuple (x ∷ xs))))
      (At at (Word K.Tuple) ∷ Sign S.Less ∷ (attributes (x ∷ xs) ++ Sign S.Greater ∷ []))
  of_type : (k : TypeExpr) → Line (AShape (placed k.at (H.Type k))) (AType k ∷ [])
  of_attributes : (x : Attribute TypeExpr) (xs : List (Attribute TypeExpr))
      → Line (AShape (placed x.kind.at (H.Attributes (x ∷ xs)))) (attributes (x ∷ xs))
  -- statements
  variable : (n : Placed (List ℕ)) → Line (Place (placed n.at (X.Name n.what))) (Name n ∷ [])
  taken : (n : Placed (List ℕ)) (s : Step Expr) (ss : List (Step Expr))
      → Line (Place (placed n.at (X.Select (placed n.at (X.Name n.what)) (s ∷ ss)))) (Name n ∷ row step (s ∷ ss))
  declaration : (d : Declaration)
      → Line (Variable d) (mutable_word d.mutable ++
      (AType d.kind ∷ Name d.name ∷ (maybe (λ e. Sign S.Assign ∷ Expression e ∷ []) d.value ++ Sign S.Semicolon ∷ [])))
  any : (closed : Bool) (s : Stmt) → Line (AnyStatement s) (Statement closed s ∷ [])
  compound : (at : ℕ) (ss : List Stmt) → Line (Statement true (placed at (Z.Block ss)))
      (At at (Sign S.LeftBrace) ∷ (row (alone AnyStatement) ss ++ Sign S.RightBrace ∷ []))
  declare : (at : ℕ) (d : Declaration) → Line (Statement true (placed at (Z.Declare d))) (At at (Variable d) ∷ [])
  assign : (p e : Expr) (op : Option BinaryOperator) (kind : TokenKind) → assignment_of kind ≡ Some op
      → Line (Statement true (placed p.at (Z.Assign p op e)))
      (Place p ∷ OneToken kind ∷ Expression e ∷ Sign S.Semicolon ∷ [])
  call_alone : (n : Placed (List ℕ)) (es : List Expr)
      → Line (Statement true (placed n.at (Z.Call (placed n.at (X.Call n.what es)))))
      (call_of n es ++ Sign S.Semicolon ∷ [])
  -- an `else` belongs to the nearest `if`, so what stands before one is closed; an `if` right after it is one more arm
  if_alone : (last : Bool) (at : ℕ) (arms : List (Expr × Stmt))
      → Line (Statement false (placed at (Z.If arms None))) (Arms last at arms ∷ [])
  if_else : (closed : Bool) (at : ℕ) (arms : List (Expr × Stmt)) (s : Stmt) → IsNoIf s
      → Line (Statement closed (placed at (Z.If arms (Some s))))
      (Arms true at arms ∷ Word K.Else ∷ Statement closed s ∷ [])
  first_arm : (closed : Bool) (at : ℕ) (e : Expr) (s : Stmt)
      → Line (Arms closed at ((e, s) ∷ [])) (At at (Word K.If) ∷ (condition e ++ Statement closed s ∷ []))
  next_arm : (closed : Bool) (at : ℕ) (arms : List (Expr × Stmt)) (e : Expr) (s : Stmt)
      → Line (Arms closed at (arms ++ (e, s) ∷ []))
      (Arms true at arms ∷ Word K.Else ∷ Word K.If ∷ (condition e ++ Statement closed s ∷ []))
  while : (closed : Bool) (at : ℕ) (e : Expr) (s : Stmt)
      → Line (Statement closed (placed at (Z.While e s)))
      (At at (Word K.While) ∷ (condition e ++ Statement closed s ∷ []))
  for : (closed : Bool) (at : ℕ) (x : Attribute TypeExpr) (e : Expr) (s : Stmt)
      → Line (Statement closed (placed at (Z.For x e s))) (At at (Word K.For)
      ∷ (in_parens (AType x.kind ∷ Name x.name ∷ Word K.In ∷ Expression e ∷ []) ++ Statement closed s ∷ []))
  break : (at : ℕ) → Line (Statement true (placed at Z.Break)) (At at (Word K.Break) ∷ Sign S.Semicolon ∷ [])
  continue : (at : ℕ) → Line (Statement true (placed at Z.Continue)) (At at (Word K.Continue) ∷ Sign S.Semicolon ∷ [])
  return : (at : ℕ) (v : Option Expr) → Line (Statement true (placed at (Z.Return v)))
      (At at (Word K.Return) ∷ (maybe (alone Expression) v ++ Sign S.Semicolon ∷ []))
  submit : (at : ℕ) (e : Expr) (n : Placed (List ℕ))
      → Line (Statement true (placed at (Z.Submit e n)))
      (At at (Word K.Submit) ∷ (in_parens (Expression e ∷ Sign S.Comma ∷ Name n ∷ []) ++ Sign S.Semicolon ∷ []))
  -- invocations: a stream alone, or streams in parentheses, and perhaps an alias; or no stream, and then an alias
  one_stream : (x : OutputStream) (l : Option (Placed (List ℕ))) → Line (Head (x ∷ []) l) (output x ++ alias l)
  streams : (x : OutputStream) (xs : List OutputStream) (l : Option (Placed (List ℕ)))
      → Line (Head (x ∷ xs) l) (in_parens (separated S.Semicolon output (x ∷ xs)) ++ alias l)
  no_stream : (n : Placed (List ℕ)) → Line (Head [] (Some n)) (in_parens [] ++ alias (Some n))
  input : (n : Placed (List ℕ)) (ns : List (Placed (List ℕ))) (l : Option (Placed (List ℕ)))
      → Line (Input (record { streams = n ∷ ns; alias = l })) (separated S.Comma (alone Name) (n ∷ ns) ++ alias l)
  no_state : Line (States []) []
  one_variable : (d : Declaration) → Line (States (d ∷ [])) (Word K.State ∷ Sign S.Colon ∷ Variable d ∷ [])
  variables : (ds : List Declaration)
      → Line (States ds) (Word K.State ∷ Sign S.Colon ∷ in_braces (row (alone Variable) ds))
  port_window : (n : Placed (List ℕ)) (w : WindowPart) (ws : List WindowPart)
      → Line (Windows (record { port = n; parts = w ∷ ws }))
      (Name n ∷ Sign S.Colon ∷ (separated S.Comma window_part (w ∷ ws) ++ Sign S.Semicolon ∷ []))
  assignments : (n : Placed (List ℕ)) (f : Field Expr) (fs : List (Field Expr))
      → Line (Assignments (record { stream = n; assignments = f ∷ fs }))
      (Name n ∷ Sign S.Colon ∷ (separated S.Comma field (f ∷ fs) ++ Sign S.Semicolon ∷ []))
  parameter : (n : Placed (List ℕ)) (e : Expr) (es : List Expr)
      → Line (AParameter (record { name = n; values = e ∷ es }))
      (Name n ∷ Sign S.Colon ∷ (expressions (e ∷ es) ++ Sign S.Semicolon ∷ []))
  no_clauses : Line (Ending (record { logic = None; window = None; parameters = []; output = None; config = [] }))
      (Sign S.Semicolon ∷ [])
  with_clauses : (x : Clauses) → Line (Ending x) (in_braces (clauses x))
  invocation : (v : Invocation) → Line (AnInvocation v)
      (At v.at (Head v.outputs v.alias) ∷ Sign S.Assign ∷ Name v.operator
      ∷ (in_parens (separated S.Semicolon (alone Input) v.inputs) ++ Ending v.clauses ∷ []))
  -- definitions: the ports of a composite are outputs, inputs, both in either order, or none; `public` says nothing
  no_ports : Line (Ports [] []) []
  outputs_alone : (u : HeadPort) (us : List HeadPort) → Line (Ports (u ∷ us) []) (in_parens (ports K.Output (u ∷ us)))
  inputs_alone : (i : HeadPort) (is : List HeadPort) → Line (Ports [] (i ∷ is)) (in_parens (ports K.Input (i ∷ is)))
  outputs_first : (u i : HeadPort) (us is : List HeadPort)
      → Line (Ports (u ∷ us) (i ∷ is)) (in_parens
      (ports K.Output (u ∷ us) ++ Sign S.Semicolon ∷ ports K.Input (i ∷ is)))
  inputs_first : (u i : HeadPort) (us is : List HeadPort)
      → Line (Ports (u ∷ us) (i ∷ is)) (in_parens
      (ports K.Input (i ∷ is) ++ Sign S.Semicolon ∷ ports K.Output (u ∷ us)))
  composite : (c : Composite) → Line (ADefinition (D.Composite c))
      (Optional (Word K.Public) ∷ Word K.Composite ∷ Name c.name ∷ Ports c.outputs c.inputs
      ∷ in_braces (clause K.Param composite_parameter c.parameters
      ++ (clause K.Type type_definition c.types ++
      (clause K.Graph (alone AnInvocation) c.graph ++ clause K.Config (alone AParameter) c.config))))
  typedef : (x : TypeDefinition) → Line (ADefinition (D.Type x)) (Word K.Type ∷ type_definition x)
  function : (f : FunctionDefinition)
      → Line (ADefinition (D.Function f)) (result_type f.result
      ++ (Name f.name ∷ (in_parens (attributes f.parameters) ++ block f.body)))
  no_namespace : Line Namespace []
  namespace : (n : Placed (List ℕ)) (ns : List (Placed (List ℕ)))
      → Line Namespace (Word K.Namespace ∷ (separated S.Dot (alone Name) (n ∷ ns) ++ Sign S.Semicolon ∷ []))
  program : (ds : List Definition) → Line (Program ds) (Namespace ∷ row (alone ADefinition) ds)

-- ---- which tokens spell a phrase

mutual
  pub data Spells : Phrase → List Token → Type 0 where
    token : (t : Token) (kind : TokenKind) → t.kind ≡ kind → Spells (OneToken kind) (t ∷ [])
    at_place : (p : Phrase) (t : Token) (a : List Token) → Spells p (t ∷ a) → Spells (At t.start p) (t ∷ a)
    by_line : (p : Phrase) (ps : List Phrase) (a : List Token) → Line p ps → SpellsAll ps a → Spells p a

  -- these phrases, one after another
  pub data SpellsAll : List Phrase → List Token → Type 0 where
    none : SpellsAll [] []
    more : (p : Phrase) (ps : List Phrase) (a b : List Token) → Spells p a → SpellsAll ps b → SpellsAll (p ∷ ps) (a ++ b)

-- Which tokens spell a program, with all that it declares, by a relation for each kind of phrase.
use Rattle.std.specs.Prelude.{◌≡◌, ℕ, List, [], ◌∷◌, ◌++◌, Option, Some, None}
use Rattle.spl_tree.specs.declared.expression.Field.{Field}
use Rattle.spl_tree.specs.declared.expression.Placed.{Placed}
use Rattle.spl_tree.specs.declared.keyword.Keyword.{Keyword}
use Rattle.spl_tree.specs.declared.keyword.Keyword.TheVariants as K
use Rattle.spl_tree.specs.declared.shape.Attribute.{Attribute}
use Rattle.spl_tree.specs.declared.statement.Declaration.{Declaration}
use Rattle.spl_tree.specs.declared.symbol.Symbol.TheVariants as S
use Rattle.spl_tree.specs.declared.token.Token.{Token}
use Rattle.spl_tree.specs.declared.token.TokenKind.TheVariants as T
use Rattle.spl_tree.specs.declared.unit.Clauses.{Clauses}
use Rattle.spl_tree.specs.declared.unit.Composite.{Composite}
use Rattle.spl_tree.specs.declared.unit.CompositeParameter.{CompositeParameter}
use Rattle.spl_tree.specs.declared.unit.Definition.{Definition}
use Rattle.spl_tree.specs.declared.unit.Definition.TheVariants as D
use Rattle.spl_tree.specs.declared.unit.FunctionDefinition.{FunctionDefinition}
use Rattle.spl_tree.specs.declared.unit.HandledEvent.{HandledEvent}
use Rattle.spl_tree.specs.declared.unit.HandledEvent.TheVariants as V
use Rattle.spl_tree.specs.declared.unit.Handler.{Handler}
use Rattle.spl_tree.specs.declared.unit.HeadPort.{HeadPort}
use Rattle.spl_tree.specs.declared.unit.InputPort.{InputPort}
use Rattle.spl_tree.specs.declared.unit.Invocation.{Invocation}
use Rattle.spl_tree.specs.declared.unit.Logic.{Logic}
use Rattle.spl_tree.specs.declared.unit.OutputStream.{OutputStream}
use Rattle.spl_tree.specs.declared.unit.Parameter.{Parameter}
use Rattle.spl_tree.specs.declared.unit.PortWindow.{PortWindow}
use Rattle.spl_tree.specs.declared.unit.OutputAssignments.{OutputAssignments}
use Rattle.spl_tree.specs.declared.unit.TypeDefinition.{TypeDefinition}
use Rattle.spl_tree.specs.declared.unit.WindowPart.{WindowPart}
use Rattle.spl_tree.specs.Trees.{Expr, placed, Stmt, TypeExpr, Shape}
use Rattle.spl_tree.specs.spellings.Grammar.{Is, Names, Elements, Items, Fields, Spells}
use Rattle.spl_tree.specs.spellings.Phrases.{IsKeyword, Phrase, Row, Separated, Listed}
use Rattle.spl_tree.specs.spellings.StatementGrammar.{SpellsDeclaration, SpellsBlock, BeginsAt}
use Rattle.spl_tree.specs.spellings.TypeGrammar.{SpellsType, SpellsShape, SpellsFunctionParameters}

-- ---- parts

pub data SpellsName : Placed (List ℕ) → List Token → Type 0 where
  name : (t : Token) (n : List ℕ) → Names n t → SpellsName (placed t.start n) (t ∷ [])

-- the name that an operator or a port is given, or none
pub data SpellsAlias : Option (Placed (List ℕ)) → List Token → Type 0 where
  no_alias : SpellsAlias None []
  alias : (k t : Token) (n : List ℕ) → IsKeyword K.As k → Names n t → SpellsAlias (Some (placed t.start n)) (k ∷ t ∷ [])

-- a name and its shape
pub data SpellsTypeDefinition : TypeDefinition → List Token → Type 0 where
  type_definition : (t q s : Token) (n : List ℕ) (h : Shape) (a : List Token) → Names n t → Is S.Assign q → SpellsShape h a → Is S.Semicolon s
      → SpellsTypeDefinition (record { name = placed t.start n; shape = h }) (t ∷ q ∷ (a ++ s ∷ []))

-- a name and its values
pub data SpellsParameter : Parameter → List Token → Type 0 where
  parameter : (t c s : Token) (n : List ℕ) (es : List Expr) (a : List Token) → Names n t → Is S.Colon c → Items es a → Is S.Semicolon s
      → SpellsParameter (record { name = placed t.start n; values = es }) (t ∷ c ∷ (a ++ s ∷ []))

-- a clause: its word, and what follows in a row; or neither
pub data Clause {A : Type 0} (k : Keyword) (P : Phrase A) : List A → List Token → Type 0 where
  no_clause : Clause k P [] []
  clause : (t : Token) (xs : List A) (a : List Token) → IsKeyword k t → Row P xs a → Clause k P xs (t ∷ a)

-- such a clause, placed at its word where it stands there
pub data PlacedClause {A : Type 0} (k : Keyword) (P : Phrase A) : Option (Placed (List A)) → List Token → Type 0 where
  absent : PlacedClause k P None []
  placed_clause : (t : Token) (xs : List A) (a : List Token) → IsKeyword k t → Row P xs a → PlacedClause k P (Some (placed t.start xs)) (t ∷ a)

-- ---- invocations

-- `stream<shape>`
pub data SpellsStream : Shape → List Token → Type 0 where
  stream : (t o c : Token) (h : Shape) (a : List Token) → IsKeyword K.Stream t → Is S.Less o → SpellsShape h a → Is S.Greater c → SpellsStream h (t ∷ o ∷ (a ++ c ∷ []))

pub data SpellsOutputStream : OutputStream → List Token → Type 0 where
  output : (h : Shape) (t : Token) (n : List ℕ) (a : List Token) → SpellsStream h a → Names n t → SpellsOutputStream (record { shape = h; name = placed t.start n }) (a ++ t ∷ [])

-- the streams that an invocation makes, and its alias: a stream alone, or streams in parentheses, and perhaps an alias; or
-- no stream, and then an alias
pub data SpellsHead : List OutputStream → Option (Placed (List ℕ)) → List Token → Type 0 where
  one_stream : (x : OutputStream) (l : Option (Placed (List ℕ))) (a b : List Token) → SpellsOutputStream x a → SpellsAlias l b → SpellsHead (x ∷ []) l (a ++ b)
  streams : (o c : Token) (xs : List OutputStream) (l : Option (Placed (List ℕ))) (a b : List Token) → Is S.LeftParen o → Separated S.Semicolon SpellsOutputStream xs a
      → Is S.RightParen c → SpellsAlias l b → SpellsHead xs l (o ∷ (a ++ c ∷ b))
  no_stream : (o c : Token) (n : Placed (List ℕ)) (a : List Token) → Is S.LeftParen o → Is S.RightParen c → SpellsAlias (Some n) a → SpellsHead [] (Some n) (o ∷ c ∷ a)

pub data SpellsInput : InputPort → List Token → Type 0 where
  input : (ns : List (Placed (List ℕ))) (l : Option (Placed (List ℕ))) (a b : List Token) → Separated S.Comma SpellsName ns a → SpellsAlias l b
      → SpellsInput (record { streams = ns; alias = l }) (a ++ b)

-- the variables of a state: one, or some between braces
pub data SpellsState : List Declaration → List Token → Type 0 where
  one_variable : (d : Declaration) (a : List Token) → SpellsDeclaration d a → SpellsState (d ∷ []) a
  variables : (o c : Token) (ds : List Declaration) (a : List Token) → Is S.LeftBrace o → Row SpellsDeclaration ds a → Is S.RightBrace c
      → SpellsState ds (o ∷ (a ++ c ∷ []))

pub data SpellsStateClause : List Declaration → List Token → Type 0 where
  no_state : SpellsStateClause [] []
  state : (t c : Token) (ds : List Declaration) (a : List Token) → IsKeyword K.State t → Is S.Colon c → SpellsState ds a → SpellsStateClause ds (t ∷ c ∷ a)

-- the event that a word of the language handles
pub data HandlesEvent : HandledEvent → Token → Type 0 where
  on_tuple : (t : Token) → IsKeyword K.OnTuple t → HandlesEvent V.Tuple t
  on_punctuation : (t : Token) → IsKeyword K.OnPunct t → HandlesEvent V.Punctuation t

pub data SpellsHandler : Placed Handler → List Token → Type 0 where
  handler : (w t c : Token) (v : HandledEvent) (n : List ℕ) (ss : List Stmt) (a : List Token) → HandlesEvent v w → Names n t → Is S.Colon c → SpellsBlock ss a
      → SpellsHandler (placed w.start (record { event = v; port = placed t.start n; body = ss })) (w ∷ t ∷ c ∷ a)

pub data SpellsLogic : Option (Placed Logic) → List Token → Type 0 where
  no_logic : SpellsLogic None []
  logic : (t : Token) (ds : List Declaration) (hs : List (Placed Handler)) (a b : List Token) → IsKeyword K.Logic t → SpellsStateClause ds a → Row SpellsHandler hs b
      → SpellsLogic (Some (placed t.start (record { state = ds; handlers = hs }))) (t ∷ (a ++ b))

pub data SpellsWindowPart : WindowPart → List Token → Type 0 where
  word : (t : Token) (n : List ℕ) → Names n t → SpellsWindowPart (record { name = placed t.start n; arguments = None }) (t ∷ [])
  with_arguments : (t o c : Token) (n : List ℕ) (es : List Expr) (a : List Token) → Names n t → Is S.LeftParen o → Elements es a → Is S.RightParen c
      → SpellsWindowPart (record { name = placed t.start n; arguments = Some es }) (t ∷ o ∷ (a ++ c ∷ []))

pub data SpellsPortWindow : PortWindow → List Token → Type 0 where
  port_window : (t c s : Token) (n : List ℕ) (ps : List WindowPart) (a : List Token) → Names n t → Is S.Colon c → Separated S.Comma SpellsWindowPart ps a → Is S.Semicolon s
      → SpellsPortWindow (record { port = placed t.start n; parts = ps }) (t ∷ c ∷ (a ++ s ∷ []))

pub data SpellsOutputAssignments : OutputAssignments → List Token → Type 0 where
  output_assignments : (t c s : Token) (n : List ℕ) (fs : List (Field Expr)) (a : List Token) → Names n t → Is S.Colon c → Fields fs a → Is S.Semicolon s
      → SpellsOutputAssignments (record { stream = placed t.start n; assignments = fs }) (t ∷ c ∷ (a ++ s ∷ []))

-- the clauses of an invocation, in their order
pub data SpellsClauses : Clauses → List Token → Type 0 where
  clauses : (l : Option (Placed Logic)) (w : Option (Placed (List PortWindow))) (ps : List Parameter) (u : Option (Placed (List OutputAssignments))) (gs : List Parameter)
      (a b d e f : List Token) → SpellsLogic l a → PlacedClause K.Window SpellsPortWindow w b → Clause K.Param SpellsParameter ps d
      → PlacedClause K.Output SpellsOutputAssignments u e → Clause K.Config SpellsParameter gs f
      → SpellsClauses (record { logic = l; window = w; parameters = ps; output = u; config = gs }) (a ++ (b ++ (d ++ (e ++ f))))

-- what ends an invocation: `;`, or its clauses between braces
pub data SpellsEnd : Clauses → List Token → Type 0 where
  no_clauses : (s : Token) → Is S.Semicolon s → SpellsEnd (record { logic = None; window = None; parameters = []; output = None; config = [] }) (s ∷ [])
  in_braces : (o c : Token) (x : Clauses) (a : List Token) → Is S.LeftBrace o → SpellsClauses x a → Is S.RightBrace c → SpellsEnd x (o ∷ (a ++ c ∷ []))

pub data SpellsInvocation : Invocation → List Token → Type 0 where
  invocation : (at : ℕ) (xs : List OutputStream) (l : Option (Placed (List ℕ))) (q t o c : Token) (n : List ℕ) (ps : List InputPort) (x : Clauses) (a b d : List Token)
      → SpellsHead xs l a → BeginsAt at a → Is S.Assign q → Names n t → Is S.LeftParen o → Listed S.Semicolon SpellsInput ps b → Is S.RightParen c → SpellsEnd x d
      → SpellsInvocation (record { at = at; outputs = xs; alias = l; operator = placed t.start n; inputs = ps; clauses = x }) (a ++ q ∷ t ∷ o ∷ (b ++ c ∷ d))

-- ---- composites

-- a port in a head, with its shape or without
pub data SpellsHeadPort : HeadPort → List Token → Type 0 where
  untyped : (t : Token) (n : List ℕ) → Names n t → SpellsHeadPort (record { shape = None; name = placed t.start n }) (t ∷ [])
  typed : (h : Shape) (t : Token) (n : List ℕ) (a : List Token) → SpellsStream h a → Names n t
      → SpellsHeadPort (record { shape = Some h; name = placed t.start n }) (a ++ t ∷ [])

-- the ports after `output` or `input`
pub data SpellsPorts : Keyword → List HeadPort → List Token → Type 0 where
  ports : (k : Keyword) (t : Token) (ps : List HeadPort) (a : List Token) → IsKeyword k t → Separated S.Comma SpellsHeadPort ps a → SpellsPorts k ps (t ∷ a)

-- the ports between the parentheses of a head: outputs, inputs, or both in either order
pub data SpellsPortLists : List HeadPort → List HeadPort → List Token → Type 0 where
  outputs_alone : (us : List HeadPort) (a : List Token) → SpellsPorts K.Output us a → SpellsPortLists us [] a
  inputs_alone : (is : List HeadPort) (a : List Token) → SpellsPorts K.Input is a → SpellsPortLists [] is a
  outputs_first : (us is : List HeadPort) (s : Token) (a b : List Token) → SpellsPorts K.Output us a → Is S.Semicolon s → SpellsPorts K.Input is b
      → SpellsPortLists us is (a ++ s ∷ b)
  inputs_first : (us is : List HeadPort) (s : Token) (a b : List Token) → SpellsPorts K.Input is a → Is S.Semicolon s → SpellsPorts K.Output us b
      → SpellsPortLists us is (a ++ s ∷ b)

-- a head's ports in parentheses, or none
pub data SpellsHeadPorts : List HeadPort → List HeadPort → List Token → Type 0 where
  no_ports : SpellsHeadPorts [] [] []
  in_parentheses : (o c : Token) (us is : List HeadPort) (a : List Token) → Is S.LeftParen o → SpellsPortLists us is a → Is S.RightParen c
      → SpellsHeadPorts us is (o ∷ (a ++ c ∷ []))

-- the default of a parameter, or none
pub data SpellsDefault : Option Expr → List Token → Type 0 where
  no_default : SpellsDefault None []
  default : (c : Token) (e : Expr) (a : List Token) → Is S.Colon c → Spells e a → SpellsDefault (Some e) (c ∷ a)

pub data SpellsCompositeParameter : CompositeParameter → List Token → Type 0 where
  composite_parameter : (w o c t s : Token) (k : TypeExpr) (n : List ℕ) (e : Option Expr) (a b : List Token) → IsKeyword K.Expression w → Is S.Less o → SpellsType k a
      → Is S.Greater c → t.kind ≡ T.Dollar n → SpellsDefault e b → Is S.Semicolon s
      → SpellsCompositeParameter (record { kind = k; name = placed t.start n; default = e }) (w ∷ o ∷ (a ++ c ∷ t ∷ (b ++ s ∷ [])))

-- whether `public` stands in front, which says nothing
pub data SpellsPublic : List Token → Type 0 where
  not_public : SpellsPublic []
  public : (t : Token) → IsKeyword K.Public t → SpellsPublic (t ∷ [])

pub data SpellsComposite : Composite → List Token → Type 0 where
  composite : (w t o c : Token) (n : List ℕ) (us is : List HeadPort) (ps : List CompositeParameter) (ts : List TypeDefinition) (xs : List Invocation) (gs : List Parameter)
      (z a b d e f : List Token) → SpellsPublic z → IsKeyword K.Composite w → Names n t → SpellsHeadPorts us is a → Is S.LeftBrace o
      → Clause K.Param SpellsCompositeParameter ps b → Clause K.Type SpellsTypeDefinition ts d → Clause K.Graph SpellsInvocation xs e → Clause K.Config SpellsParameter gs f
      → Is S.RightBrace c
      → SpellsComposite (record { name = placed t.start n; outputs = us; inputs = is; parameters = ps; types = ts; graph = xs; config = gs })
      (z ++ w ∷ t ∷ (a ++ o ∷ (b ++ (d ++ (e ++ (f ++ c ∷ []))))))

-- ---- units

-- the type of what a function gives, or `void`
pub data SpellsResultType : Option TypeExpr → List Token → Type 0 where
  void : (t : Token) → IsKeyword K.Void t → SpellsResultType None (t ∷ [])
  a_type : (k : TypeExpr) (a : List Token) → SpellsType k a → SpellsResultType (Some k) a

pub data SpellsFunction : FunctionDefinition → List Token → Type 0 where
  function : (k : Option TypeExpr) (t o c : Token) (n : List ℕ) (xs : List (Attribute TypeExpr)) (ss : List Stmt) (a b d : List Token) → SpellsResultType k a → Names n t
      → Is S.LeftParen o → SpellsFunctionParameters xs b → Is S.RightParen c → SpellsBlock ss d
      → SpellsFunction (record { result = k; name = placed t.start n; parameters = xs; body = ss }) (a ++ t ∷ o ∷ (b ++ c ∷ d))

pub data SpellsDefinition : Definition → List Token → Type 0 where
  a_typedef : (w : Token) (x : TypeDefinition) (a : List Token) → IsKeyword K.Type w → SpellsTypeDefinition x a → SpellsDefinition (D.Type x) (w ∷ a)
  a_function : (x : FunctionDefinition) (a : List Token) → SpellsFunction x a → SpellsDefinition (D.Function x) a
  a_composite : (x : Composite) (a : List Token) → SpellsComposite x a → SpellsDefinition (D.Composite x) a

-- a `namespace` line, which says nothing, or none
pub data SpellsNamespace : List Token → Type 0 where
  no_namespace : SpellsNamespace []
  namespace : (w s : Token) (ns : List (Placed (List ℕ))) (a : List Token) → IsKeyword K.Namespace w → Separated S.Dot SpellsName ns a → Is S.Semicolon s
      → SpellsNamespace (w ∷ (a ++ s ∷ []))

-- a program
pub data SpellsUnit : List Definition → List Token → Type 0 where
  unit : (xs : List Definition) (a b : List Token) → SpellsNamespace a → Row SpellsDefinition xs b → SpellsUnit xs (a ++ b)

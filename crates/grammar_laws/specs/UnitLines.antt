-- The lines of the grammar of definitions and clauses: which pieces each of them is made of.
use Rattle.std.specs.Prelude.{◌≡◌, ℕ, List, [], ◌∷◌, Option, Some, None, ◌↔◌}
use Rattle.spl_tree.specs.declared.expression.Placed.{Placed}
use Rattle.spl_tree.specs.declared.keyword.Keyword.{Keyword}
use Rattle.spl_tree.specs.declared.keyword.Keyword.TheVariants as K
use Rattle.spl_tree.specs.declared.statement.Declaration.{Declaration}
use Rattle.spl_tree.specs.declared.symbol.Symbol.TheVariants as S
use Rattle.spl_tree.specs.declared.token.Token.{Token}
use Rattle.spl_tree.specs.declared.unit.Clauses.{Clauses}
use Rattle.spl_tree.specs.declared.unit.Composite.{Composite}
use Rattle.spl_tree.specs.declared.unit.CompositeParameter.{CompositeParameter}
use Rattle.spl_tree.specs.declared.unit.Definition.{Definition}
use Rattle.spl_tree.specs.declared.unit.Definition.TheVariants as D
use Rattle.spl_tree.specs.declared.unit.FunctionDefinition.{FunctionDefinition}
use Rattle.spl_tree.specs.declared.unit.HandledEvent.{HandledEvent}
use Rattle.spl_tree.specs.declared.unit.HandledEvent.TheVariants as V
use Rattle.spl_tree.specs.declared.unit.Handler.{Handler}
use Rattle.spl_tree.specs.declared.unit.HeadPort.{HeadPort}
use Rattle.spl_tree.specs.declared.unit.InputPort.{InputPort}
use Rattle.spl_tree.specs.declared.unit.Invocation.{Invocation}
use Rattle.spl_tree.specs.declared.unit.Logic.{Logic}
use Rattle.spl_tree.specs.declared.unit.OutputAssignments.{OutputAssignments}
use Rattle.spl_tree.specs.declared.unit.OutputStream.{OutputStream}
use Rattle.spl_tree.specs.declared.unit.Parameter.{Parameter}
use Rattle.spl_tree.specs.declared.unit.PortWindow.{PortWindow}
use Rattle.spl_tree.specs.declared.unit.TypeDefinition.{TypeDefinition}
use Rattle.spl_tree.specs.declared.unit.WindowPart.{WindowPart}
use Rattle.spl_tree.specs.Trees.{Expr, TypeExpr, Shape}
use Rattle.spl_tree.specs.spellings.Grammar.{Elements, Items, Fields, Spells}
use Rattle.spl_tree.specs.spellings.Phrases.{Phrase, Row, Separated, Listed}
use Rattle.spl_tree.specs.spellings.TypeGrammar.{SpellsType, SpellsShape, SpellsFunctionParameters}
use Rattle.spl_tree.specs.spellings.StatementGrammar.{SpellsDeclaration, SpellsBlock}
use Rattle.spl_tree.specs.spellings.UnitGrammar.{SpellsName, SpellsAlias, SpellsTypeDefinition, SpellsParameter, Clause, PlacedClause, SpellsStream, SpellsOutputStream, SpellsHead, SpellsInput, SpellsState, SpellsStateClause, SpellsHandler, SpellsLogic, SpellsWindowPart, SpellsPortWindow, SpellsOutputAssignments, SpellsClauses, SpellsEnd, SpellsInvocation, SpellsHeadPort, SpellsPorts, SpellsPortLists, SpellsHeadPorts, SpellsDefault, SpellsCompositeParameter, SpellsPublic, SpellsComposite, SpellsResultType, SpellsFunction, SpellsDefinition, SpellsNamespace, SpellsUnit}
use Rattle.grammar_laws.specs.Pieces.{word, sign, Name, Dollar, In, Nothing, first}

-- ---- clauses

-- a word, and what follows it in a row; or neither
abbrev pub ClauseLine : {A : Type 0} → Keyword → Phrase A → Type 0
ClauseLine {A} k P = Clause k P [] [] × ((xs : List A) (ts : List Token) → In (word k ∷ Row P xs ∷ []) ts → Clause k P xs ts)

-- the same, placed at the word
abbrev pub PlacedClauseLine : {A : Type 0} → Keyword → Phrase A → Type 0
PlacedClauseLine {A} k P =
    PlacedClause k P None []
    × ((xs : List A) (at : ℕ) (ts : List Token) → In (word k ∷ Row P xs ∷ []) ts → first ts ≡ Some at → PlacedClause k P (Some (record { at = at; what = xs })) ts)

-- the clauses of invocations and of composites
pub record ClauseLines : Type 0 where
  pub window : PlacedClauseLine K.Window SpellsPortWindow
  pub output : PlacedClauseLine K.Output SpellsOutputAssignments
  pub parameters : ClauseLine K.Param SpellsParameter
  pub config : ClauseLine K.Config SpellsParameter
  pub composite_parameters : ClauseLine K.Param SpellsCompositeParameter
  pub types : ClauseLine K.Type SpellsTypeDefinition
  pub graph : ClauseLine K.Graph SpellsInvocation

-- ---- invocations

-- `as` and a name, or neither
abbrev pub alias_line : Option (Placed (List ℕ)) → List Token → Type 0
alias_line None = Nothing
alias_line (Some n) = In (word K.As ∷ Name n ∷ [])

-- the lines of inputs and outputs
pub record PortLines : Type 0 where
  pub alias : (l : Option (Placed (List ℕ))) (ts : List Token) → SpellsAlias l ts ↔ alias_line l ts
  pub input : (p : InputPort) (ts : List Token) → SpellsInput p ts ↔ In (Separated S.Comma SpellsName p.streams ∷ SpellsAlias p.alias ∷ []) ts
  pub stream : (h : Shape) (ts : List Token) → SpellsStream h ts ↔ In (word K.Stream ∷ sign S.Less ∷ SpellsShape h ∷ sign S.Greater ∷ []) ts
  pub output : (x : OutputStream) (ts : List Token) → SpellsOutputStream x ts ↔ In (SpellsStream x.shape ∷ Name x.name ∷ []) ts
  pub one_output : (x : OutputStream) (l : Option (Placed (List ℕ))) (ts : List Token) → In (SpellsOutputStream x ∷ SpellsAlias l ∷ []) ts → SpellsHead (x ∷ []) l ts
  pub outputs : (xs : List OutputStream) (l : Option (Placed (List ℕ))) (ts : List Token) →
      In (sign S.LeftParen ∷ Separated S.Semicolon SpellsOutputStream xs ∷ sign S.RightParen ∷ SpellsAlias l ∷ []) ts → SpellsHead xs l ts
  pub no_output : (n : Placed (List ℕ)) (ts : List Token) → In (sign S.LeftParen ∷ sign S.RightParen ∷ SpellsAlias (Some n) ∷ []) ts → SpellsHead [] (Some n) ts

-- the words of the events that are handled
pub data EventWord : HandledEvent → List Token → Type 0 where
  tuple : (ts : List Token) → word K.OnTuple ts → EventWord V.Tuple ts
  punctuation : (ts : List Token) → word K.OnPunct ts → EventWord V.Punctuation ts

-- the logic of an invocation, or none
abbrev pub logic_line : Option (Placed Logic) → List Token → Type 0
logic_line None ts = Nothing ts
logic_line (Some l) ts = In (word K.Logic ∷ SpellsStateClause l.what.state ∷ Row SpellsHandler l.what.handlers ∷ []) ts × (first ts ≡ Some l.at)

-- a part of a window, with its arguments or without
abbrev pub window_part_line : Option (List Expr) → Placed (List ℕ) → List Token → Type 0
window_part_line None n = Name n
window_part_line (Some es) n = In (Name n ∷ sign S.LeftParen ∷ Elements es ∷ sign S.RightParen ∷ [])

-- the lines of the clauses of an invocation
pub record InvocationLines : Type 0 where
  pub parameter : (p : Parameter) (ts : List Token) → SpellsParameter p ts ↔ In (Name p.name ∷ sign S.Colon ∷ Items p.values ∷ sign S.Semicolon ∷ []) ts
  pub one_variable : (d : Declaration) (ts : List Token) → SpellsDeclaration d ts → SpellsState (d ∷ []) ts
  pub variables : (ds : List Declaration) (ts : List Token) → In (sign S.LeftBrace ∷ Row SpellsDeclaration ds ∷ sign S.RightBrace ∷ []) ts → SpellsState ds ts
  pub state : (ds : List Declaration) (ts : List Token) → In (word K.State ∷ sign S.Colon ∷ SpellsState ds ∷ []) ts → SpellsStateClause ds ts
  pub no_state : SpellsStateClause [] []
  pub handler : (h : Placed Handler) (ts : List Token) → SpellsHandler h ts
      ↔ (In (EventWord h.what.event ∷ Name h.what.port ∷ sign S.Colon ∷ SpellsBlock h.what.body ∷ []) ts × (first ts ≡ Some h.at))
  pub logic : (l : Option (Placed Logic)) (ts : List Token) → SpellsLogic l ts ↔ logic_line l ts
  pub window_part : (p : WindowPart) (ts : List Token) → SpellsWindowPart p ts ↔ window_part_line p.arguments p.name ts
  pub port_window : (w : PortWindow) (ts : List Token) → SpellsPortWindow w ts
      ↔ In (Name w.port ∷ sign S.Colon ∷ Separated S.Comma SpellsWindowPart w.parts ∷ sign S.Semicolon ∷ []) ts
  pub assignments : (u : OutputAssignments) (ts : List Token) → SpellsOutputAssignments u ts
      ↔ In (Name u.stream ∷ sign S.Colon ∷ Fields u.assignments ∷ sign S.Semicolon ∷ []) ts
  pub clauses : (x : Clauses) (ts : List Token) → SpellsClauses x ts
      ↔ In (SpellsLogic x.logic ∷ PlacedClause K.Window SpellsPortWindow x.window ∷ Clause K.Param SpellsParameter x.parameters
      ∷ PlacedClause K.Output SpellsOutputAssignments x.output ∷ Clause K.Config SpellsParameter x.config ∷ []) ts
  pub no_clauses : (ts : List Token) → sign S.Semicolon ts → SpellsEnd (record { logic = None; window = None; parameters = []; output = None; config = [] }) ts
  pub in_braces : (x : Clauses) (ts : List Token) → In (sign S.LeftBrace ∷ SpellsClauses x ∷ sign S.RightBrace ∷ []) ts → SpellsEnd x ts
  pub invocation : (x : Invocation) (ts : List Token) → SpellsInvocation x ts
      ↔ (In (SpellsHead x.outputs x.alias ∷ sign S.Assign ∷ Name x.operator ∷ sign S.LeftParen ∷ Listed S.Semicolon SpellsInput x.inputs ∷ sign S.RightParen
      ∷ SpellsEnd x.clauses ∷ []) ts × (first ts ≡ Some x.at))

-- ---- composites and functions

-- a port of a head, with its shape or without
abbrev pub head_port_line : Option Shape → Placed (List ℕ) → List Token → Type 0
head_port_line None n = Name n
head_port_line (Some h) n = In (SpellsStream h ∷ Name n ∷ [])

-- the default of a parameter
abbrev pub default_line : Option Expr → List Token → Type 0
default_line None = Nothing
default_line (Some e) = In (sign S.Colon ∷ Spells e ∷ [])

-- what a function gives
abbrev pub result_line : Option TypeExpr → List Token → Type 0
result_line None = word K.Void
result_line (Some k) = SpellsType k

-- a definition: `type` and what it names, a function or a composite
pub data DefinitionLine : Definition → List Token → Type 0 where
  a_type : (x : TypeDefinition) (ts : List Token) → In (word K.Type ∷ SpellsTypeDefinition x ∷ []) ts → DefinitionLine (D.Type x) ts
  a_function : (x : FunctionDefinition) (ts : List Token) → SpellsFunction x ts → DefinitionLine (D.Function x) ts
  a_composite : (x : Composite) (ts : List Token) → SpellsComposite x ts → DefinitionLine (D.Composite x) ts

-- the lines of definitions
pub record DefinitionLines : Type 0 where
  pub type_definition : (d : TypeDefinition) (ts : List Token) → SpellsTypeDefinition d ts
      ↔ In (Name d.name ∷ sign S.Assign ∷ SpellsShape d.shape ∷ sign S.Semicolon ∷ []) ts
  pub head_port : (p : HeadPort) (ts : List Token) → SpellsHeadPort p ts ↔ head_port_line p.shape p.name ts
  pub ports : (k : Keyword) (ps : List HeadPort) (ts : List Token) → SpellsPorts k ps ts ↔ In (word k ∷ Separated S.Comma SpellsHeadPort ps ∷ []) ts
  pub outputs_alone : (us : List HeadPort) (ts : List Token) → SpellsPorts K.Output us ts → SpellsPortLists us [] ts
  pub inputs_alone : (is : List HeadPort) (ts : List Token) → SpellsPorts K.Input is ts → SpellsPortLists [] is ts
  pub outputs_first : (us is : List HeadPort) (ts : List Token) → In (SpellsPorts K.Output us ∷ sign S.Semicolon ∷ SpellsPorts K.Input is ∷ []) ts → SpellsPortLists us is ts
  pub inputs_first : (us is : List HeadPort) (ts : List Token) → In (SpellsPorts K.Input is ∷ sign S.Semicolon ∷ SpellsPorts K.Output us ∷ []) ts → SpellsPortLists us is ts
  pub no_ports : SpellsHeadPorts [] [] []
  pub in_parentheses : (us is : List HeadPort) (ts : List Token) → In (sign S.LeftParen ∷ SpellsPortLists us is ∷ sign S.RightParen ∷ []) ts → SpellsHeadPorts us is ts
  pub default : (e : Option Expr) (ts : List Token) → SpellsDefault e ts ↔ default_line e ts
  pub composite_parameter : (p : CompositeParameter) (ts : List Token) → SpellsCompositeParameter p ts
      ↔ In (word K.Expression ∷ sign S.Less ∷ SpellsType p.kind ∷ sign S.Greater ∷ Dollar p.name ∷ SpellsDefault p.default ∷ sign S.Semicolon ∷ []) ts
  pub not_public : SpellsPublic []
  pub public : (ts : List Token) → word K.Public ts → SpellsPublic ts
  pub composite : (c : Composite) (ts : List Token) → SpellsComposite c ts
      ↔ In (SpellsPublic ∷ word K.Composite ∷ Name c.name ∷ SpellsHeadPorts c.outputs c.inputs ∷ sign S.LeftBrace
      ∷ Clause K.Param SpellsCompositeParameter c.parameters ∷ Clause K.Type SpellsTypeDefinition c.types ∷ Clause K.Graph SpellsInvocation c.graph
      ∷ Clause K.Config SpellsParameter c.config ∷ sign S.RightBrace ∷ []) ts
  pub result_type : (k : Option TypeExpr) (ts : List Token) → SpellsResultType k ts ↔ result_line k ts
  pub function : (f : FunctionDefinition) (ts : List Token) → SpellsFunction f ts
      ↔ In (SpellsResultType f.result ∷ Name f.name ∷ sign S.LeftParen ∷ SpellsFunctionParameters f.parameters ∷ sign S.RightParen ∷ SpellsBlock f.body ∷ []) ts
  pub definition : (d : Definition) (ts : List Token) → SpellsDefinition d ts ↔ DefinitionLine d ts
  pub no_namespace : SpellsNamespace []
  pub namespace : (ns : List (Placed (List ℕ))) (ts : List Token) → In (word K.Namespace ∷ Separated S.Dot SpellsName ns ∷ sign S.Semicolon ∷ []) ts → SpellsNamespace ts
  pub unit : (ds : List Definition) (ts : List Token) → SpellsUnit ds ts ↔ In (SpellsNamespace ∷ Row SpellsDefinition ds ∷ []) ts

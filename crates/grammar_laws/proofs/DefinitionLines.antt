-- Definitions and clauses are spelled by their lines.
use Rattle.std.proofs.Common.{◌≡◌, ℕ, List, [], ◌∷◌, ◌++◌, Option, Some, None, refl}
use Rattle.spl_tree.specs.declared.expression.Placed.{Placed}
use Rattle.spl_tree.specs.declared.keyword.Keyword.{Keyword}
use Rattle.spl_tree.specs.declared.keyword.Keyword.TheVariants as K
use Rattle.spl_tree.specs.declared.statement.Declaration.{Declaration}
use Rattle.spl_tree.specs.declared.shape.Attribute.{Attribute}
use Rattle.spl_tree.specs.declared.symbol.Symbol.TheVariants as S
use Rattle.spl_tree.specs.declared.token.Token.{Token}
use Rattle.spl_tree.specs.declared.unit.Clauses.{Clauses}
use Rattle.spl_tree.specs.declared.unit.CompositeParameter.{CompositeParameter}
use Rattle.spl_tree.specs.declared.unit.HandledEvent.{HandledEvent}
use Rattle.spl_tree.specs.declared.unit.Handler.{Handler}
use Rattle.spl_tree.specs.declared.unit.HeadPort.{HeadPort}
use Rattle.spl_tree.specs.declared.unit.InputPort.{InputPort}
use Rattle.spl_tree.specs.declared.unit.Invocation.{Invocation}
use Rattle.spl_tree.specs.declared.unit.Logic.{Logic}
use Rattle.spl_tree.specs.declared.unit.OutputAssignments.{OutputAssignments}
use Rattle.spl_tree.specs.declared.unit.OutputStream.{OutputStream}
use Rattle.spl_tree.specs.declared.unit.Parameter.{Parameter}
use Rattle.spl_tree.specs.declared.unit.PortWindow.{PortWindow}
use Rattle.spl_tree.specs.declared.unit.TypeDefinition.{TypeDefinition}
use Rattle.spl_tree.specs.declared.unit.Composite.{Composite}
use Rattle.spl_tree.specs.declared.unit.Definition.{Definition}
use Rattle.spl_tree.specs.declared.unit.FunctionDefinition.{FunctionDefinition}
use Rattle.spl_tree.specs.declared.unit.WindowPart.{WindowPart}
use Rattle.spl_tree.specs.declared.expression.Field.{Field}
use Rattle.spl_tree.specs.Trees.{Expr, placed, TypeExpr, Shape, Stmt}
use Rattle.spl_tree.specs.spellings.Grammar.{Items, Fields}
use Rattle.spl_tree.specs.spellings.Phrases.{Phrase, Row, Separated, Listed}
use Rattle.spl_tree.specs.spellings.TypeGrammar.{SpellsType, SpellsShape, SpellsFunctionParameters}
use Rattle.spl_tree.specs.spellings.StatementGrammar.{SpellsDeclaration, SpellsBlock}
use Rattle.spl_tree.specs.spellings.UnitGrammar as U
use Rattle.spl_tree.specs.spellings.UnitGrammar.{SpellsName, SpellsAlias, SpellsTypeDefinition, SpellsParameter, Clause, PlacedClause, SpellsStream, SpellsOutputStream, SpellsHead, SpellsInput, SpellsState, SpellsStateClause, HandlesEvent, SpellsHandler, SpellsLogic, SpellsWindowPart, SpellsPortWindow, SpellsOutputAssignments, SpellsClauses, SpellsEnd, SpellsInvocation, SpellsHeadPort, SpellsPorts, SpellsPortLists, SpellsHeadPorts, SpellsDefault, SpellsCompositeParameter, SpellsPublic, SpellsComposite, SpellsResultType, SpellsFunction, SpellsDefinition, SpellsNamespace, SpellsUnit}
use Rattle.grammar_laws.specs.Pieces.{one, word, sign, Name, name, Dollar, dollar, joined, nothing, In, first}
use Rattle.grammar_laws.specs.UnitLines.{ClauseLine, PlacedClauseLine, ClauseLines, alias_line, PortLines, EventWord, tuple, punctuation, logic_line, window_part_line, InvocationLines, head_port_line, default_line, result_line, DefinitionLine, a_type, a_function, a_composite, DefinitionLines}
use Rattle.grammar_laws.proofs.StatementLines.{first-append, first_begins, begins_first}

-- ---- clauses

clause_line : {A : Type 0} (k : Keyword) (P : Phrase A) → ClauseLine k P
clause_line {A} k P = (U.no_clause, given)
  where
    given : (xs : List A) (ts : List Token) → In (word k ∷ Row P xs ∷ []) ts → Clause k P xs ts
    given xs _ (joined _ a (one t is) d) = U.clause t xs a is d

placed_line : {A : Type 0} (k : Keyword) (P : Phrase A) → PlacedClauseLine k P
placed_line {A} k P = (U.absent, given)
  where
    given : (xs : List A) (at : ℕ) (ts : List Token) → In (word k ∷ Row P xs ∷ []) ts → first ts ≡ Some at → PlacedClause k P (Some (record { at = at; what = xs })) ts
    given xs at _ (joined _ a (one t is) d) e = let same : t.start ≡ at = cc in rw (← same) (U.placed_clause t xs a is d)

pub clause_lines : ClauseLines
clause_lines = record {
  window = placed_line K.Window SpellsPortWindow;
  output = placed_line K.Output SpellsOutputAssignments;
  parameters = clause_line K.Param SpellsParameter;
  config = clause_line K.Config SpellsParameter;
  composite_parameters = clause_line K.Param SpellsCompositeParameter;
  types = clause_line K.Type SpellsTypeDefinition;
  graph = clause_line K.Graph SpellsInvocation;
}

-- ---- inputs and outputs

alias_is : (l : Option (Placed (List ℕ))) {ts : List Token} → alias_line l ts → SpellsAlias l ts
alias_is None nothing = U.no_alias
alias_is (Some n) (joined _ _ (one k is) (name t m named)) = U.alias k t m is named

is_alias : {l : Option (Placed (List ℕ))} {ts : List Token} → SpellsAlias l ts → alias_line l ts
is_alias U.no_alias = nothing
is_alias (U.alias k t m is named) = joined (k ∷ []) (t ∷ []) (one k is) (name t m named)

input_is : {ns : List (Placed (List ℕ))} {l : Option (Placed (List ℕ))} {ts : List Token} → In (Separated S.Comma SpellsName ns ∷ SpellsAlias l ∷ []) ts
    → SpellsInput (record { streams = ns; alias = l }) ts
input_is {ns} {l} (joined a b d f) = U.input ns l a b d f

is_input : {p : InputPort} {ts : List Token} → SpellsInput p ts → In (Separated S.Comma SpellsName p.streams ∷ SpellsAlias p.alias ∷ []) ts
is_input (U.input ns l a b d f) = joined a b d f

stream_is : {h : Shape} {ts : List Token} → In (word K.Stream ∷ sign S.Less ∷ SpellsShape h ∷ sign S.Greater ∷ []) ts → SpellsStream h ts
stream_is {h} (joined _ _ (one t is) (joined _ _ (one o left) (joined a _ d (one c right)))) = U.stream t o c h a is left d right

is_stream : {h : Shape} {ts : List Token} → SpellsStream h ts → In (word K.Stream ∷ sign S.Less ∷ SpellsShape h ∷ sign S.Greater ∷ []) ts
is_stream (U.stream t o c h a is left d right) = joined (t ∷ []) _ (one t is) (joined (o ∷ []) _ (one o left) (joined a _ d (one c right)))

output_is : {h : Shape} {n : Placed (List ℕ)} {ts : List Token} → In (SpellsStream h ∷ Name n ∷ []) ts → SpellsOutputStream (record { shape = h; name = n }) ts
output_is {h} (joined a _ d (name t n named)) = U.output h t n a d named

is_output : {x : OutputStream} {ts : List Token} → SpellsOutputStream x ts → In (SpellsStream x.shape ∷ Name x.name ∷ []) ts
is_output (U.output h t n a d named) = joined a (t ∷ []) d (name t n named)

one_output : (x : OutputStream) (l : Option (Placed (List ℕ))) (ts : List Token) → In (SpellsOutputStream x ∷ SpellsAlias l ∷ []) ts → SpellsHead (x ∷ []) l ts
one_output x l _ (joined a b d f) = U.one_stream x l a b d f

outputs : (xs : List OutputStream) (l : Option (Placed (List ℕ))) (ts : List Token)
    → In (sign S.LeftParen ∷ Separated S.Semicolon SpellsOutputStream xs ∷ sign S.RightParen ∷ SpellsAlias l ∷ []) ts → SpellsHead xs l ts
outputs xs l _ (joined _ _ (one o left) (joined a _ d (joined _ b (one c right) f))) = U.streams o c xs l a b left d right f

no_output : (n : Placed (List ℕ)) (ts : List Token) → In (sign S.LeftParen ∷ sign S.RightParen ∷ SpellsAlias (Some n) ∷ []) ts → SpellsHead [] (Some n) ts
no_output n _ (joined _ _ (one o left) (joined _ a (one c right) d)) = U.no_stream o c n a left right d

pub port_lines : PortLines
port_lines = record {
  alias = λ l ts. (is_alias, alias_is l);
  input = λ p ts. (is_input, input_is);
  stream = λ h ts. (is_stream, stream_is);
  output = λ x ts. (is_output, output_is);
  one_output = one_output;
  outputs = outputs;
  no_output = no_output;
}

-- ---- invocations

parameter_is : {n : Placed (List ℕ)} {es : List Expr} {ts : List Token} → In (Name n ∷ sign S.Colon ∷ Items es ∷ sign S.Semicolon ∷ []) ts
    → SpellsParameter (record { name = n; values = es }) ts
parameter_is {es = es} (joined _ _ (name t n named) (joined _ _ (one c colon) (joined a _ d (one s semicolon)))) = U.parameter t c s n es a named colon d semicolon

is_parameter : {p : Parameter} {ts : List Token} → SpellsParameter p ts → In (Name p.name ∷ sign S.Colon ∷ Items p.values ∷ sign S.Semicolon ∷ []) ts
is_parameter (U.parameter t c s n es a named colon d semicolon) =
    joined (t ∷ []) _ (name t n named) (joined (c ∷ []) _ (one c colon) (joined a _ d (one s semicolon)))

variables : (ds : List Declaration) (ts : List Token) → In (sign S.LeftBrace ∷ Row SpellsDeclaration ds ∷ sign S.RightBrace ∷ []) ts → SpellsState ds ts
variables ds _ (joined _ _ (one o left) (joined a _ d (one c right))) = U.variables o c ds a left d right

state : (ds : List Declaration) (ts : List Token) → In (word K.State ∷ sign S.Colon ∷ SpellsState ds ∷ []) ts → SpellsStateClause ds ts
state ds _ (joined _ _ (one t is) (joined _ a (one c colon) d)) = U.state t c ds a is colon d

event_is : {v : HandledEvent} {t : Token} → EventWord v (t ∷ []) → HandlesEvent v t
event_is (tuple _ (one t is)) = U.on_tuple t is
event_is (punctuation _ (one t is)) = U.on_punctuation t is

is_event : {v : HandledEvent} {t : Token} → HandlesEvent v t → EventWord v (t ∷ [])
is_event (U.on_tuple t is) = tuple (t ∷ []) (one t is)
is_event (U.on_punctuation t is) = punctuation (t ∷ []) (one t is)

handler_is : {v : HandledEvent} {n : Placed (List ℕ)} {ss : List Stmt} (at : ℕ) {ts : List Token} → In (EventWord v ∷ Name n ∷ sign S.Colon ∷ SpellsBlock ss ∷ []) ts
    → first ts ≡ Some at → SpellsHandler (placed at (record { event = v; port = n; body = ss })) ts
handler_is {ss = ss} at (joined _ _ (tuple _ (one w is)) (joined _ _ (name t n named) (joined _ a (one c colon) d))) e =
    let same : w.start ≡ at = cc in rw (← same) (U.handler w t c _ n ss a (U.on_tuple w is) named colon d)
handler_is {ss = ss} at (joined _ _ (punctuation _ (one w is)) (joined _ _ (name t n named) (joined _ a (one c colon) d))) e =
    let same : w.start ≡ at = cc in rw (← same) (U.handler w t c _ n ss a (U.on_punctuation w is) named colon d)

is_handler : {h : Placed Handler} {ts : List Token} → SpellsHandler h ts
    → In (EventWord h.what.event ∷ Name h.what.port ∷ sign S.Colon ∷ SpellsBlock h.what.body ∷ []) ts × (first ts ≡ Some h.at)
is_handler (U.handler w t c v n ss a event named colon d) =
    (joined (w ∷ []) _ (is_event event) (joined (t ∷ []) _ (name t n named) (joined (c ∷ []) a (one c colon) d)), refl)

some_logic : {ds : List Declaration} {hs : List (Placed Handler)} (at : ℕ) {ts : List Token}
    → In (word K.Logic ∷ SpellsStateClause ds ∷ Row SpellsHandler hs ∷ []) ts → first ts ≡ Some at
    → SpellsLogic (Some (placed at (record { state = ds; handlers = hs }))) ts
some_logic {ds} {hs} at (joined _ _ (one t is) (joined a b d f)) e = let same : t.start ≡ at = cc in rw (← same) (U.logic t ds hs a b is d f)

logic_is : (l : Option (Placed Logic)) {ts : List Token} → logic_line l ts → SpellsLogic l ts
logic_is None nothing = U.no_logic
logic_is (Some l) h = some_logic l.at h.0 h.1

is_logic : {l : Option (Placed Logic)} {ts : List Token} → SpellsLogic l ts → logic_line l ts
is_logic U.no_logic = nothing
is_logic (U.logic t ds hs a b is d f) = (joined (t ∷ []) _ (one t is) (joined a b d f), refl)

window_part_is : (es : Option (List Expr)) {n : Placed (List ℕ)} {ts : List Token} → window_part_line es n ts → SpellsWindowPart (record { name = n; arguments = es }) ts
window_part_is None (name t n named) = U.word t n named
window_part_is (Some es) (joined _ _ (name t n named) (joined _ _ (one o left) (joined a _ d (one c right)))) = U.with_arguments t o c n es a named left d right

is_window_part : {p : WindowPart} {ts : List Token} → SpellsWindowPart p ts → window_part_line p.arguments p.name ts
is_window_part (U.word t n named) = name t n named
is_window_part (U.with_arguments t o c n es a named left d right) =
    joined (t ∷ []) _ (name t n named) (joined (o ∷ []) _ (one o left) (joined a _ d (one c right)))

port_window_is : {n : Placed (List ℕ)} {ps : List WindowPart} {ts : List Token}
    → In (Name n ∷ sign S.Colon ∷ Separated S.Comma SpellsWindowPart ps ∷ sign S.Semicolon ∷ []) ts → SpellsPortWindow (record { port = n; parts = ps }) ts
port_window_is {ps = ps} (joined _ _ (name t n named) (joined _ _ (one c colon) (joined a _ d (one s semicolon)))) = U.port_window t c s n ps a named colon d semicolon

is_port_window : {w : PortWindow} {ts : List Token} → SpellsPortWindow w ts
    → In (Name w.port ∷ sign S.Colon ∷ Separated S.Comma SpellsWindowPart w.parts ∷ sign S.Semicolon ∷ []) ts
is_port_window (U.port_window t c s n ps a named colon d semicolon) =
    joined (t ∷ []) _ (name t n named) (joined (c ∷ []) _ (one c colon) (joined a _ d (one s semicolon)))

assignments_is : {n : Placed (List ℕ)} {fs : List (Field Expr)} {ts : List Token} → In (Name n ∷ sign S.Colon ∷ Fields fs ∷ sign S.Semicolon ∷ []) ts
    → SpellsOutputAssignments (record { stream = n; assignments = fs }) ts
assignments_is {fs = fs} (joined _ _ (name t n named) (joined _ _ (one c colon) (joined a _ d (one s semicolon)))) =
    U.output_assignments t c s n fs a named colon d semicolon

is_assignments : {u : OutputAssignments} {ts : List Token} → SpellsOutputAssignments u ts
    → In (Name u.stream ∷ sign S.Colon ∷ Fields u.assignments ∷ sign S.Semicolon ∷ []) ts
is_assignments (U.output_assignments t c s n fs a named colon d semicolon) =
    joined (t ∷ []) _ (name t n named) (joined (c ∷ []) _ (one c colon) (joined a _ d (one s semicolon)))

clauses_is : {l : Option (Placed Logic)} {w : Option (Placed (List PortWindow))} {ps gs : List Parameter} {u : Option (Placed (List OutputAssignments))} {ts : List Token}
    → In (SpellsLogic l ∷ PlacedClause K.Window SpellsPortWindow w ∷ Clause K.Param SpellsParameter ps ∷ PlacedClause K.Output SpellsOutputAssignments u
    ∷ Clause K.Config SpellsParameter gs ∷ []) ts → SpellsClauses (record { logic = l; window = w; parameters = ps; output = u; config = gs }) ts
clauses_is {l} {w} {ps} {gs} {u} (joined a _ dl (joined b _ dw (joined d _ dp (joined e f du dg)))) = U.clauses l w ps u gs a b d e f dl dw dp du dg

is_clauses : {x : Clauses} {ts : List Token} → SpellsClauses x ts
    → In (SpellsLogic x.logic ∷ PlacedClause K.Window SpellsPortWindow x.window ∷ Clause K.Param SpellsParameter x.parameters
    ∷ PlacedClause K.Output SpellsOutputAssignments x.output ∷ Clause K.Config SpellsParameter x.config ∷ []) ts
is_clauses (U.clauses l w ps u gs a b d e f dl dw dp du dg) = joined a _ dl (joined b _ dw (joined d _ dp (joined e f du dg)))

no_clauses : (ts : List Token) → sign S.Semicolon ts → SpellsEnd (record { logic = None; window = None; parameters = []; output = None; config = [] }) ts
no_clauses _ (one s semicolon) = U.no_clauses s semicolon

in_braces : (x : Clauses) (ts : List Token) → In (sign S.LeftBrace ∷ SpellsClauses x ∷ sign S.RightBrace ∷ []) ts → SpellsEnd x ts
in_braces x _ (joined _ _ (one o left) (joined a _ d (one c right))) = U.in_braces o c x a left d right

-- a head begins where what it begins does
head_first : {xs : List OutputStream} {l : Option (Placed (List ℕ))} {a : List Token} {at : ℕ} → SpellsHead xs l a → (b : List Token) → first (a ++ b) ≡ Some at → first a ≡ Some at
head_first (U.one_stream x l a b (U.output h t n d (U.stream w o c k f is left dk right) named) last) e is_first = is_first
head_first (U.streams o c xs l a b left d right last) e is_first = is_first
head_first (U.no_stream o c n a left right d) e is_first = is_first

invocation_is : (at : ℕ) {xs : List OutputStream} {l : Option (Placed (List ℕ))} {n : Placed (List ℕ)} {ps : List InputPort} {x : Clauses} {ts : List Token}
    → In (SpellsHead xs l ∷ sign S.Assign ∷ Name n ∷ sign S.LeftParen ∷ Listed S.Semicolon SpellsInput ps ∷ sign S.RightParen ∷ SpellsEnd x ∷ []) ts → first ts ≡ Some at
    → SpellsInvocation (record { at = at; outputs = xs; alias = l; operator = n; inputs = ps; clauses = x }) ts
invocation_is at {xs} {l} {ps = ps} {x = x}
    (joined a _ dh (joined _ _ (one q assign) (joined _ _ (name t n named) (joined _ _ (one o left) (joined b _ dp (joined _ d (one c right) dx)))))) e =
    U.invocation at xs l q t o c n ps x a b d dh (first_begins a (head_first dh _ e)) assign named left dp right dx

is_invocation : {x : Invocation} {ts : List Token} → SpellsInvocation x ts
    → In (SpellsHead x.outputs x.alias ∷ sign S.Assign ∷ Name x.operator ∷ sign S.LeftParen ∷ Listed S.Semicolon SpellsInput x.inputs ∷ sign S.RightParen
    ∷ SpellsEnd x.clauses ∷ []) ts × (first ts ≡ Some x.at)
is_invocation (U.invocation at xs l q t o c n ps x a b d dh start assign named left dp right dx) = (
  joined a _ dh (joined (q ∷ []) _ (one q assign) (joined (t ∷ []) _ (name t n named) (joined (o ∷ []) _ (one o left)
      (joined b _ dp (joined (c ∷ []) d (one c right) dx))))),
  first-append a _ (begins_first start),
)

pub invocation_lines : InvocationLines
invocation_lines = record {
  parameter = λ p ts. (is_parameter, parameter_is);
  one_variable = λ d ts h. U.one_variable d ts h;
  variables = variables;
  state = state;
  no_state = U.no_state;
  handler = λ h ts. (is_handler, λ d. handler_is h.at d.0 d.1);
  logic = λ l ts. (is_logic, logic_is l);
  window_part = λ p ts. (is_window_part, window_part_is p.arguments);
  port_window = λ w ts. (is_port_window, port_window_is);
  assignments = λ u ts. (is_assignments, assignments_is);
  clauses = λ x ts. (is_clauses, clauses_is);
  no_clauses = no_clauses;
  in_braces = in_braces;
  invocation = λ x ts. (is_invocation, λ d. invocation_is x.at d.0 d.1);
}

-- ---- composites and functions

type_definition_is : {n : Placed (List ℕ)} {h : Shape} {ts : List Token} → In (Name n ∷ sign S.Assign ∷ SpellsShape h ∷ sign S.Semicolon ∷ []) ts
    → SpellsTypeDefinition (record { name = n; shape = h }) ts
type_definition_is {h = h} (joined _ _ (name t n named) (joined _ _ (one q assign) (joined a _ d (one s semicolon)))) = U.type_definition t q s n h a named assign d semicolon

is_type_definition : {d : TypeDefinition} {ts : List Token} → SpellsTypeDefinition d ts → In (Name d.name ∷ sign S.Assign ∷ SpellsShape d.shape ∷ sign S.Semicolon ∷ []) ts
is_type_definition (U.type_definition t q s n h a named assign d semicolon) =
    joined (t ∷ []) _ (name t n named) (joined (q ∷ []) _ (one q assign) (joined a _ d (one s semicolon)))

head_port_is : (h : Option Shape) {n : Placed (List ℕ)} {ts : List Token} → head_port_line h n ts → SpellsHeadPort (record { shape = h; name = n }) ts
head_port_is None (name t n named) = U.untyped t n named
head_port_is (Some h) (joined a _ d (name t n named)) = U.typed h t n a d named

is_head_port : {p : HeadPort} {ts : List Token} → SpellsHeadPort p ts → head_port_line p.shape p.name ts
is_head_port (U.untyped t n named) = name t n named
is_head_port (U.typed h t n a d named) = joined a (t ∷ []) d (name t n named)

ports_is : {k : Keyword} {ps : List HeadPort} {ts : List Token} → In (word k ∷ Separated S.Comma SpellsHeadPort ps ∷ []) ts → SpellsPorts k ps ts
ports_is {k} {ps} (joined _ a (one t is) d) = U.ports k t ps a is d

is_ports : {k : Keyword} {ps : List HeadPort} {ts : List Token} → SpellsPorts k ps ts → In (word k ∷ Separated S.Comma SpellsHeadPort ps ∷ []) ts
is_ports (U.ports k t ps a is d) = joined (t ∷ []) a (one t is) d

outputs_first : (us is : List HeadPort) (ts : List Token) → In (SpellsPorts K.Output us ∷ sign S.Semicolon ∷ SpellsPorts K.Input is ∷ []) ts → SpellsPortLists us is ts
outputs_first us is _ (joined a _ d (joined _ b (one s semicolon) f)) = U.outputs_first us is s a b d semicolon f

inputs_first : (us is : List HeadPort) (ts : List Token) → In (SpellsPorts K.Input is ∷ sign S.Semicolon ∷ SpellsPorts K.Output us ∷ []) ts → SpellsPortLists us is ts
inputs_first us is _ (joined a _ d (joined _ b (one s semicolon) f)) = U.inputs_first us is s a b d semicolon f

in_parentheses : (us is : List HeadPort) (ts : List Token) → In (sign S.LeftParen ∷ SpellsPortLists us is ∷ sign S.RightParen ∷ []) ts → SpellsHeadPorts us is ts
in_parentheses us is _ (joined _ _ (one o left) (joined a _ d (one c right))) = U.in_parentheses o c us is a left d right

default_is : (e : Option Expr) {ts : List Token} → default_line e ts → SpellsDefault e ts
default_is None nothing = U.no_default
default_is (Some e) (joined _ a (one c colon) d) = U.default c e a colon d

is_default : {e : Option Expr} {ts : List Token} → SpellsDefault e ts → default_line e ts
is_default U.no_default = nothing
is_default (U.default c e a colon d) = joined (c ∷ []) a (one c colon) d

composite_parameter_is : {k : TypeExpr} {n : Placed (List ℕ)} {e : Option Expr} {ts : List Token}
    → In (word K.Expression ∷ sign S.Less ∷ SpellsType k ∷ sign S.Greater ∷ Dollar n ∷ SpellsDefault e ∷ sign S.Semicolon ∷ []) ts
    → SpellsCompositeParameter (record { kind = k; name = n; default = e }) ts
composite_parameter_is {k} {e = e}
    (joined _ _ (one w is) (joined _ _ (one o left) (joined a _ d (joined _ _ (one c right) (joined _ _ (dollar t n named) (joined b _ f (one s semicolon))))))) =
    U.composite_parameter w o c t s k n e a b is left d right named f semicolon

is_composite_parameter : {p : CompositeParameter} {ts : List Token} → SpellsCompositeParameter p ts
    → In (word K.Expression ∷ sign S.Less ∷ SpellsType p.kind ∷ sign S.Greater ∷ Dollar p.name ∷ SpellsDefault p.default ∷ sign S.Semicolon ∷ []) ts
is_composite_parameter (U.composite_parameter w o c t s k n e a b is left d right named f semicolon) =
    joined (w ∷ []) _ (one w is) (joined (o ∷ []) _ (one o left) (joined a _ d (joined (c ∷ []) _ (one c right)
    (joined (t ∷ []) _ (dollar t n named) (joined b _ f (one s semicolon))))))

public : (ts : List Token) → word K.Public ts → SpellsPublic ts
public _ (one t is) = U.public t is

composite_is : {n : Placed (List ℕ)} {us is : List HeadPort} {ps : List CompositeParameter} {ds : List TypeDefinition} {xs : List Invocation} {gs : List Parameter} {ts : List Token}
    → In (SpellsPublic ∷ word K.Composite ∷ Name n ∷ SpellsHeadPorts us is ∷ sign S.LeftBrace ∷ Clause K.Param SpellsCompositeParameter ps
    ∷ Clause K.Type SpellsTypeDefinition ds ∷ Clause K.Graph SpellsInvocation xs ∷ Clause K.Config SpellsParameter gs ∷ sign S.RightBrace ∷ []) ts
    → SpellsComposite (record { name = n; outputs = us; inputs = is; parameters = ps; types = ds; graph = xs; config = gs }) ts
composite_is {us = us} {is} {ps} {ds} {xs} {gs}
    (joined z _ dz (joined _ _ (one w kind) (joined _ _ (name t n named) (joined a _ da (joined _ _ (one o left) (joined b _ db (joined d _ dd (joined e _ de (joined f _ df (one c right)))))))))) =
    U.composite w t o c n us is ps ds xs gs z a b d e f dz kind named da left db dd de df right

is_composite : {x : Composite} {ts : List Token} → SpellsComposite x ts
    → In (SpellsPublic ∷ word K.Composite ∷ Name x.name ∷ SpellsHeadPorts x.outputs x.inputs ∷ sign S.LeftBrace
    ∷ Clause K.Param SpellsCompositeParameter x.parameters ∷ Clause K.Type SpellsTypeDefinition x.types ∷ Clause K.Graph SpellsInvocation x.graph
    ∷ Clause K.Config SpellsParameter x.config ∷ sign S.RightBrace ∷ []) ts
is_composite (U.composite w t o c n us is ps ds xs gs z a b d e f dz kind named da left db dd de df right) =
    joined z _ dz (joined (w ∷ []) _ (one w kind) (joined (t ∷ []) _ (name t n named) (joined a _ da (joined (o ∷ []) _ (one o left)
    (joined b _ db (joined d _ dd (joined e _ de (joined f _ df (one c right)))))))))

result_is : (k : Option TypeExpr) {ts : List Token} → result_line k ts → SpellsResultType k ts
result_is None (one t is) = U.void t is
result_is (Some k) {ts} d = U.a_type k ts d

is_result : {k : Option TypeExpr} {ts : List Token} → SpellsResultType k ts → result_line k ts
is_result (U.void t is) = one t is
is_result (U.a_type k a d) = d

function_is : {k : Option TypeExpr} {n : Placed (List ℕ)} {xs : List (Attribute TypeExpr)} {ss : List Stmt} {ts : List Token}
    → In (SpellsResultType k ∷ Name n ∷ sign S.LeftParen ∷ SpellsFunctionParameters xs ∷ sign S.RightParen ∷ SpellsBlock ss ∷ []) ts
    → SpellsFunction (record { result = k; name = n; parameters = xs; body = ss }) ts
function_is {k} {xs = xs} {ss} (joined a _ dk (joined _ _ (name t n named) (joined _ _ (one o left) (joined b _ dx (joined _ d (one c right) ds))))) =
    U.function k t o c n xs ss a b d dk named left dx right ds

is_function : {f : FunctionDefinition} {ts : List Token} → SpellsFunction f ts
    → In (SpellsResultType f.result ∷ Name f.name ∷ sign S.LeftParen ∷ SpellsFunctionParameters f.parameters ∷ sign S.RightParen ∷ SpellsBlock f.body ∷ []) ts
is_function (U.function k t o c n xs ss a b d dk named left dx right ds) =
    joined a _ dk (joined (t ∷ []) _ (name t n named) (joined (o ∷ []) _ (one o left) (joined b _ dx (joined (c ∷ []) d (one c right) ds))))

definition_is : {x : Definition} {ts : List Token} → DefinitionLine x ts → SpellsDefinition x ts
definition_is (a_type x _ (joined _ a (one w is) d)) = U.a_typedef w x a is d
definition_is (a_function x ts d) = U.a_function x ts d
definition_is (a_composite x ts d) = U.a_composite x ts d

is_definition : {x : Definition} {ts : List Token} → SpellsDefinition x ts → DefinitionLine x ts
is_definition (U.a_typedef w x a is d) = a_type x _ (joined (w ∷ []) a (one w is) d)
is_definition (U.a_function x a d) = a_function x a d
is_definition (U.a_composite x a d) = a_composite x a d

namespace : (ns : List (Placed (List ℕ))) (ts : List Token) → In (word K.Namespace ∷ Separated S.Dot SpellsName ns ∷ sign S.Semicolon ∷ []) ts → SpellsNamespace ts
namespace ns _ (joined _ _ (one w is) (joined a _ d (one s semicolon))) = U.namespace w s ns a is d semicolon

unit_is : {ds : List Definition} {ts : List Token} → In (SpellsNamespace ∷ Row SpellsDefinition ds ∷ []) ts → SpellsUnit ds ts
unit_is {ds} (joined a b d f) = U.unit ds a b d f

is_unit : {ds : List Definition} {ts : List Token} → SpellsUnit ds ts → In (SpellsNamespace ∷ Row SpellsDefinition ds ∷ []) ts
is_unit (U.unit ds a b d f) = joined a b d f

pub definition_lines : DefinitionLines
definition_lines = record {
  type_definition = λ d ts. (is_type_definition, type_definition_is);
  head_port = λ p ts. (is_head_port, head_port_is p.shape);
  ports = λ k ps ts. (is_ports, ports_is);
  outputs_alone = λ us ts d. U.outputs_alone us ts d;
  inputs_alone = λ is ts d. U.inputs_alone is ts d;
  outputs_first = outputs_first;
  inputs_first = inputs_first;
  no_ports = U.no_ports;
  in_parentheses = in_parentheses;
  default = λ e ts. (is_default, default_is e);
  composite_parameter = λ p ts. (is_composite_parameter, composite_parameter_is);
  not_public = U.not_public;
  public = public;
  composite = λ c ts. (is_composite, composite_is);
  result_type = λ k ts. (is_result, result_is k);
  function = λ f ts. (is_function, function_is);
  definition = λ d ts. (is_definition, definition_is);
  no_namespace = U.no_namespace;
  namespace = namespace;
  unit = λ ds ts. (is_unit, unit_is);
}

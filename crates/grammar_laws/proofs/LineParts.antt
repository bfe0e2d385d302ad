-- What the parts of the grammar's lines are: lists with signs between them, clauses, and phrases that may be left out.
use Rattle.std.proofs.Common.{◌≡◌, ℕ, Bool, true, false, List, [], ◌∷◌, ◌++◌, Option, Some, None, subst}
use Rattle.spl_tree.specs.declared.expression.ExprKind.TheVariants as X
use Rattle.spl_tree.specs.declared.expression.Field.{Field}
use Rattle.spl_tree.specs.declared.expression.Placed.{Placed}
use Rattle.spl_tree.specs.declared.expression.Step.{Step}
use Rattle.spl_tree.specs.declared.expression.Step.TheVariants as N
use Rattle.spl_tree.specs.declared.keyword.Keyword.{Keyword}
use Rattle.spl_tree.specs.declared.keyword.Keyword.TheVariants as K
use Rattle.spl_tree.specs.declared.shape.Attribute.{Attribute}
use Rattle.spl_tree.specs.declared.symbol.Symbol.{Symbol}
use Rattle.spl_tree.specs.declared.symbol.Symbol.TheVariants as S
use Rattle.spl_tree.specs.declared.token.Token.{Token}
use Rattle.spl_tree.specs.declared.token.TokenKind.TheVariants as T
use Rattle.spl_tree.specs.declared.unit.Clauses.{Clauses}
use Rattle.spl_tree.specs.declared.unit.Composite.{Composite}
use Rattle.spl_tree.specs.declared.unit.CompositeParameter.{CompositeParameter}
use Rattle.spl_tree.specs.declared.unit.HandledEvent.{HandledEvent}
use Rattle.spl_tree.specs.declared.unit.HandledEvent.TheVariants as V
use Rattle.spl_tree.specs.declared.unit.Handler.{Handler}
use Rattle.spl_tree.specs.declared.unit.HeadPort.{HeadPort}
use Rattle.spl_tree.specs.declared.unit.InputPort.{InputPort}
use Rattle.spl_tree.specs.declared.unit.Logic.{Logic}
use Rattle.spl_tree.specs.declared.unit.OutputStream.{OutputStream}
use Rattle.spl_tree.specs.declared.unit.TypeDefinition.{TypeDefinition}
use Rattle.spl_tree.specs.declared.unit.WindowPart.{WindowPart}
use Rattle.spl_tree.specs.spellings.Grammar as G
use Rattle.spl_tree.specs.Trees.{Expr, Prefix, placed, TypeExpr, Shape, Stmt}
use Rattle.spl_tree.specs.spellings.Phrases as R
use Rattle.spl_tree.specs.spellings.Phrases.{Row, Separated, Listed}
use Rattle.spl_tree.specs.spellings.TypeGrammar as Q
use Rattle.spl_tree.specs.spellings.TypeGrammar.{SpellsType, SpellsAttributes, SpellsFunctionParameters}
use Rattle.spl_tree.specs.spellings.StatementGrammar as Z
use Rattle.spl_tree.specs.spellings.StatementGrammar.{SpellsBlock, SpellsCall, SpellsDeclaration, SpellsMutable, SpellsStmts, SpellsValue}
use Rattle.spl_tree.specs.spellings.UnitGrammar as U
use Rattle.spl_tree.specs.spellings.UnitGrammar.{SpellsName, SpellsAlias, SpellsTypeDefinition, SpellsParameter, Clause, PlacedClause, SpellsStream, SpellsOutputStream, SpellsInput, SpellsHandler, SpellsLogic, SpellsWindowPart, SpellsPortWindow, SpellsOutputAssignments, SpellsClauses, SpellsInvocation, SpellsHeadPort, SpellsPorts, SpellsDefault, SpellsCompositeParameter, SpellsPublic, SpellsResultType}
use Rattle.spl_tree.specs.Grammar as L
use Rattle.grammar_laws.specs.Pieces.{One, one, word, sign, Name, name, joined, nothing, In}
use Rattle.grammar_laws.specs.UnitLines as W
use Rattle.grammar_laws.specs.UnitLines.{EventWord, window_part_line, head_port_line}
use Rattle.grammar_laws.proofs.ExpressionLines.{list_lines}
use Rattle.grammar_laws.proofs.PartLines.{part_lines}
use Rattle.grammar_laws.proofs.DefinitionLines.{definition_lines, invocation_lines, port_lines}
use Rattle.grammar_laws.proofs.Meanings.{MeantAll, Perhaps, absent, present, Front, operator, cast, SomeStmt, some_stmt, only, alone, line, both, keep, begun, along, followed, ending, rows, separate}

-- ---- expressions

items : {es : List Expr} {ts : List Token} → Separated S.Comma G.Spells es ts → G.Items es ts
items (R.first e a d) = G.first_item e a d
items (R.next es e t a b ds comma d) = G.next_item es e t a b (items ds) comma d

pub items_of : (e : Expr) (es : List Expr) (ts : List Token) → MeantAll (L.expressions (e ∷ es)) ts → G.Items (e ∷ es) ts
items_of e es ts h = items (separate S.Comma (L.alone L.Expression) (alone L.Expression) e es ts h)

pub elements_of : (es : List Expr) (ts : List Token) → MeantAll (L.expressions es) ts → G.Elements es ts
elements_of [] _ nothing = G.no_elements
elements_of (e ∷ es) ts h = G.elements (e ∷ es) ts (items_of e es ts h)

abbrev Entry : Expr × Expr → List Token → Type 0
Entry e = In (G.Spells e.0 ∷ sign S.Colon ∷ G.Spells e.1 ∷ [])

entries : {es : List (Expr × Expr)} {ts : List Token} → Separated S.Comma Entry es ts → G.Entries es ts
entries (R.first e a d) = list_lines.entry e.0 e.1 a d
entries (R.next es e t a b ds comma d) = list_lines.entries es e.0 e.1 _ (joined a _ (entries ds) (joined (t ∷ []) b (one t comma) d))

pub entries_of : (e : Expr × Expr) (es : List (Expr × Expr)) (ts : List Token) → MeantAll (L.separated S.Comma L.entry (e ∷ es)) ts → G.Entries (e ∷ es) ts
entries_of e es ts h = entries (separate S.Comma L.entry (λ x. line (L.entry x)) e es ts h)

abbrev NamedValue : Field Expr → List Token → Type 0
NamedValue f = In (Name f.name ∷ sign S.Assign ∷ G.Spells f.value ∷ [])

fields : {fs : List (Field Expr)} {ts : List Token} → Separated S.Comma NamedValue fs ts → G.Fields fs ts
fields (R.first f a d) = list_lines.field f.name f.value a d
fields (R.next fs f t a b ds comma d) = list_lines.fields fs f.name f.value _ (joined a _ (fields ds) (joined (t ∷ []) b (one t comma) d))

pub fields_of : (f : Field Expr) (fs : List (Field Expr)) (ts : List Token) → MeantAll (L.separated S.Comma L.field (f ∷ fs)) ts → G.Fields (f ∷ fs) ts
fields_of f fs ts h = fields (separate S.Comma L.field (λ x. line (L.field x)) f fs ts h)

abbrev OneStep : Step Expr → List Token → Type 0
OneStep (N.Member n) = In (sign S.Dot ∷ Name n ∷ [])
OneStep (N.Index e) = In (sign S.LeftBracket ∷ G.Spells e ∷ sign S.RightBracket ∷ [])

steps : {ss : List (Step Expr)} {ts : List Token} → Row OneStep ss ts → G.Steps ss ts
steps R.none = G.no_steps
steps (R.more ss (N.Member n) a b ds d) = list_lines.member ss n _ (joined a b (steps ds) d)
steps (R.more ss (N.Index e) a b ds d) = list_lines.index ss e _ (joined a b (steps ds) d)

step_of : (s : Step Expr) (ts : List Token) → MeantAll (L.step s) ts → OneStep s ts
step_of (N.Member n) ts h = line (L.step (N.Member n)) ts h
step_of (N.Index e) ts h = line (L.step (N.Index e)) ts h

pub steps_of : (ss : List (Step Expr)) (ts : List Token) → MeantAll (L.row L.step ss) ts → G.Steps ss ts
steps_of ss ts h = steps (rows L.step step_of ss ts h)

prefixes : {ps : List Prefix} {ts : List Token} → Row Front ps ts → G.Prefixes ps ts
prefixes R.none = G.no_prefixes
prefixes (R.more ps _ a _ ds (operator t p is)) = G.operator ps a t p (prefixes ds) is
prefixes (R.more ps _ a _ ds (cast o t c target left is right)) = G.cast ps a o t c target (prefixes ds) left is right

pub prefixes_of : (ps : List Prefix) (ts : List Token) → MeantAll (L.row (L.alone L.InFront) ps) ts → G.Prefixes ps ts
prefixes_of ps ts h = prefixes (rows (L.alone L.InFront) (alone L.InFront) ps ts h)

pub call_of : (n : Placed (List ℕ)) (es : List Expr) (ts : List Token) → MeantAll (L.call_of n es) ts → SpellsCall (placed n.at (X.Call n.what es)) ts
call_of n es ts h = part_lines.call n es ts (keep (keep (ending (L.expressions es) (elements_of es) (T.Symbol S.RightParen))) ts h)

-- ---- types and statements

abbrev NamedType : Attribute TypeExpr → List Token → Type 0
NamedType x = In (SpellsType x.kind ∷ Name x.name ∷ [])

attributes : {xs : List (Attribute TypeExpr)} {ts : List Token} → Separated S.Comma NamedType xs ts → SpellsAttributes xs ts
attributes (R.first x a d) = part_lines.attribute x.kind x.name a d
attributes (R.next xs x t a b ds comma d) = part_lines.attributes xs x.kind x.name _ (joined a _ (attributes ds) (joined (t ∷ []) b (one t comma) d))

pub attributes_of : (x : Attribute TypeExpr) (xs : List (Attribute TypeExpr)) (ts : List Token) → MeantAll (L.attributes (x ∷ xs)) ts → SpellsAttributes (x ∷ xs) ts
attributes_of x xs ts h = attributes (separate S.Comma (λ y. L.AType y.kind ∷ L.Name y.name ∷ []) (λ y. line (L.AType y.kind ∷ L.Name y.name ∷ [])) x xs ts h)

pub parameters_of : (xs : List (Attribute TypeExpr)) (ts : List Token) → MeantAll (L.attributes xs) ts → SpellsFunctionParameters xs ts
parameters_of [] _ nothing = Q.no_parameters
parameters_of (x ∷ xs) ts h = Q.parameters (x ∷ xs) ts (attributes_of x xs ts h)

statements : {ss : List Stmt} {ts : List Token} → Row SomeStmt ss ts → SpellsStmts ss ts
statements R.none = Z.no_statements
statements (R.more ss s a b ds (some_stmt closed d)) = Z.more_statements closed ss s a b (statements ds) d

pub braces_of : (ss : List Stmt) (ts : List Token) → MeantAll (L.row (L.alone L.AnyStatement) ss ++ L.Sign S.RightBrace ∷ []) ts → In (SpellsStmts ss ∷ sign S.RightBrace ∷ []) ts
braces_of ss = ending (L.row (L.alone L.AnyStatement) ss) (λ b d. statements (rows (L.alone L.AnyStatement) (alone L.AnyStatement) ss b d)) (T.Symbol S.RightBrace)

pub block_of : (ss : List Stmt) (ts : List Token) → MeantAll (L.block ss) ts → SpellsBlock ss ts
block_of ss ts h = (part_lines.block ss ts).1 (keep (braces_of ss) ts h)

pub mutable_of : (m : Bool) (ts : List Token) → MeantAll (L.mutable_word m) ts → SpellsMutable m ts
mutable_of false _ nothing = Z.constant
mutable_of true ts h = part_lines.mutable ts (only (L.Word K.Mutable) ts h)

abbrev pub first_value : Option Expr → List L.Phrase
first_value = L.maybe (λ e. L.Sign S.Assign ∷ L.Expression e ∷ [])

pub value_of : (v : Option Expr) (ts : List Token) → MeantAll (first_value v) ts → SpellsValue v ts
value_of None _ nothing = Z.no_value
value_of (Some e) ts h = part_lines.value e ts (line (first_value (Some e)) ts h)

pub result_of : (k : Option TypeExpr) (ts : List Token) → MeantAll (L.result_type k) ts → SpellsResultType k ts
result_of None ts h = (definition_lines.result_type None ts).1 (only (L.Word K.Void) ts h)
result_of (Some k) ts h = (definition_lines.result_type (Some k) ts).1 (only (L.AType k) ts h)

-- ---- names and clauses

a_name : {n : Placed (List ℕ)} {ts : List Token} → Name n ts → SpellsName n ts
a_name (name t n is) = U.name t n is

pub names_of : (s : Symbol) (n : Placed (List ℕ)) (ns : List (Placed (List ℕ))) (ts : List Token)
    → MeantAll (L.separated s (L.alone L.Name) (n ∷ ns)) ts → Separated s SpellsName (n ∷ ns) ts
names_of s = separate s (L.alone L.Name) (λ n ts h. a_name {n = n} (only (L.Name n) ts h))

no_clause : {A : Type 0} {k : Keyword} {Q : A → List Token → Type 0} {ts : List Token} → Perhaps (word k) ts → Clause k Q [] ts
no_clause absent = U.no_clause
no_clause (present _ (one t is)) = U.clause t [] [] is R.none

clause_of : {A : Type 0} {Q : A → List Token → Type 0} (k : Keyword) (f : A → List L.Phrase) → ((x : A) (ts : List Token) → MeantAll (f x) ts → Q x ts) → (xs : List A) (ts : List Token)
    → MeantAll (L.clause k f xs) ts → Clause k Q xs ts
clause_of k f each [] ts h = no_clause (only (L.Optional (L.Word k)) ts h)
clause_of k f each (x ∷ xs) _ (joined _ b (one t is) rest) = U.clause t (x ∷ xs) b is (rows f each (x ∷ xs) b rest)

placed_clause_of : {A : Type 0} {Q : A → List Token → Type 0} (k : Keyword) (f : A → List L.Phrase) → ((x : A) (ts : List Token) → MeantAll (f x) ts → Q x ts)
    → (c : Option (Placed (List A))) (ts : List Token) → MeantAll (L.placed_clause k f c) ts → PlacedClause k Q c ts
placed_clause_of k f each None _ nothing = U.absent
placed_clause_of {Q = Q} k f each (Some c) _ (joined _ b (one t is, start) rest) =
    let same : t.start ≡ c.at = cc in
    subst (λ at. PlacedClause k Q (Some (placed at c.what)) (t ∷ b)) same (U.placed_clause t c.what b is (rows f each c.what b rest))

-- ---- invocations

pub alias_of : (l : Option (Placed (List ℕ))) (ts : List Token) → MeantAll (L.alias l) ts → SpellsAlias l ts
alias_of None ts h = (port_lines.alias None ts).1 h
alias_of (Some n) ts h = (port_lines.alias (Some n) ts).1 (line (L.alias (Some n)) ts h)

stream_of : (h : Shape) (ts : List Token) → MeantAll (L.stream h) ts → SpellsStream h ts
stream_of h ts d = (port_lines.stream h ts).1 (line (L.stream h) ts d)

pub output_of : (x : OutputStream) (ts : List Token) → MeantAll (L.output x) ts → SpellsOutputStream x ts
output_of x ts h = (port_lines.output x ts).1 (followed (L.stream x.shape) (stream_of x.shape) (L.Name x.name ∷ []) (only (L.Name x.name)) ts h)

pub inputs_of : (ps : List InputPort) (ts : List Token) → MeantAll (L.separated S.Semicolon (L.alone L.Input) ps) ts → Listed S.Semicolon SpellsInput ps ts
inputs_of [] _ nothing = R.empty
inputs_of (p ∷ ps) ts h = R.some (p ∷ ps) ts (separate S.Semicolon (L.alone L.Input) (alone L.Input) p ps ts h)

event_of : (v : HandledEvent) (ts : List Token) → One (T.Keyword (L.event_word v)) ts → EventWord v ts
event_of V.Tuple ts d = W.tuple ts d
event_of V.Punctuation ts d = W.punctuation ts d

handler_of : (h : Placed Handler) (ts : List Token) → MeantAll (L.handler h) ts → SpellsHandler h ts
handler_of h ts d =
    let p = begun (keep (keep (block_of h.what.body))) ts d in (invocation_lines.handler h ts).1 (both (event_of h.what.event) (λ b e. e) ts p.0, p.1)

logic_of : (l : Option (Placed Logic)) (ts : List Token) → MeantAll (L.maybe L.logic l) ts → SpellsLogic l ts
logic_of None ts h = (invocation_lines.logic None ts).1 h
logic_of (Some l) ts h = (invocation_lines.logic (Some l) ts).1 (begun (keep (rows L.handler handler_of l.what.handlers)) ts h)

window_part_pieces : (n : Placed (List ℕ)) (es : Option (List Expr)) (ts : List Token) → MeantAll (L.window_part (record { name = n; arguments = es })) ts → window_part_line es n ts
window_part_pieces n None ts h = only (L.Name n) ts h
window_part_pieces n (Some es) ts h = keep (keep (ending (L.expressions es) (elements_of es) (T.Symbol S.RightParen))) ts h

pub window_part_of : (w : WindowPart) (ts : List Token) → MeantAll (L.window_part w) ts → SpellsWindowPart w ts
window_part_of w ts h = (invocation_lines.window_part w ts).1 (window_part_pieces w.name w.arguments ts h)

abbrev output_and_config : Clauses → List L.Phrase
output_and_config x = L.placed_clause K.Output (L.alone L.Assignments) x.output ++ L.clause K.Config (L.alone L.AParameter) x.config

abbrev from_parameters : Clauses → List L.Phrase
from_parameters x = L.clause K.Param (L.alone L.AParameter) x.parameters ++ output_and_config x

abbrev from_window : Clauses → List L.Phrase
from_window x = L.placed_clause K.Window (L.alone L.Windows) x.window ++ from_parameters x

pub clauses_of : (x : Clauses) (ts : List Token) → MeantAll (L.clauses x) ts → SpellsClauses x ts
clauses_of x ts h =
    (invocation_lines.clauses x ts).1 (followed (L.maybe L.logic x.logic) (logic_of x.logic) (from_window x)
    (followed (L.placed_clause K.Window (L.alone L.Windows) x.window) (placed_clause_of K.Window (L.alone L.Windows) (alone L.Windows) x.window) (from_parameters x)
    (followed (L.clause K.Param (L.alone L.AParameter) x.parameters) (clause_of K.Param (L.alone L.AParameter) (alone L.AParameter) x.parameters) (output_and_config x)
    (followed (L.placed_clause K.Output (L.alone L.Assignments) x.output) (placed_clause_of K.Output (L.alone L.Assignments) (alone L.Assignments) x.output)
    (L.clause K.Config (L.alone L.AParameter) x.config) (clause_of K.Config (L.alone L.AParameter) (alone L.AParameter) x.config)))) ts h)

-- ---- composites

head_port_pieces : (h : Option Shape) (n : Placed (List ℕ)) (ts : List Token) → MeantAll (L.head_port (record { shape = h; name = n })) ts → head_port_line h n ts
head_port_pieces None n ts h = only (L.Name n) ts h
head_port_pieces (Some s) n ts h = followed (L.stream s) (stream_of s) (L.Name n ∷ []) (only (L.Name n)) ts h

head_port_of : (p : HeadPort) (ts : List Token) → MeantAll (L.head_port p) ts → SpellsHeadPort p ts
head_port_of p ts h = (definition_lines.head_port p ts).1 (head_port_pieces p.shape p.name ts h)

pub ports_of : (k : Keyword) (p : HeadPort) (ps : List HeadPort) (ts : List Token) → MeantAll (L.ports k (p ∷ ps)) ts → SpellsPorts k (p ∷ ps) ts
ports_of k p ps ts h = (definition_lines.ports k (p ∷ ps) ts).1 (keep (separate S.Comma L.head_port head_port_of p ps) ts h)

pub two_ports : (k l : Keyword) (p q : HeadPort) (ps qs : List HeadPort) (ts : List Token) → MeantAll (L.ports k (p ∷ ps) ++ L.Sign S.Semicolon ∷ L.ports l (q ∷ qs)) ts
    → In (SpellsPorts k (p ∷ ps) ∷ sign S.Semicolon ∷ SpellsPorts l (q ∷ qs) ∷ []) ts
two_ports k l p q ps qs = followed (L.ports k (p ∷ ps)) (ports_of k p ps) (L.Sign S.Semicolon ∷ L.ports l (q ∷ qs)) (keep (ports_of l q qs))

abbrev default : Option Expr → List L.Phrase
default = L.maybe (λ e. L.Sign S.Colon ∷ L.Expression e ∷ [])

default_of : (e : Option Expr) (ts : List Token) → MeantAll (default e) ts → SpellsDefault e ts
default_of None ts h = (definition_lines.default None ts).1 h
default_of (Some e) ts h = (definition_lines.default (Some e) ts).1 (line (default (Some e)) ts h)

composite_parameter_of : (p : CompositeParameter) (ts : List Token) → MeantAll (L.composite_parameter p) ts → SpellsCompositeParameter p ts
composite_parameter_of p ts h =
    (definition_lines.composite_parameter p ts).1 (keep (keep (keep (keep (keep (ending (default p.default) (default_of p.default) (T.Symbol S.Semicolon)))))) ts h)

pub type_definition_of : (x : TypeDefinition) (ts : List Token) → MeantAll (L.type_definition x) ts → SpellsTypeDefinition x ts
type_definition_of x ts h = (definition_lines.type_definition x ts).1 (line (L.type_definition x) ts h)

pub public_of : (ts : List Token) → Perhaps (word K.Public) ts → SpellsPublic ts
public_of _ absent = U.not_public
public_of ts (present _ d) = definition_lines.public ts d

abbrev graph_and_config : Composite → List L.Phrase
graph_and_config c = L.clause K.Graph (L.alone L.AnInvocation) c.graph ++ L.clause K.Config (L.alone L.AParameter) c.config

abbrev from_types : Composite → List L.Phrase
from_types c = L.clause K.Type L.type_definition c.types ++ graph_and_config c

abbrev body : Composite → List L.Phrase
body c = L.clause K.Param L.composite_parameter c.parameters ++ from_types c

pub body_of : (c : Composite) (ts : List Token) → MeantAll (body c ++ L.Sign S.RightBrace ∷ []) ts
    → In (Clause K.Param SpellsCompositeParameter c.parameters ∷ Clause K.Type SpellsTypeDefinition c.types ∷ Clause K.Graph SpellsInvocation c.graph
    ∷ Clause K.Config SpellsParameter c.config ∷ sign S.RightBrace ∷ []) ts
body_of c ts h =
    keep (keep along) ts (keep along ts (along ts (ending (body c)
    (followed (L.clause K.Param L.composite_parameter c.parameters) (clause_of K.Param L.composite_parameter composite_parameter_of c.parameters) (from_types c)
    (followed (L.clause K.Type L.type_definition c.types) (clause_of K.Type L.type_definition type_definition_of c.types) (graph_and_config c)
    (followed (L.clause K.Graph (L.alone L.AnInvocation) c.graph) (clause_of K.Graph (L.alone L.AnInvocation) (alone L.AnInvocation) c.graph)
    (L.clause K.Config (L.alone L.AParameter) c.config) (clause_of K.Config (L.alone L.AParameter) (alone L.AParameter) c.config))))
    (T.Symbol S.RightBrace) ts h)))

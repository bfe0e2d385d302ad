-- Statements, invocations, definitions and programs are spelled by the lines of the grammar.
use Rattle.std.proofs.Common.{◌≡◌, ◌∙◌, ℕ, Bool, true, List, [], ◌∷◌, ◌++◌, Option, refl, ap, subst, append_assoc}
use Rattle.spl_tree.specs.declared.expression.Field.{Field}
use Rattle.spl_tree.specs.declared.expression.Placed.{Placed}
use Rattle.spl_tree.specs.declared.keyword.Keyword.{Keyword}
use Rattle.spl_tree.specs.declared.keyword.Keyword.TheVariants as K
use Rattle.spl_tree.specs.declared.statement.Declaration.{Declaration}
use Rattle.spl_tree.specs.declared.statement.StmtKind.TheVariants as Z
use Rattle.spl_tree.specs.declared.symbol.Symbol.TheVariants as S
use Rattle.spl_tree.specs.declared.token.Token.{Token}
use Rattle.spl_tree.specs.declared.token.TokenKind.TheVariants as T
use Rattle.spl_tree.specs.declared.unit.Clauses.{Clauses}
use Rattle.spl_tree.specs.declared.unit.Composite.{Composite}
use Rattle.spl_tree.specs.declared.unit.CompositeParameter.{CompositeParameter}
use Rattle.spl_tree.specs.declared.unit.Definition.{Definition}
use Rattle.spl_tree.specs.declared.unit.Definition.TheVariants as D
use Rattle.spl_tree.specs.declared.unit.FunctionDefinition.{FunctionDefinition}
use Rattle.spl_tree.specs.declared.unit.HandledEvent.{HandledEvent}
use Rattle.spl_tree.specs.declared.unit.Handler.{Handler}
use Rattle.spl_tree.specs.declared.unit.HeadPort.{HeadPort}
use Rattle.spl_tree.specs.declared.unit.InputPort.{InputPort}
use Rattle.spl_tree.specs.declared.unit.Invocation.{Invocation}
use Rattle.spl_tree.specs.declared.unit.Logic.{Logic}
use Rattle.spl_tree.specs.declared.unit.OutputAssignments.{OutputAssignments}
use Rattle.spl_tree.specs.declared.unit.OutputStream.{OutputStream}
use Rattle.spl_tree.specs.declared.unit.Parameter.{Parameter}
use Rattle.spl_tree.specs.declared.unit.PortWindow.{PortWindow}
use Rattle.spl_tree.specs.declared.unit.TypeDefinition.{TypeDefinition}
use Rattle.spl_tree.specs.declared.unit.WindowPart.{WindowPart}
use Rattle.spl_tree.specs.Trees.{Expr, placed, Stmt, TypeExpr, Shape}
use Rattle.spl_tree.specs.spellings.Grammar.{Is}
use Rattle.spl_tree.specs.spellings.Phrases.{Phrase}
use Rattle.spl_tree.specs.Grammar as P
use Rattle.spl_tree.specs.spellings.StatementGrammar as G
use Rattle.spl_tree.specs.spellings.StatementGrammar.{SpellsPlace, SpellsCall, SpellsValue, SpellsMutable, SpellsDeclaration, SpellsReturned, BeginsAt, SpellsStmt, SpellsArms, SpellsStmts, SpellsBlock}
use Rattle.spl_tree.specs.spellings.TypeGrammar.{named}
use Rattle.spl_tree.specs.spellings.UnitGrammar as U
use Rattle.spl_tree.specs.spellings.UnitGrammar.{SpellsName, SpellsAlias, SpellsTypeDefinition, SpellsParameter, Clause, PlacedClause, SpellsStream, SpellsOutputStream, SpellsHead, SpellsInput, SpellsStateClause, HandlesEvent, SpellsHandler, SpellsLogic, SpellsWindowPart, SpellsPortWindow, SpellsOutputAssignments, SpellsClauses, SpellsEnd, SpellsInvocation, SpellsHeadPort, SpellsPorts, SpellsPortLists, SpellsHeadPorts, SpellsDefault, SpellsCompositeParameter, SpellsPublic, SpellsComposite, SpellsResultType, SpellsFunction, SpellsDefinition, SpellsNamespace, SpellsUnit}
use Rattle.grammar_laws.proofs.ToLines.{by_line, token, at_token, part, last, all_append, between, enclosed, row_next, rows, alone, OneOrMore, one_or_more, separated, listed, elements, items, fields, steps, expression, a_type, shape, function_parameters}

-- ---- statements

place : {e : Expr} {a : List Token} → SpellsPlace e a → P.Spells (P.Place e) a
place (G.variable t n is) = by_line (P.variable (placed t.start n)) (at_token t is P.none)
place (G.taken t n s ss a is ds) = by_line (P.taken (placed t.start n) s ss) (at_token t is (steps ds))

call : {e : Expr} {a : List Token} (s : Token) → SpellsCall e a → Is S.Semicolon s → P.Spells (P.Statement true (placed e.at (Z.Call e))) (a ++ s ∷ [])
call s (G.call t o c n es a is left ds right) semi =
    by_line (P.call_alone (placed t.start n) es) (all_append (at_token t is (between o c left (elements ds) right)) (token s semi P.none))

value : {v : Option Expr} {a : List Token} → SpellsValue v a → P.SpellsAll (P.maybe (λ e. P.Sign S.Assign ∷ P.Expression e ∷ []) v) a
value G.no_value = P.none
value (G.value t e a assign d) = token t assign (last (expression d))

mutable_word : {m : Bool} {a : List Token} → SpellsMutable m a → P.SpellsAll (P.mutable_word m) a
mutable_word G.constant = P.none
mutable_word (G.mutable t is) = token t is P.none

declaration : (d : Declaration) (a : List Token) → SpellsDeclaration d a → P.Spells (P.Variable d) a
declaration _ _ (G.declaration m k t s n v a b d dm dk is dv semi) =
    by_line (P.declaration (record { mutable = m; kind = k; name = placed t.start n; value = v }))
    (all_append (mutable_word dm) (part (a_type dk) (at_token t is (all_append (value dv) (token s semi P.none)))))

returned : {v : Option Expr} {a : List Token} → SpellsReturned v a → P.SpellsAll (P.maybe (P.alone P.Expression) v) a
returned G.no_result = P.none
returned (G.result e a d) = last (expression d)

at_first : {at : ℕ} {p : P.Phrase} {a : List Token} → BeginsAt at a → P.Spells p a → P.Spells (P.At at p) a
at_first {p = p} (G.begins t a) d = P.at_place p t a d

mutual
  statement : {closed : Bool} {s : Stmt} {a : List Token} → SpellsStmt closed s a → P.Spells (P.Statement closed s) a
  statement (G.block o c ss a left ds right) = by_line (P.compound o.start ss) (at_token o left (all_append (statements ds) (token c right P.none)))
  statement (G.declare d at a dd start) = by_line (P.declare at d) (last (at_first start (declaration d a dd)))
  statement (G.assign p e t s op a b dp known d semi) = by_line (P.assign p e op t.kind known) (part (place dp) (token t refl (part (expression d) (token s semi P.none))))
  statement (G.call_alone e s a d semi) = call s d semi
  statement (G.if_alone closed at all a ds) = by_line (P.if_alone closed at all) (last (arms ds))
  statement (G.if_else closed at all s t a b ds is d other) = by_line (P.if_else closed at all s other) (part (arms ds) (token t is (last (statement d))))
  statement (G.while closed t o c e s a b is left de right d) =
      by_line (P.while closed t.start e s) (at_token t is (token o left (part (expression de) (token c right (last (statement d))))))
  statement (G.for closed t o v i c k n e s a b f is left dk name within de right d) =
      by_line (P.for closed t.start (named k v n) e s)
      (at_token t is (token o left (part (a_type dk) (at_token v name (token i within (part (expression de) (token c right (last (statement d)))))))))
  statement (G.break t s is semi) = by_line (P.break t.start) (at_token t is (token s semi P.none))
  statement (G.continue t s is semi) = by_line (P.continue t.start) (at_token t is (token s semi P.none))
  statement (G.return t s v a is d semi) = by_line (P.return t.start v) (at_token t is (all_append (returned d) (token s semi P.none)))
  statement (G.submit t o m n c s e stream a is left d comma name right semi) =
      by_line (P.submit t.start e (placed n.start stream))
      (at_token t is (token o left (part (expression d) (token m comma (at_token n name (token c right (token s semi P.none)))))))

  arms : {closed : Bool} {at : ℕ} {all : List (Expr × Stmt)} {a : List Token} → SpellsArms closed at all a → P.Spells (P.Arms closed at all) a
  arms (G.first_arm closed t o c e s a b is left de right d) =
      by_line (P.first_arm closed t.start e s) (at_token t is (token o left (part (expression de) (token c right (last (statement d))))))
  arms (G.next_arm closed at all l t o c e s a b f before after is left de right d) =
      by_line (P.next_arm closed at all e s) (part (arms before) (token l after (token t is (token o left (part (expression de) (token c right (last (statement d))))))))

  statements : {ss : List Stmt} {a : List Token} → SpellsStmts ss a → P.SpellsAll (P.row (P.alone P.AnyStatement) ss) a
  statements G.no_statements = P.none
  statements (G.more_statements closed ss s a b ds d) = row_next (P.alone P.AnyStatement) ss s (statements ds) (last (by_line (P.any closed s) (last (statement d))))

block : {ss : List Stmt} {a : List Token} → SpellsBlock ss a → P.SpellsAll (P.block ss) a
block (G.block_of o c ss a left ds right) = between o c left (statements ds) right

-- ---- parts of definitions

name : (n : Placed (List ℕ)) (a : List Token) → SpellsName n a → P.Spells (P.Name n) a
name _ _ (U.name t n is) = P.at_place (P.OneToken (T.Word n)) t [] (P.token t (T.Word n) is)

alias : {l : Option (Placed (List ℕ))} {a : List Token} → SpellsAlias l a → P.SpellsAll (P.alias l) a
alias U.no_alias = P.none
alias (U.alias k t n word is) = token k word (at_token t is P.none)

type_definition : (x : TypeDefinition) (a : List Token) → SpellsTypeDefinition x a → P.SpellsAll (P.type_definition x) a
type_definition _ _ (U.type_definition t q s n h a is assign d semi) = at_token t is (token q assign (part (shape d) (token s semi P.none)))

parameter : (p : Parameter) (a : List Token) → SpellsParameter p a → P.Spells (P.AParameter p) a
parameter _ _ (U.parameter t c s n es a is colon ds semi) = by (items ds)
  where
    by : {es : List Expr} {a : List Token} → OneOrMore S.Comma (P.alone P.Expression) es a
        → P.Spells (P.AParameter (record { name = placed t.start n; values = es })) (t ∷ c ∷ (a ++ s ∷ []))
    by (one_or_more e es a d) = by_line (P.parameter (placed t.start n) e es) (at_token t is (token c colon (all_append d (token s semi P.none))))

with_word : {A : Type 0} (k : Keyword) (f : A → List P.Phrase) (t : Token) (xs : List A) {a : List Token} → t.kind ≡ T.Keyword k → P.SpellsAll (P.row f xs) a
    → P.SpellsAll (P.clause k f xs) (t ∷ a)
with_word k f t [] is P.none = last (by_line (P.present (P.Word k)) (token t is P.none))
with_word k f t (x ∷ xs) is ds = token t is ds

clause : {A : Type 0} {k : Keyword} {Q : Phrase A} (f : A → List P.Phrase) → ((x : A) (a : List Token) → Q x a → P.SpellsAll (f x) a)
    → {xs : List A} {a : List Token} → Clause k Q xs a → P.SpellsAll (P.clause k f xs) a
clause {k = k} f each U.no_clause = last (by_line (P.absent (P.Word k)) P.none)
clause {k = k} f each (U.clause t xs a is ds) = with_word k f t xs is (rows f each ds)

placed_clause : {A : Type 0} {k : Keyword} {Q : Phrase A} (f : A → List P.Phrase) → ((x : A) (a : List Token) → Q x a → P.SpellsAll (f x) a)
    → {c : Option (Placed (List A))} {a : List Token} → PlacedClause k Q c a → P.SpellsAll (P.placed_clause k f c) a
placed_clause f each U.absent = P.none
placed_clause f each (U.placed_clause t xs a is ds) = at_token t is (rows f each ds)

-- ---- invocations

stream : {h : Shape} {a : List Token} → SpellsStream h a → P.SpellsAll (P.stream h) a
stream (U.stream t o c h a is less d greater) = token t is (token o less (part (shape d) (token c greater P.none)))

output : (x : OutputStream) (a : List Token) → SpellsOutputStream x a → P.SpellsAll (P.output x) a
output _ _ (U.output h t n a d is) = all_append (stream d) (at_token t is P.none)

head : {xs : List OutputStream} {l : Option (Placed (List ℕ))} {a : List Token} → SpellsHead xs l a → P.Spells (P.Head xs l) a
head (U.one_stream x l a b d given) = by_line (P.one_stream x l) (all_append (output x a d) (alias given))
head (U.streams o c xs l a b left ds right given) = by (separated P.output output ds)
  where
    by : {xs : List OutputStream} {a : List Token} → OneOrMore S.Semicolon P.output xs a → P.Spells (P.Head xs l) (o ∷ (a ++ c ∷ b))
    by (one_or_more x xs a d) = by_line (P.streams x xs l) (enclosed o c left d right (alias given))
head (U.no_stream o c n a left right given) = by_line (P.no_stream n) (token o left (token c right (alias given)))

input : (x : InputPort) (a : List Token) → SpellsInput x a → P.Spells (P.Input x) a
input _ _ (U.input ns l a b ds given) = by (separated (P.alone P.Name) (alone P.Name name) ds)
  where
    by : {ns : List (Placed (List ℕ))} {a : List Token} → OneOrMore S.Comma (P.alone P.Name) ns a → P.Spells (P.Input (record { streams = ns; alias = l })) (a ++ b)
    by (one_or_more n ns a d) = by_line (P.input n ns l) (all_append d (alias given))

state : {ds : List Declaration} {a : List Token} → SpellsStateClause ds a → P.Spells (P.States ds) a
state U.no_state = by_line P.no_state P.none
state (U.state t c _ _ is colon (U.one_variable d a dd)) = by_line (P.one_variable d) (token t is (token c colon (last (declaration d a dd))))
state (U.state t c _ _ is colon (U.variables o e ds a left dd right)) =
    by_line (P.variables ds) (token t is (token c colon (between o e left (rows (P.alone P.Variable) (alone P.Variable declaration) dd) right)))

event : {v : HandledEvent} {t : Token} → HandlesEvent v t → t.kind ≡ T.Keyword (P.event_word v)
event (U.on_tuple t is) = is
event (U.on_punctuation t is) = is

handler : (h : Placed Handler) (a : List Token) → SpellsHandler h a → P.SpellsAll (P.handler h) a
handler _ _ (U.handler w t c v n ss a word is colon d) = at_token w (event word) (at_token t is (token c colon (block d)))

logic : {l : Option (Placed Logic)} {a : List Token} → SpellsLogic l a → P.SpellsAll (P.maybe P.logic l) a
logic U.no_logic = P.none
logic (U.logic t ds hs a b is d dh) = at_token t is (part (state d) (rows P.handler handler dh))

window_part : (w : WindowPart) (a : List Token) → SpellsWindowPart w a → P.SpellsAll (P.window_part w) a
window_part _ _ (U.word t n is) = at_token t is P.none
window_part _ _ (U.with_arguments t o c n es a is left ds right) = at_token t is (between o c left (elements ds) right)

port_window : (w : PortWindow) (a : List Token) → SpellsPortWindow w a → P.Spells (P.Windows w) a
port_window _ _ (U.port_window t c s n ps a is colon ds semi) = by (separated P.window_part window_part ds)
  where
    by : {ps : List WindowPart} {a : List Token} → OneOrMore S.Comma P.window_part ps a
        → P.Spells (P.Windows (record { port = placed t.start n; parts = ps })) (t ∷ c ∷ (a ++ s ∷ []))
    by (one_or_more p ps a d) = by_line (P.port_window (placed t.start n) p ps) (at_token t is (token c colon (all_append d (token s semi P.none))))

assignments : (u : OutputAssignments) (a : List Token) → SpellsOutputAssignments u a → P.Spells (P.Assignments u) a
assignments _ _ (U.output_assignments t c s n fs a is colon ds semi) = by (fields ds)
  where
    by : {fs : List (Field Expr)} {a : List Token} → OneOrMore S.Comma P.field fs a
        → P.Spells (P.Assignments (record { stream = placed t.start n; assignments = fs })) (t ∷ c ∷ (a ++ s ∷ []))
    by (one_or_more f fs a d) = by_line (P.assignments (placed t.start n) f fs) (at_token t is (token c colon (all_append d (token s semi P.none))))

clauses : {x : Clauses} {a : List Token} → SpellsClauses x a → P.SpellsAll (P.clauses x) a
clauses (U.clauses l w ps u gs a b d e f dl dw dp du dg) =
    all_append (logic dl)
    (all_append (placed_clause (P.alone P.Windows) (alone P.Windows port_window) dw)
    (all_append (clause (P.alone P.AParameter) (alone P.AParameter parameter) dp)
    (all_append (placed_clause (P.alone P.Assignments) (alone P.Assignments assignments) du)
    (clause (P.alone P.AParameter) (alone P.AParameter parameter) dg))))

ending : {x : Clauses} {a : List Token} → SpellsEnd x a → P.Spells (P.Ending x) a
ending (U.no_clauses s semi) = by_line P.no_clauses (token s semi P.none)
ending (U.in_braces o c x a left d right) = by_line (P.with_clauses x) (between o c left (clauses d) right)

invocation : (v : Invocation) (a : List Token) → SpellsInvocation v a → P.Spells (P.AnInvocation v) a
invocation _ _ (U.invocation at xs l q t o c n ps x a b d dh start assign is left di right de) =
    by_line (P.invocation (record { at = at; outputs = xs; alias = l; operator = placed t.start n; inputs = ps; clauses = x }))
    (part (at_first start (head dh)) (token q assign (at_token t is (enclosed o c left (listed (P.alone P.Input) (alone P.Input input) di) right (last (ending de))))))

-- ---- composites

head_port : (p : HeadPort) (a : List Token) → SpellsHeadPort p a → P.SpellsAll (P.head_port p) a
head_port _ _ (U.untyped t n is) = at_token t is P.none
head_port _ _ (U.typed h t n a d is) = all_append (stream d) (at_token t is P.none)

-- one port or more after their word
data Ports (k : Keyword) : List HeadPort → List Token → Type 0 where
  some : (p : HeadPort) (ps : List HeadPort) (a : List Token) → P.SpellsAll (P.ports k (p ∷ ps)) a → Ports k (p ∷ ps) a

ports : {k : Keyword} {ps : List HeadPort} {a : List Token} → SpellsPorts k ps a → Ports k ps a
ports (U.ports k t ps a is ds) = by (separated P.head_port head_port ds)
  where
    by : {ps : List HeadPort} {a : List Token} → OneOrMore S.Comma P.head_port ps a → Ports k ps (t ∷ a)
    by (one_or_more p ps a d) = some p ps (t ∷ a) (token t is d)

module _ (o c : Token) (left : Is S.LeftParen o) (right : Is S.RightParen c) where
  outputs_alone : {us : List HeadPort} {a : List Token} → Ports K.Output us a → P.Spells (P.Ports us []) (o ∷ (a ++ c ∷ []))
  outputs_alone (some u us a d) = by_line (P.outputs_alone u us) (between o c left d right)

  inputs_alone : {is : List HeadPort} {a : List Token} → Ports K.Input is a → P.Spells (P.Ports [] is) (o ∷ (a ++ c ∷ []))
  inputs_alone (some i is a d) = by_line (P.inputs_alone i is) (between o c left d right)

  outputs_first : {us is : List HeadPort} {a b : List Token} (s : Token) → Ports K.Output us a → Is S.Semicolon s → Ports K.Input is b
      → P.Spells (P.Ports us is) (o ∷ ((a ++ s ∷ b) ++ c ∷ []))
  outputs_first s (some u us a d) semi (some i is b e) = by_line (P.outputs_first u i us is) (between o c left (all_append d (token s semi e)) right)

  inputs_first : {us is : List HeadPort} {a b : List Token} (s : Token) → Ports K.Input is a → Is S.Semicolon s → Ports K.Output us b
      → P.Spells (P.Ports us is) (o ∷ ((a ++ s ∷ b) ++ c ∷ []))
  inputs_first s (some i is a d) semi (some u us b e) = by_line (P.inputs_first u i us is) (between o c left (all_append d (token s semi e)) right)

  port_lists : {us is : List HeadPort} {a : List Token} → SpellsPortLists us is a → P.Spells (P.Ports us is) (o ∷ (a ++ c ∷ []))
  port_lists (U.outputs_alone us a d) = outputs_alone (ports d)
  port_lists (U.inputs_alone is a d) = inputs_alone (ports d)
  port_lists (U.outputs_first us is s a b d semi e) = outputs_first s (ports d) semi (ports e)
  port_lists (U.inputs_first us is s a b d semi e) = inputs_first s (ports d) semi (ports e)

head_ports : {us is : List HeadPort} {a : List Token} → SpellsHeadPorts us is a → P.Spells (P.Ports us is) a
head_ports U.no_ports = by_line P.no_ports P.none
head_ports (U.in_parentheses o c us is a left d right) = port_lists o c left right d

default : {v : Option Expr} {a : List Token} → SpellsDefault v a → P.SpellsAll (P.maybe (λ e. P.Sign S.Colon ∷ P.Expression e ∷ []) v) a
default U.no_default = P.none
default (U.default c e a colon d) = token c colon (last (expression d))

composite_parameter : (p : CompositeParameter) (a : List Token) → SpellsCompositeParameter p a → P.SpellsAll (P.composite_parameter p) a
composite_parameter _ _ (U.composite_parameter w o c t s k n v a b word less dk greater is dv semi) =
    token w word (token o less (part (a_type dk) (token c greater (at_token t is (all_append (default dv) (token s semi P.none))))))

public_word : {a : List Token} → SpellsPublic a → P.Spells (P.Optional (P.Word K.Public)) a
public_word U.not_public = by_line (P.absent (P.Word K.Public)) P.none
public_word (U.public t is) = by_line (P.present (P.Word K.Public)) (token t is P.none)

same_tokens : {ps : List P.Phrase} {a b : List Token} → a ≡ b → P.SpellsAll ps a → P.SpellsAll ps b
same_tokens {ps} is d = subst (λ (ts : List Token). P.SpellsAll ps ts) is d

-- four lists and a fifth one
four_append : (a b d e f : List Token) → (a ++ (b ++ (d ++ e))) ++ f ≡ a ++ (b ++ (d ++ (e ++ f)))
four_append a b d e f =
    append_assoc a (b ++ (d ++ e)) f
    ∙ ap (λ (ts : List Token). a ++ ts) (append_assoc b (d ++ e) f ∙ ap (λ (ts : List Token). b ++ ts) (append_assoc d e f))

composite : {x : Composite} {a : List Token} → SpellsComposite x a → P.Spells (P.ADefinition (D.Composite x)) a
composite (U.composite w t o c n us is ps ts xs gs z a b d e f may word named dports left dparams dtypes dgraph dconfig right) =
    by_line (P.composite (record { name = placed t.start n; outputs = us; inputs = is; parameters = ps; types = ts; graph = xs; config = gs }))
    (part (public_word may) (token w word (at_token t named (part (head_ports dports)
    (same_tokens (ap (λ (rest : List Token). o ∷ rest) (four_append b d e f (c ∷ [])))
    (between o c left
    (all_append (clause P.composite_parameter composite_parameter dparams)
    (all_append (clause P.type_definition type_definition dtypes)
    (all_append (clause (P.alone P.AnInvocation) (alone P.AnInvocation invocation) dgraph)
    (clause (P.alone P.AParameter) (alone P.AParameter parameter) dconfig)))) right))))))

-- ---- programs

result_type : {k : Option TypeExpr} {a : List Token} → SpellsResultType k a → P.SpellsAll (P.result_type k) a
result_type (U.void t is) = token t is P.none
result_type (U.a_type k a d) = last (a_type d)

function : {x : FunctionDefinition} {a : List Token} → SpellsFunction x a → P.Spells (P.ADefinition (D.Function x)) a
function (U.function k t o c n xs ss a b d dr is left dp right ds) =
    by_line (P.function (record { result = k; name = placed t.start n; parameters = xs; body = ss }))
    (all_append (result_type dr) (at_token t is (enclosed o c left (function_parameters dp) right (block ds))))

definition : (x : Definition) (a : List Token) → SpellsDefinition x a → P.Spells (P.ADefinition x) a
definition _ _ (U.a_typedef w x a is d) = by_line (P.typedef x) (token w is (type_definition x a d))
definition _ _ (U.a_function x a d) = function d
definition _ _ (U.a_composite x a d) = composite d

namespace : {a : List Token} → SpellsNamespace a → P.Spells P.Namespace a
namespace U.no_namespace = by_line P.no_namespace P.none
namespace (U.namespace w s ns a is ds semi) = by (separated (P.alone P.Name) (alone P.Name name) ds)
  where
    by : {ns : List (Placed (List ℕ))} {a : List Token} → OneOrMore S.Dot (P.alone P.Name) ns a → P.Spells P.Namespace (w ∷ (a ++ s ∷ []))
    by (one_or_more n ns a d) = by_line (P.namespace n ns) (token w is (all_append d (token s semi P.none)))

program : {unit : List Definition} {a : List Token} → SpellsUnit unit a → P.Spells (P.Program unit) a
program (U.unit xs a b dn ds) = by_line (P.program xs) (part (namespace dn) (rows (P.alone P.ADefinition) (alone P.ADefinition definition) ds))

pub unit_to_lines : (unit : List Definition) (ts : List Token) → SpellsUnit unit ts → P.Spells (P.Program unit) ts
unit_to_lines unit ts d = program d

-- What is read of invocations and their clauses is spelled so.
use Rattle.std.proofs.Common.{ℕ, List, [], ◌∷◌, ◌++◌, Option, Some, refl, append_assoc, append-nil}
use Rattle.spl_tree.specs.declared.expression.Field.{Field}
use Rattle.spl_tree.specs.declared.expression.Placed.{Placed}
use Rattle.spl_tree.specs.declared.keyword.Keyword.{Keyword}
use Rattle.spl_tree.specs.declared.keyword.Keyword.TheVariants as K
use Rattle.spl_tree.specs.declared.statement.Declaration.{Declaration}
use Rattle.spl_tree.specs.declared.symbol.Symbol.TheVariants as S
use Rattle.spl_tree.specs.declared.token.Token.{Token}
use Rattle.spl_tree.specs.declared.unit.Clauses.{Clauses}
use Rattle.spl_tree.specs.declared.unit.HandledEvent.{HandledEvent}
use Rattle.spl_tree.specs.declared.unit.Handler.{Handler}
use Rattle.spl_tree.specs.declared.unit.InputPort.{InputPort}
use Rattle.spl_tree.specs.declared.unit.OutputAssignments.{OutputAssignments}
use Rattle.spl_tree.specs.declared.unit.OutputStream.{OutputStream}
use Rattle.spl_tree.specs.declared.unit.Parameter.{Parameter}
use Rattle.spl_tree.specs.declared.unit.PortWindow.{PortWindow}
use Rattle.spl_tree.specs.declared.unit.WindowPart.{WindowPart}
use Rattle.spl_tree.specs.Trees.{Expr, placed, Shape}
use Rattle.spl_tree.specs.spellings.Grammar.{Is, Names, Elements, Items, first_item, Fields, first_field, next_field}
use Rattle.spl_tree.specs.spellings.Phrases.{IsKeyword, Row, none, Separated, Listed, empty, some}
use Rattle.spl_tree.specs.spellings.TypeGrammar.{SpellsShape}
use Rattle.spl_tree.specs.spellings.StatementGrammar.{SpellsDeclaration, BeginsAt}
use Rattle.spl_tree.specs.spellings.UnitGrammar as units
use Rattle.spl_tree.specs.spellings.UnitGrammar.{SpellsName, SpellsAlias, SpellsParameter, parameter, no_clause, clause, absent, placed_clause, SpellsStream, SpellsOutputStream, SpellsHead, SpellsInput, SpellsState, SpellsWindowPart, SpellsPortWindow, port_window, SpellsOutputAssignments, output_assignments, SpellsEnd, SpellsInvocation}
use Rattle.expr_parser.specs.Lines.{name_of}
use Rattle.expr_parser.specs.Parts.{Closed, closed}
use Rattle.statement_parser.specs.Lines as lines
use Rattle.statement_parser.specs.Lines.{Name, rule, name_at}
use Rattle.unit_parser.proofs.SoundPhrases.{Leading, SpellsField, field, Phrases}
use Rattle.unit_parser.proofs.SoundSamples.{listing_closed}
use Rattle.unit_parser.proofs.SoundRules.{LeadsTo, ended, called, last, comes_symbol, comes_word, comes_name, may_symbol, may_word, may_name, row_more, lead_first, lead_next}

-- a name that is taken
pub named_spells : {t : Token} → Names (name_of t) t → SpellsName (name_at t) (t ∷ [])
named_spells {t} word = units.name t (name_of t) word

-- Heads

pub alias_leads : LeadsTo (Phrases lines.Alias) (rule lines.Alias)
unfolding rule
alias_leads = may_word K.As (λ k is. comes_name (λ t word. ended (units.alias k t (name_of t) is word))) (ended units.no_alias)

-- `stream<shape>`
pub stream_spells : {h : Shape} {a : List Token} (w o : Token) → IsKeyword K.Stream w → Is S.Less o → Closed SpellsShape S.Greater h a → SpellsStream h (w ∷ o ∷ a)
stream_spells w o is less (closed h c a d greater) = units.stream w o c h a is less d greater

pub stream_leads : LeadsTo (Phrases lines.Stream) (rule lines.Stream)
unfolding rule
stream_leads = comes_symbol S.Less (λ o less. called (λ h. comes_name (λ t word. ended (λ a d w is.
    units.output h t (name_of t) (w ∷ o ∷ a) (stream_spells w o is less d) word))))

pub streams_leads : (xs : List OutputStream) → LeadsTo (Phrases (lines.Streams xs)) (rule (lines.Streams xs))
unfolding rule
streams_leads xs = comes_word K.Stream (λ w is. called (λ x. may_symbol S.Semicolon
    (λ t semicolon. last (λ v b r a d z lead. simp append_assoc at (r ((z ++ w ∷ a) ++ t ∷ []) (lead_next t (lead x (w ∷ a) (d w is)) semicolon))))
    (comes_symbol S.RightParen (λ c right. ended (λ a d z lead. listing_closed xs z c lead (d w is) right)))))

pub stream_head_leads : LeadsTo (Phrases lines.StreamHead) (rule lines.StreamHead)
unfolding rule
stream_head_leads = called (λ x. last (λ l b dl a d t is. units.one_stream x l (t ∷ a) b (d t is) dl))

-- streams in parentheses and an alias
list_head_spells : {xs : List OutputStream} {l : Option Name} {a b : List Token} (o : Token) → Is S.LeftParen o
    → Closed (Separated S.Semicolon SpellsOutputStream) S.RightParen xs a → SpellsAlias l b → SpellsHead xs l (o ∷ (a ++ b))
list_head_spells {l} {b} o left (closed xs c a d right) dl = rw (append_assoc a (c ∷ []) b) (units.streams o c xs l a b left d right dl)

pub list_head_leads : LeadsTo (Phrases lines.ListHead) (rule lines.ListHead)
unfolding rule
list_head_leads = may_symbol S.RightParen
    (λ c right. comes_word K.As (λ k is. comes_name (λ t word. ended (λ o left.
    units.no_stream o c (name_at t) (k ∷ t ∷ []) left right (units.alias k t (name_of t) is word)))))
    (called (λ xs. last (λ l b dl a d o left. list_head_spells o left (d [] lead_first) dl)))

-- Inputs

-- one input port or more
inputs_spell : {ps : List InputPort} {a : List Token} → Closed (Separated S.Semicolon SpellsInput) S.RightParen ps a → Closed (Listed S.Semicolon SpellsInput) S.RightParen ps a
inputs_spell (closed ps c a d right) = closed ps c a (some ps a d) right

pub inputs_leads : LeadsTo (Phrases lines.Inputs) (rule lines.Inputs)
unfolding rule
inputs_leads = may_symbol S.RightParen (λ c right. ended (closed [] c [] empty right)) (last (λ v b r. inputs_spell (r [] lead_first)))

pub more_inputs_leads : (ps : List InputPort) → LeadsTo (Phrases (lines.MoreInputs ps)) (rule (lines.MoreInputs ps))
unfolding rule
more_inputs_leads ps = called (λ ns. called (λ l. may_symbol S.Semicolon
    (λ t semicolon. last (λ v b r e dl a d z lead.
    let port = lead (record { streams = ns; alias = l }) (a ++ e) (units.input ns l a e (d [] lead_first) dl) in
    simp append_assoc at (r ((z ++ (a ++ e)) ++ t ∷ []) (lead_next t port semicolon))))
    (comes_symbol S.RightParen (λ c right. ended (λ e dl a d z lead.
    rw (← append_assoc a e (c ∷ [])) (listing_closed ps z c lead (units.input ns l a e (d [] lead_first) dl) right))))))

pub input_streams_leads : (ns : List Name) → LeadsTo (Phrases (lines.InputStreams ns)) (rule (lines.InputStreams ns))
unfolding rule
input_streams_leads ns = comes_name (λ t word. may_symbol S.Comma
    (λ c comma. last (λ v b r z lead. simp append_assoc at (r ((z ++ t ∷ []) ++ c ∷ []) (lead_next c (lead (name_at t) (t ∷ []) (named_spells word)) comma))))
    (ended (λ z lead. lead (name_at t) (t ∷ []) (named_spells word))))

-- Clauses

-- the variables of a state between braces
variables_spell : {ds : List Declaration} {a : List Token} (o : Token) → Is S.LeftBrace o → Closed (Row SpellsDeclaration) S.RightBrace ds a → SpellsState ds (o ∷ a)
variables_spell o left (closed ds c a d right) = units.variables o c ds a left d right

pub state_leads : LeadsTo (Phrases lines.State) (rule lines.State)
unfolding rule
state_leads = may_word K.State
    (λ t is. comes_symbol S.Colon (λ c colon. may_symbol S.LeftBrace
    (λ o left. last (λ ds b r. units.state t c ds (o ∷ b) is colon (variables_spell o left (r [] none))))
    (last (λ d b s. units.state t c (d ∷ []) b is colon (units.one_variable d b s)))))
    (ended units.no_state)

pub logic_leads : LeadsTo (Phrases lines.LogicClause) (rule lines.LogicClause)
unfolding rule
logic_leads = may_word K.Logic (λ t is. called (λ ds. last (λ hs b r a d. units.logic t ds hs a b is d (r [] none)))) (ended units.no_logic)

pub handlers_leads : (hs : List (Placed Handler)) → LeadsTo (Phrases (lines.Handlers hs)) (rule (lines.Handlers hs))
unfolding rule
handlers_leads hs =
    may_word K.OnTuple (λ t is. called (λ h. last (λ v b r c d a row. row_more hs h v a (t ∷ c) b r row (d t (units.on_tuple t is) refl))))
    (may_word K.OnPunct (λ t is. called (λ h. last (λ v b r c d a row. row_more hs h v a (t ∷ c) b r row (d t (units.on_punctuation t is) refl))))
    (ended (λ a row. rw (append-nil a) row)))

pub handler_leads : (at : ℕ) (event : HandledEvent) → LeadsTo (Phrases (lines.HandlerOf at event)) (rule (lines.HandlerOf at event))
unfolding rule
handler_leads at event = comes_name (λ n word. comes_symbol S.Colon (λ c colon. last (λ ss b d t handles start.
    rw (← start) (units.handler t n c event (name_of n) ss b handles word colon d))))

pub window_leads : LeadsTo (Phrases lines.WindowClause) (rule lines.WindowClause)
unfolding rule
window_leads = may_word K.Window (λ t is. last (λ ws b r. placed_clause t ws b is (r [] none))) (ended absent)

-- the parts of a window after a port
port_window_spells : {ps : List WindowPart} {a : List Token} (t c : Token) → Names (name_of t) t → Is S.Colon c
    → Closed (Separated S.Comma SpellsWindowPart) S.Semicolon ps a → SpellsPortWindow (record { port = name_at t; parts = ps }) (t ∷ c ∷ a)
port_window_spells t c word colon (closed ps s a d semicolon) = port_window t c s (name_of t) ps a word colon d semicolon

pub windows_leads : (ws : List PortWindow) → LeadsTo (Phrases (lines.Windows ws)) (rule (lines.Windows ws))
unfolding rule
windows_leads ws =
    may_name (λ t word. comes_symbol S.Colon (λ c colon. called (λ ps. last (λ v b r e d a row.
    row_more ws (record { port = name_at t; parts = ps }) v a (t ∷ c ∷ e) b r row (port_window_spells t c word colon (d [] lead_first))))))
    (ended (λ a row. rw (append-nil a) row))

pub window_parts_leads : (ps : List WindowPart) → LeadsTo (Phrases (lines.WindowParts ps)) (rule (lines.WindowParts ps))
unfolding rule
window_parts_leads ps = comes_name (λ t word. called (λ es. may_symbol S.Comma
    (λ c comma. last (λ v b r a d z lead.
    let part = lead (record { name = name_at t; arguments = es }) (t ∷ a) (d t (name_of t) word) in
    simp append_assoc at (r ((z ++ t ∷ a) ++ c ∷ []) (lead_next c part comma))))
    (comes_symbol S.Semicolon (λ s semicolon. ended (λ a d z lead. listing_closed ps z s lead (d t (name_of t) word) semicolon)))))

-- a part of a window with its arguments
part_spells : {o : Token} {es : List Expr} {a : List Token} → Is S.LeftParen o → Closed Elements S.RightParen es a → (t : Token) (n : List ℕ) → Names n t
    → SpellsWindowPart (record { name = placed t.start n; arguments = Some es }) (t ∷ o ∷ a)
part_spells {o} left (closed es c a d right) t n word = units.with_arguments t o c n es a word left d right

pub part_arguments_leads : LeadsTo (Phrases lines.PartArguments) (rule lines.PartArguments)
unfolding rule
part_arguments_leads = may_symbol S.LeftParen
    (λ o left. last (λ es a d. part_spells left d))
    (ended (λ t n word. units.word t n word))

pub parameter_clause_leads : (k : Keyword) → LeadsTo (Phrases (lines.ParameterClause k)) (rule (lines.ParameterClause k))
unfolding rule
parameter_clause_leads k = may_word k (λ t is. last (λ ps b r. clause t ps b is (r [] none))) (ended no_clause)

-- the values of a parameter
parameter_spells : {es : List Expr} {a : List Token} (t c : Token) → Names (name_of t) t → Is S.Colon c → Closed Items S.Semicolon es a
    → SpellsParameter (record { name = name_at t; values = es }) (t ∷ c ∷ a)
parameter_spells t c word colon (closed es s a d semicolon) = parameter t c s (name_of t) es a word colon d semicolon

pub parameters_leads : (ps : List Parameter) → LeadsTo (Phrases (lines.Parameters ps)) (rule (lines.Parameters ps))
unfolding rule
parameters_leads ps =
    may_name (λ t word. comes_symbol S.Colon (λ c colon. called (λ es. last (λ v b r e d a row.
    row_more ps (record { name = name_at t; values = es }) v a (t ∷ c ∷ e) b r row (parameter_spells t c word colon (d [] first_item))))))
    (ended (λ a row. rw (append-nil a) row))

pub output_leads : LeadsTo (Phrases lines.OutputClause) (rule lines.OutputClause)
unfolding rule
output_leads = may_word K.Output (λ t is. last (λ us b r. placed_clause t us b is (r [] none))) (ended absent)

-- the first assignment
lead_first_field : (x : Field Expr) (b : List Token) → SpellsField x b → Fields (x ∷ []) b
lead_first_field x b (field t q n e a word assign d) = first_field t q n e a word assign d

-- after a comma one more may come
lead_next_field : {fs : List (Field Expr)} {a : List Token} (c : Token) → Fields fs a → Is S.Comma c → Leading SpellsField Fields fs (a ++ c ∷ [])
lead_next_field {fs} {a} c ds comma x b (field t q n e d word assign de) = rw (append_assoc a (c ∷ []) (t ∷ q ∷ d)) (next_field fs c t q n e a d ds comma word assign de)

-- the assignments of a stream
output_assignments_spells : {fs : List (Field Expr)} {a : List Token} (t c : Token) → Names (name_of t) t → Is S.Colon c → Closed Fields S.Semicolon fs a
    → SpellsOutputAssignments (record { stream = name_at t; assignments = fs }) (t ∷ c ∷ a)
output_assignments_spells t c word colon (closed fs s a d semicolon) = output_assignments t c s (name_of t) fs a word colon d semicolon

pub outputs_leads : (us : List OutputAssignments) → LeadsTo (Phrases (lines.Outputs us)) (rule (lines.Outputs us))
unfolding rule
outputs_leads us =
    may_name (λ t word. comes_symbol S.Colon (λ c colon. called (λ fs. last (λ v b r e d a row.
    row_more us (record { stream = name_at t; assignments = fs }) v a (t ∷ c ∷ e) b r row (output_assignments_spells t c word colon (d [] lead_first_field))))))
    (ended (λ a row. rw (append-nil a) row))

pub assignments_leads : (fs : List (Field Expr)) → LeadsTo (Phrases (lines.Assignments fs)) (rule (lines.Assignments fs))
unfolding rule
assignments_leads fs = comes_name (λ t word. comes_symbol S.Assign (λ q assign. called (λ e. may_symbol S.Comma
    (λ c comma. last (λ v b r a d z lead.
    let one = lead (record { name = name_at t; value = e }) (t ∷ q ∷ a) (field t q (name_of t) e a word assign d) in
    simp append_assoc at (r ((z ++ t ∷ q ∷ a) ++ c ∷ []) (lead_next_field c one comma))))
    (comes_symbol S.Semicolon (λ s semicolon. ended (λ a d z lead. listing_closed fs z s lead (field t q (name_of t) e a word assign d) semicolon))))))

-- Ends of invocations

pub end_leads : LeadsTo (Phrases lines.End) (rule lines.End)
unfolding rule
end_leads = may_symbol S.Semicolon
    (λ s semicolon. ended (units.no_clauses s semicolon))
    (comes_symbol S.LeftBrace (λ o left. called (λ l. called (λ w. called (λ ps. called (λ u. called (λ gs. comes_symbol S.RightBrace (λ c right.
    ended (λ f dg e du d dp b dw a dl.
    let inside = units.clauses l w ps u gs a b d e f dl dw dp du dg in
    simp append_assoc at (units.in_braces o c (record { logic = l; window = w; parameters = ps; output = u; config = gs }) (a ++ (b ++ (d ++ (e ++ f)))) left inside right))))))))))

-- an invocation after its head
invocation_spells : {at : ℕ} {xs : List OutputStream} {l : Option Name} {ps : List InputPort} {x : Clauses} {b d : List Token} (q t o : Token)
    → Is S.Assign q → Names (name_of t) t → Is S.LeftParen o → Closed (Listed S.Semicolon SpellsInput) S.RightParen ps b → SpellsEnd x d
    → (a : List Token) → SpellsHead xs l a → BeginsAt at a
    → SpellsInvocation (record { at = at; outputs = xs; alias = l; operator = name_at t; inputs = ps; clauses = x }) (a ++ q ∷ t ∷ o ∷ (b ++ d))
invocation_spells {at} {xs} {l} {x} {d} q t o assign word left (closed ps c b ds right) end a head start =
    rw (append_assoc b (c ∷ []) d) (units.invocation at xs l q t o c (name_of t) ps x a b d head start assign word left ds right end)

pub invoked_leads : (at : ℕ) (xs : List OutputStream) (l : Option Name) → LeadsTo (Phrases (lines.Invoked at xs l)) (rule (lines.Invoked at xs l))
unfolding rule
invoked_leads at xs l = comes_symbol S.Assign (λ q assign. comes_name (λ t word. comes_symbol S.LeftParen (λ o left. called (λ ps. last (λ x d end b ds a head start.
    invocation_spells q t o assign word left ds end a head start)))))

-- What is spelled as a clause is read.
use Rattle.std.proofs.Common.{◌≡◌, Bool, false, ◌||◌, List, [], ◌∷◌, ◌++◌, Option, Some, None, refl, arith, append_assoc}
use Rattle.std.proofs.Math.Bool.{or-true}
use Rattle.spl_tree.specs.declared.expression.Field.{Field}
use Rattle.spl_tree.specs.declared.expression.Placed.{Placed}
use Rattle.spl_tree.specs.declared.keyword.Keyword.{Keyword}
use Rattle.spl_tree.specs.declared.keyword.Keyword.TheVariants as K
use Rattle.spl_tree.specs.declared.statement.Declaration.{Declaration}
use Rattle.spl_tree.specs.declared.symbol.Symbol.TheVariants as S
use Rattle.spl_tree.specs.declared.token.Token.{Token}
use Rattle.spl_tree.specs.declared.token.TokenKind.{TokenKind}
use Rattle.spl_tree.specs.declared.unit.Clauses.{Clauses}
use Rattle.spl_tree.specs.declared.unit.Handler.{Handler}
use Rattle.spl_tree.specs.declared.unit.Logic.{Logic}
use Rattle.spl_tree.specs.declared.unit.OutputAssignments.{OutputAssignments}
use Rattle.spl_tree.specs.declared.unit.Parameter.{Parameter}
use Rattle.spl_tree.specs.declared.unit.PortWindow.{PortWindow}
use Rattle.spl_tree.specs.declared.unit.WindowPart.{WindowPart}
use Rattle.spl_tree.specs.Operators.{is_symbol}
use Rattle.spl_tree.specs.Trees.{Expr, placed}
use Rattle.spl_tree.specs.spellings.Grammar.{Is, Fields, first_field, next_field}
use Rattle.spl_tree.specs.spellings.Phrases.{IsKeyword, Phrase, Row, Separated}
use Rattle.spl_tree.specs.spellings.StatementGrammar.{SpellsDeclaration}
use Rattle.spl_tree.specs.spellings.UnitGrammar.{Clause, no_clause, clause, PlacedClause, absent, placed_clause, SpellsParameter, parameter, SpellsState, one_variable, variables, SpellsStateClause, no_state, state, on_tuple, on_punctuation, SpellsHandler, handler, SpellsLogic, no_logic, logic, SpellsWindowPart, word, with_arguments, SpellsPortWindow, port_window, SpellsOutputAssignments, output_assignments, SpellsClauses, clauses, SpellsEnd, no_clauses, in_braces}
use Rattle.expr_parser.specs.Rules.{done, look, call, Took, RunsTo, Reads}
use Rattle.expr_parser.proofs.RuleLaws.{line, runs_done, runs_take, runs_skip, runs_call}
use Rattle.expr_parser.specs.Taken.{begins_with}
use Rattle.expr_parser.specs.Lines.{is, is_name}
use Rattle.expr_parser.proofs.TestLaws.{Stops}
use Rattle.expr_parser.proofs.Complete.{spells_reads, elements_reads, items_reads, closes_parens}
use Rattle.statement_parser.specs.Lines.{rule, R, is_word, word_kind, expect, Declare, Declarations, End, LogicClause, State, Handlers, WindowClause, Windows, WindowParts, ParameterClause, Parameters, OutputClause, Outputs, Assignments}
use Rattle.statement_parser.proofs.CompleteParts.{Heads, no_word, no_symbol, no_name, word-itself, takes, skips, expects, only, embedded, ends, row, row_front, separated}
use Rattle.unit_parser.proofs.CompleteStatements.{declaration_kinds, declaration_begins, declaration_reads, block_reads}

-- Clauses

-- the first token is one of these words, or `}`
abbrev pub one_of : List Keyword → TokenKind → Bool
one_of [] k = is_symbol S.RightBrace k
one_of (x ∷ xs) k = word_kind x k || one_of xs k

-- tokens that begin with one of some words begin with one of more
words_too : (k : Keyword) (ks : List Keyword) (ts : List Token) → Heads (one_of ks) ts → Heads (one_of (k ∷ ks)) ts
words_too k ks [] e = absurd (cc)
words_too k ks (t ∷ ts) e = rw e (or-true (word_kind k t.kind))

-- tokens that begin with a word
words_first : (k : Keyword) (ks : List Keyword) (t : Token) (ts : List Token) → IsKeyword k t → Heads (one_of (k ∷ ks)) (t ∷ ts)
words_first k ks t ts e = rw (word-itself k t e) refl

module _ {A : Type 0} {P : Phrase A} {k : Keyword} where
  -- a clause begins with its word, or what follows does
  pub clause_begins : {xs : List A} {a : List Token} → Clause k P xs a → (ks : List Keyword) (rest : List Token) → Heads (one_of ks) rest
      → Heads (one_of (k ∷ ks)) (a ++ rest)
  clause_begins no_clause ks rest e = words_too k ks rest e
  clause_begins (clause t xs a e ds) ks rest front = words_first k ks t (a ++ rest) e

  pub placed_begins : {xs : Option (Placed (List A))} {a : List Token} → PlacedClause k P xs a → (ks : List Keyword) (rest : List Token) → Heads (one_of ks) rest
      → Heads (one_of (k ∷ ks)) (a ++ rest)
  placed_begins absent ks rest e = words_too k ks rest e
  placed_begins (placed_clause t xs a e ds) ks rest front = words_first k ks t (a ++ rest) e

  -- a clause is read where its row is
  pub clause_reads : {r : R (List A)} {xs : List A} {a : List Token} (rest : List Token)
      → ((xs : List A) (b : List Token) → Row P xs b → RunsTo rule r (b ++ rest) (Took xs rest))
      → begins_with (is_word k) rest ≡ false → Clause k P xs a → RunsTo rule (look (is_word k) (λ _. r) (done [])) (a ++ rest) (Took xs rest)
  clause_reads rest rows front no_clause = skips front runs_done
  clause_reads rest rows front (clause t xs a e ds) = takes (word-itself k t e) (rows xs a ds)

  pub placed_reads : {r : Token → R (Option (Placed (List A)))} {xs : Option (Placed (List A))} {a : List Token} (rest : List Token)
      → ((t : Token) (xs : List A) (b : List Token) → Row P xs b → RunsTo rule (r t) (b ++ rest) (Took (Some (placed t.start xs)) rest))
      → begins_with (is_word k) rest ≡ false → PlacedClause k P xs a → RunsTo rule (look (is_word k) r (done None)) (a ++ rest) (Took xs rest)
  placed_reads rest rows front absent = skips front runs_done
  placed_reads rest rows front (placed_clause t xs a e ds) = takes (word-itself k t e) (rows t xs a ds)

-- Parameters

-- parameters in a row
parameters_reads : {ps : List Parameter} {a : List Token} → Row SpellsParameter ps a → (rest : List Token) → begins_with is_name rest ≡ false
    → Reads rule (Parameters []) (a ++ rest) (Took ps rest)
unfolding rule
parameters_reads {ps = ps} ds rest front = row Behind step ds rest (line (skips front runs_done))
  where
    Behind : List Parameter → List Token → Type 0
    Behind xs ts = Reads rule (Parameters xs) ts (Took ps rest)

    step : (xs : List Parameter) (x : Parameter) (b ts : List Token) → SpellsParameter x b → Behind (xs ++ x ∷ []) ts → Behind xs (b ++ ts)
    step xs x b ts (parameter t c s n es a named colon items semi) r = rw (append_assoc a (s ∷ []) ts)
        (line (takes (rw named refl) (rw named (expects colon
        (runs_call (embedded (items_reads items S.Semicolon (s ∷ ts) (ends S.Semicolon s ts (omega arith) semi)
        (runs_skip (s ∷ ts) (rw semi refl) (runs_take (s ∷ ts) s ts refl (rw semi refl) runs_done)))) (only r))))))

-- a clause of parameters
pub parameter_clause_reads : {k : Keyword} {ps : List Parameter} {a : List Token} → Clause k SpellsParameter ps a → (rest : List Token)
    → begins_with (is_word k) rest ≡ false → begins_with is_name rest ≡ false → Reads rule (ParameterClause k) (a ++ rest) (Took ps rest)
unfolding rule
parameter_clause_reads d rest front no_more = line (clause_reads rest (λ xs b ds. only (parameters_reads ds rest no_more)) front d)

-- Windows

-- parts of a window up to the `;`
parts_reads : {ps : List WindowPart} {a : List Token} → Separated S.Comma SpellsWindowPart ps a → (s : Token) (rest : List Token) → Is S.Semicolon s
    → Reads rule (WindowParts []) (a ++ s ∷ rest) (Took ps rest)
unfolding rule
parts_reads {ps = ps} ds s rest semi = separated Ends Before Behind (λ t ts comma. rw comma refl) element (λ xs t ts comma r. takes (rw comma refl) (only r)) ds
    (s ∷ rest) (rw semi refl) (skips (rw semi refl) (expects semi runs_done))
  where
    Ends : List Token → Type 0
    Ends ts = begins_with (is S.LeftParen) ts ≡ false

    Before : List WindowPart → List Token → Type 0
    Before xs ts = Reads rule (WindowParts xs) ts (Took ps rest)

    Behind : List WindowPart → List Token → Type 0
    Behind xs ts = RunsTo rule (look (is S.Comma) (λ _. call (WindowParts xs) done) (expect S.Semicolon (done xs))) ts (Took ps rest)

    element : (xs : List WindowPart) (x : WindowPart) (b ts : List Token) → SpellsWindowPart x b → Ends ts → Behind (xs ++ x ∷ []) ts → Before xs (b ++ ts)
    element xs x b ts (word t n named) end r = line (takes (rw named refl) (rw named (runs_call (line (skips end runs_done)) r)))
    element xs x b ts (with_arguments t o c n es a named left d right) end r = rw (append_assoc a (c ∷ []) ts)
        (line (takes (rw named refl) (rw named (runs_call (line (takes (rw left refl)
        (runs_call (embedded (elements_reads d S.RightParen closes_parens c ts right)) runs_done))) r))))

-- windows in a row
windows_reads : {ws : List PortWindow} {a : List Token} → Row SpellsPortWindow ws a → (rest : List Token) → begins_with is_name rest ≡ false
    → Reads rule (Windows []) (a ++ rest) (Took ws rest)
unfolding rule
windows_reads {ws = ws} ds rest front = row Behind step ds rest (line (skips front runs_done))
  where
    Behind : List PortWindow → List Token → Type 0
    Behind xs ts = Reads rule (Windows xs) ts (Took ws rest)

    step : (xs : List PortWindow) (x : PortWindow) (b ts : List Token) → SpellsPortWindow x b → Behind (xs ++ x ∷ []) ts → Behind xs (b ++ ts)
    step xs x b ts (port_window t c s n ps a named colon parts semi) r = rw (append_assoc a (s ∷ []) ts)
        (line (takes (rw named refl) (rw named (expects colon (runs_call (parts_reads parts s ts semi) (only r))))))

-- a clause of windows
window_clause_reads : {ws : Option (Placed (List PortWindow))} {a : List Token} → PlacedClause K.Window SpellsPortWindow ws a → (rest : List Token)
    → begins_with (is_word K.Window) rest ≡ false → begins_with is_name rest ≡ false → Reads rule WindowClause (a ++ rest) (Took ws rest)
unfolding rule
window_clause_reads d rest front no_more = line (placed_reads rest (λ t xs b ds. runs_call (windows_reads ds rest no_more) runs_done) front d)

-- Outputs

-- assignments, and then what comes after them
assignments_reads : {fs : List (Field Expr)} {a : List Token} → Fields fs a → (rest : List Token) {w : List (Field Expr)} {out : List Token} → Stops 10 rest
    → RunsTo rule (look (is S.Comma) (λ _. call (Assignments fs) done) (expect S.Semicolon (done fs))) rest (Took w out)
    → Reads rule (Assignments []) (a ++ rest) (Took w out)
unfolding rule
assignments_reads (first_field t s n e a named assign d) rest stops r =
    line (takes (rw named refl) (rw named (expects assign (runs_call (embedded (spells_reads d rest stops)) r))))
assignments_reads (next_field fs c t s n e a b ds comma named assign d) rest stops r = rw (append_assoc a (c ∷ t ∷ s ∷ b) rest)
    (assignments_reads ds (c ∷ t ∷ s ∷ (b ++ rest)) (ends S.Comma c (t ∷ s ∷ (b ++ rest)) (omega arith) comma) (takes (rw comma refl)
    (runs_call (line (takes (rw named refl) (rw named (expects assign (runs_call (embedded (spells_reads d rest stops)) r))))) runs_done)))

-- outputs in a row
outputs_reads : {us : List OutputAssignments} {a : List Token} → Row SpellsOutputAssignments us a → (rest : List Token) → begins_with is_name rest ≡ false
    → Reads rule (Outputs []) (a ++ rest) (Took us rest)
unfolding rule
outputs_reads {us = us} ds rest front = row Behind step ds rest (line (skips front runs_done))
  where
    Behind : List OutputAssignments → List Token → Type 0
    Behind xs ts = Reads rule (Outputs xs) ts (Took us rest)

    step : (xs : List OutputAssignments) (x : OutputAssignments) (b ts : List Token) → SpellsOutputAssignments x b → Behind (xs ++ x ∷ []) ts → Behind xs (b ++ ts)
    step xs x b ts (output_assignments t c s n fs a named colon fields semi) r = rw (append_assoc a (s ∷ []) ts)
        (line (takes (rw named refl) (rw named (expects colon
        (runs_call (assignments_reads fields (s ∷ ts) (ends S.Semicolon s ts (omega arith) semi) (skips (rw semi refl) (expects semi runs_done))) (only r))))))

-- a clause of outputs
output_clause_reads : {us : Option (Placed (List OutputAssignments))} {a : List Token} → PlacedClause K.Output SpellsOutputAssignments us a → (rest : List Token)
    → begins_with (is_word K.Output) rest ≡ false → begins_with is_name rest ≡ false → Reads rule OutputClause (a ++ rest) (Took us rest)
unfolding rule
output_clause_reads d rest front no_more = line (placed_reads rest (λ t xs b ds. runs_call (outputs_reads ds rest no_more) runs_done) front d)

-- Logic

-- the variables of a state
state_reads : {ds : List Declaration} {a : List Token} → SpellsState ds a → (rest : List Token)
    → RunsTo rule (look (is S.LeftBrace) (λ _. call (Declarations []) done) (call Declare (λ d. done (d ∷ [])))) (a ++ rest) (Took ds rest)
unfolding rule
state_reads (one_variable x a d) rest = skips (no_symbol declaration_kinds S.LeftBrace refl (a ++ rest) (declaration_begins d rest))
    (runs_call (declaration_reads d rest) runs_done)
state_reads (variables o c ds a left rows right) rest = rw (append_assoc a (c ∷ []) rest)
    (takes (rw left refl) (only (row Behind step rows (c ∷ rest) (line (takes (rw right refl) runs_done)))))
  where
    Behind : List Declaration → List Token → Type 0
    Behind xs ts = Reads rule (Declarations xs) ts (Took ds rest)

    step : (xs : List Declaration) (x : Declaration) (b ts : List Token) → SpellsDeclaration x b → Behind (xs ++ x ∷ []) ts → Behind xs (b ++ ts)
    step xs x b ts d r = line (skips (no_symbol declaration_kinds S.RightBrace refl (b ++ ts) (declaration_begins d ts))
        (runs_call (declaration_reads d ts) (only r)))

-- a state, or none
state_clause_reads : {ds : List Declaration} {a : List Token} → SpellsStateClause ds a → (rest : List Token) → begins_with (is_word K.State) rest ≡ false
    → Reads rule State (a ++ rest) (Took ds rest)
unfolding rule
state_clause_reads no_state rest front = line (skips front runs_done)
state_clause_reads (state t c ds a e colon d) rest front = line (takes (rw e refl) (expects colon (state_reads d rest)))

-- a handler begins with no `state`
handler_front : (x : Placed Handler) (b ts : List Token) → SpellsHandler x b → begins_with (is_word K.State) (b ++ ts) ≡ false
handler_front x b ts (handler w t c v n ss a (on_tuple u e) named colon d) = rw e refl
handler_front x b ts (handler w t c v n ss a (on_punctuation u e) named colon d) = rw e refl

-- handlers in a row
handlers_reads : {hs : List (Placed Handler)} {a : List Token} → Row SpellsHandler hs a → (rest : List Token) → begins_with (is_word K.OnTuple) rest ≡ false
    → begins_with (is_word K.OnPunct) rest ≡ false → Reads rule (Handlers []) (a ++ rest) (Took hs rest)
unfolding rule
handlers_reads {hs = hs} ds rest no_tuple no_punct = row Behind step ds rest (line (skips no_tuple (skips no_punct runs_done)))
  where
    Behind : List (Placed Handler) → List Token → Type 0
    Behind xs ts = Reads rule (Handlers xs) ts (Took hs rest)

    step : (xs : List (Placed Handler)) (x : Placed Handler) (b ts : List Token) → SpellsHandler x b → Behind (xs ++ x ∷ []) ts → Behind xs (b ++ ts)
    step xs x b ts (handler w t c v n ss a (on_tuple u e) named colon d) r =
        line (takes (rw e refl)
        (runs_call (line (takes (rw named refl) (rw named (expects colon (runs_call (block_reads d ts) runs_done))))) (only r)))
    step xs x b ts (handler w t c v n ss a (on_punctuation u e) named colon d) r =
        line (skips (rw e refl) (takes (rw e refl)
        (runs_call (line (takes (rw named refl) (rw named (expects colon (runs_call (block_reads d ts) runs_done))))) (only r))))

-- a clause of logic
logic_reads : {l : Option (Placed Logic)} {a : List Token} → SpellsLogic l a → (rest : List Token) → begins_with (is_word K.Logic) rest ≡ false
    → begins_with (is_word K.State) rest ≡ false → begins_with (is_word K.OnTuple) rest ≡ false → begins_with (is_word K.OnPunct) rest ≡ false
    → Reads rule LogicClause (a ++ rest) (Took l rest)
unfolding rule
logic_reads no_logic rest front no_more no_tuple no_punct = line (skips front runs_done)
logic_reads (logic t ds hs a b e d rows) rest front no_more no_tuple no_punct = rw (append_assoc a b rest)
    (line (takes (rw e refl) (runs_call (state_clause_reads d (b ++ rest) (row_front (is_word K.State) handler_front rows rest no_more))
    (runs_call (handlers_reads rows rest no_tuple no_punct) runs_done))))

-- What ends an invocation

-- the rule of the clauses, after the opening brace
abbrev clauses_rule : R Clauses
clauses_rule =
    call LogicClause (λ l. call WindowClause (λ w. call (ParameterClause K.Param) (λ ps. call OutputClause (λ u. call (ParameterClause K.Config) (λ gs.
    expect S.RightBrace (done (record { logic = l; window = w; parameters = ps; output = u; config = gs })))))))

-- the clauses up to the closing brace
clauses_reads : {x : Clauses} {a : List Token} → SpellsClauses x a → (c : Token) (rest : List Token) → Is S.RightBrace c → RunsTo rule clauses_rule (a ++ c ∷ rest) (Took x rest)
clauses_reads (clauses l w ps u gs a b d e f sl sw sp su sg) c rest right =
    rw (append_assoc a (b ++ (d ++ (e ++ f))) (c ∷ rest), append_assoc b (d ++ (e ++ f)) (c ∷ rest), append_assoc d (e ++ f) (c ∷ rest), append_assoc e f (c ∷ rest))
    (runs_call (logic_reads sl behind_logic (no_word window_on K.Logic refl behind_logic at_window) (no_word window_on K.State refl behind_logic at_window)
    (no_word window_on K.OnTuple refl behind_logic at_window) (no_word window_on K.OnPunct refl behind_logic at_window))
    (runs_call (window_clause_reads sw behind_window (no_word param_on K.Window refl behind_window at_param) (no_name param_on (λ n. refl) behind_window at_param))
    (runs_call (parameter_clause_reads sp behind_param (no_word output_on K.Param refl behind_param at_output) (no_name output_on (λ n. refl) behind_param at_output))
    (runs_call (output_clause_reads su behind_output (no_word config_on K.Output refl behind_output at_config) (no_name config_on (λ n. refl) behind_output at_config))
    (runs_call (parameter_clause_reads sg (c ∷ rest) (rw right refl) (rw right refl)) (expects right runs_done))))))
  where
    behind_output : List Token
    behind_output = f ++ c ∷ rest

    behind_param : List Token
    behind_param = e ++ behind_output

    behind_window : List Token
    behind_window = d ++ behind_param

    behind_logic : List Token
    behind_logic = b ++ behind_window

    -- what each of these may begin with
    config_on : TokenKind → Bool
    config_on = one_of (K.Config ∷ [])

    output_on : TokenKind → Bool
    output_on = one_of (K.Output ∷ K.Config ∷ [])

    param_on : TokenKind → Bool
    param_on = one_of (K.Param ∷ K.Output ∷ K.Config ∷ [])

    window_on : TokenKind → Bool
    window_on = one_of (K.Window ∷ K.Param ∷ K.Output ∷ K.Config ∷ [])

    at_config : Heads config_on behind_output
    at_config = clause_begins sg [] (c ∷ rest) (rw right refl)

    at_output : Heads output_on behind_param
    at_output = placed_begins su (K.Config ∷ []) behind_output at_config

    at_param : Heads param_on behind_window
    at_param = clause_begins sp (K.Output ∷ K.Config ∷ []) behind_param at_output

    at_window : Heads window_on behind_logic
    at_window = placed_begins sw (K.Param ∷ K.Output ∷ K.Config ∷ []) behind_window at_param

-- what ends an invocation
pub end_reads : {x : Clauses} {a : List Token} → SpellsEnd x a → (rest : List Token) → Reads rule End (a ++ rest) (Took x rest)
unfolding rule
end_reads (no_clauses s semi) rest = line (takes (rw semi refl) runs_done)
end_reads (in_braces o c x a left d right) rest = rw (append_assoc a (c ∷ []) rest)
    (line (skips (rw left refl) (expects left (clauses_reads d c rest right))))

-- What is read is spelled so.
use Rattle.std.proofs.Common.{◌≡◌, ℕ, zero, suc, List, [], ◌∷◌, ◌++◌, refl, append_assoc, append-nil}
use Rattle.spl_tree.specs.declared.symbol.Symbol.{Symbol}
use Rattle.spl_tree.specs.declared.symbol.Symbol.TheVariants as S
use Rattle.spl_tree.specs.declared.token.Token.{Token}
use Rattle.spl_tree.specs.declared.token.TokenKind.TheVariants as T
use Rattle.spl_tree.specs.declared.expression.Placed.{Placed}
use Rattle.spl_tree.specs.declared.expression.ExprKind.{ExprKind}
use Rattle.spl_tree.specs.declared.expression.ExprKind.TheVariants as X
use Rattle.spl_tree.specs.declared.expression.Field.{Field}
use Rattle.spl_tree.specs.declared.expression.Step.{Step}
use Rattle.spl_tree.specs.declared.expression.Step.TheVariants as N
use Rattle.spl_tree.specs.Trees.{Expr, Prefix, placed}
use Rattle.spl_tree.specs.spellings.Grammar.{Is, Names, Literal, dollar, number, text, yes, no, Prefixes, no_prefixes, operator, cast, Primary, literal, name, call, group, list, empty_map, map, tuple, Elements, no_elements, elements, Items, first_item, next_item, Entries, first_entry, next_entry, Fields, first_field, next_field, Steps, no_steps, member, index, Operand, primary, select, Unary, operand, prefixed, At, unary, tighter, binary, Spells, plain, conditional}
use Rattle.expr_parser.specs.Rules as rules
use Rattle.expr_parser.specs.Rules.{done, stop, look, read}
use Rattle.spl_tree.specs.spellings.Phrases.{Phrase}
use Rattle.spl_tree.specs.Fronts.{Starts}
use Rattle.expr_parser.specs.Parts.{Closed, closed, SpellsSteps, alone, selects}
use Rattle.expr_parser.proofs.Soundness.{Behind, After, EachStarts, Leads, leads_some, Sound, sound as sound_lines}
use Rattle.expr_parser.specs.Lines as lines
use Rattle.expr_parser.specs.Lines.{Line, Value, Whole, Rest, Climb, Chain, Prefixed, Group, Named, Brace, rule, R, is, expect, field, field_rule, operator_of, is_name, name_of}
use Rattle.expr_parser.proofs.TestLaws.{is-true, is_name-true, is_literal-true, is_prefix-true, is_target-true, is_operator-true}
use Rattle.spl_value.proofs.Lists.{push_some}

-- A name alone

-- the tokens are that name at that place
record IsName (n : List ℕ) (at : ℕ) (a : List Token) : Type 0 where
  token : Token
  named : Names n token
  place : token.start ≡ at
  is : a ≡ token ∷ []

-- a token that is an expression by itself is no name
literal_name : {k : ExprKind} {t : Token} → Literal k t → (n : List ℕ) → k ≡ X.Name n → ⊥
literal_name (dollar t m is) n e = cc
literal_name (number t m is) n e = cc
literal_name (text t bytes is) n e = cc
literal_name (yes t is) n e = cc
literal_name (no t is) n e = cc

-- what spells a name as an expression is that name, on each line

primary_name : {e : Expr} {a : List Token} → Primary e a → (n : List ℕ) → e.what ≡ X.Name n → IsName n e.at a
primary_name (literal t k l) n e = absurd (literal_name l n e)
primary_name (name t m named) n e = let same : m ≡ n = cc in record { token = t; named = rw (← same) named; place = refl; is = refl }
primary_name (call t o c m es a named left d right) n e = absurd (cc)
primary_name (group o c e' a left d right) n e = absurd (cc)
primary_name (list o c es a left d right) n e = absurd (cc)
primary_name (empty_map o c left right) n e = absurd (cc)
primary_name (map o c es a left d right) n e = absurd (cc)
primary_name (tuple o c fs a left d right) n e = absurd (cc)

operand_name : {e : Expr} {a : List Token} → Operand e a → (n : List ℕ) → e.what ≡ X.Name n → IsName n e.at a
operand_name (primary e a d) n is = primary_name d n is
operand_name (select e s ss a b d ds) n is = absurd (cc)

unary_name : {e : Expr} {a : List Token} → Unary e a → (n : List ℕ) → e.what ≡ X.Name n → IsName n e.at a
unary_name (operand e a d) n is = operand_name d n is
unary_name (prefixed p ps e a b ds d) n is = absurd (cc)

at_name : {k : ℕ} {e : Expr} {a : List Token} → At k e a → (n : List ℕ) → e.what ≡ X.Name n → IsName n e.at a
at_name (unary e a d) n is = unary_name d n is
at_name (tighter k e a d) n is = at_name d n is
at_name (binary k l r op t a b dl known at dr) n is = absurd (cc)

spells_name : {e : Expr} {a : List Token} → Spells e a → (n : List ℕ) → e.what ≡ X.Name n → IsName n e.at a
spells_name (plain e a d) n is = at_name d n is
spells_name (conditional c x y q k a b d dc question dx colon dy) n is = absurd (cc)

-- Phrases

-- the tokens after a symbol at a place
abbrev pub From : {A : Type 0} → Symbol → ℕ → Phrase A → Phrase A
From s at U v b = (t : Token) → Is s t → t.start ≡ at → U v (t ∷ b)

-- what one more expression completes to expressions with commas between them
abbrev pub Leading : List Expr → List Token → Type 0
Leading es a = (e : Expr) (b : List Token) → Spells e b → Items (es ++ e ∷ []) (a ++ b)

-- what a value completes to entries
abbrev pub LeadingEntry : List (Expr × Expr) → Expr → List Token → Type 0
LeadingEntry es key a = (v : Expr) (b : List Token) → Spells v b → Entries (es ++ (key, v) ∷ []) (a ++ b)

-- what a value completes to fields
abbrev pub LeadingField : List (Field Expr) → Placed (List ℕ) → List Token → Type 0
LeadingField fs named a = (v : Expr) (b : List Token) → Spells v b → Fields (fs ++ field named v ∷ []) (a ++ b)

-- what each line spells, after what it has
abbrev pub Phrases : (x : Line) → Phrase (Value x)
Phrases Whole = Spells
Phrases (Rest u) = After Unary Spells u
Phrases (Climb k u) = After Unary (At k) u
Phrases (Chain k left) = After (At (suc k)) (At (suc k)) left
Phrases (Prefixed ps) = After Prefixes Unary ps
Phrases lines.Primary = Primary
Phrases (Group at) = From S.LeftParen at Primary
Phrases (Named at n) = λ e b. (t : Token) → Names n t → t.start ≡ at → Primary e (t ∷ b)
Phrases (lines.Elements close) = Closed Elements close
Phrases (lines.Items close es) = After Leading (Closed Items close) es
Phrases (Brace at) = From S.LeftBrace at Primary
Phrases (lines.Entries at es key) = After (LeadingEntry es) (From S.LeftBrace at Primary) key
Phrases (lines.Fields at fs named) = After (LeadingField fs) (From S.LeftBrace at Primary) named
Phrases (lines.Steps e ss) = After Steps (SpellsSteps e) ss

-- Phrases put together

-- no prefixes are no tokens
prefixes_none : {ps : List Prefix} {a : List Token} → Prefixes ps a → ps ≡ [] → a ≡ []
prefixes_none no_prefixes e = refl
prefixes_none (operator ps a t p ds known) e = absurd (push_some ps _ e)
prefixes_none (cast ps a o t c target ds left known right) e = absurd (push_some ps _ e)

-- no steps are no tokens
pub steps_none : {ss : List (Step Expr)} {a : List Token} → Steps ss a → ss ≡ [] → a ≡ []
steps_none no_steps e = refl
steps_none (member ss a d t n ds dot named) e = absurd (push_some ss _ e)
steps_none (index ss i o c a b ds left d right) e = absurd (push_some ss _ e)

-- an operand with prefixes in front, or none
unary_spells : (ps : List Prefix) {e : Expr} {a b : List Token} → Prefixes ps a → Operand e b → Unary (lines.prefixed ps e) (a ++ b)
unary_spells [] {e} {a} {b} ds d = rw (prefixes_none ds refl) (operand e b d)
unary_spells (p ∷ ps) {e} {a} {b} ds d = prefixed p ps e a b ds d

-- steps that are taken, or none
steps_spell : {e : Expr} (ss : List (Step Expr)) {a : List Token} → Steps ss a → SpellsSteps e (lines.selected e ss) a
steps_spell [] {a} ds = rw (steps_none ds refl) alone
steps_spell (s ∷ ss) {a} ds = selects s ss a ds

-- a primary expression with steps after it, or none
operand_spells : {e p : Expr} {a b : List Token} → Primary e a → SpellsSteps e p b → Operand p (a ++ b)
operand_spells {e} {p} {a} d alone = rw (append-nil a) (primary e a d)
operand_spells {e} {p} {a} d (selects s ss b ds) = select e s ss a b d ds

-- a list and its closing bracket
list_spells : {o : Token} {es : List Expr} {a : List Token} → Is S.LeftBracket o → Closed Elements S.RightBracket es a
    → Primary (placed o.start (X.List es)) (o ∷ a)
list_spells {o} left (closed es c a d right) = list o c es a left d right

-- a call and its closing parenthesis
call_spells : {t o : Token} {n : List ℕ} {es : List Expr} {a : List Token} → Names n t → Is S.LeftParen o → Closed Elements S.RightParen es a
    → Primary (placed t.start (X.Call n es)) (t ∷ o ∷ a)
call_spells {t} {o} {n} named left (closed es c a d right) = call t o c n es a named left d right

-- one expression or more are what may be none
some_closed : {close : Symbol} {es : List Expr} {a : List Token} → Closed Items close es a → Closed Elements close es a
some_closed (closed es c a d right) = closed es c a (elements es a d) right

-- an operand is an expression at each level
at_spells : (k : ℕ) {e : Expr} {a : List Token} → Unary e a → At k e a
at_spells zero {e} {a} d = unary e a d
at_spells (suc k) {e} {a} d = tighter k e a (at_spells k d)

-- the last expression in brackets
module _ (e : Expr) (a b : List Token) (c : Token) (d : Spells e b) where
  -- expressions and their closing bracket
  closed_spells : (close : Symbol) (es : List Expr) → Leading es a → Is close c → Closed Items close (es ++ e ∷ []) (a ++ (b ++ c ∷ []))
  closed_spells close es lead right = rw (← append_assoc a b (c ∷ [])) (closed (es ++ e ∷ []) c (a ++ b) (lead e b d) right)

  -- a map and its closing brace
  map_spells : (at : ℕ) (es : List (Expr × Expr)) (key : Expr) → LeadingEntry es key a → Is S.RightBrace c
      → From S.LeftBrace at Primary (placed at (X.Map (es ++ (key, e) ∷ []))) (a ++ (b ++ c ∷ []))
  map_spells at es key lead right o left start =
      rw (← start, ← append_assoc a b (c ∷ [])) (map o c (es ++ (key, e) ∷ []) (a ++ b) left (lead e b d) right)

  -- a tuple and its closing brace
  tuple_spells : (at : ℕ) (fs : List (Field Expr)) (named : Placed (List ℕ)) → LeadingField fs named a → Is S.RightBrace c
      → From S.LeftBrace at Primary (placed at (X.Tuple (fs ++ field named e ∷ []))) (a ++ (b ++ c ∷ []))
  tuple_spells at fs named lead right o left start =
      rw (← start, ← append_assoc a b (c ∷ [])) (tuple o c (fs ++ field named e ∷ []) (a ++ b) left (lead e b d) right)

-- expressions with commas between them, after which one more may come
lead_item : (es : List Expr) (e : Expr) (t : Token) (a b : List Token) → Leading es a → Spells e b → Is S.Comma t
    → Leading (es ++ e ∷ []) ((a ++ b) ++ t ∷ [])
lead_item es e t a b lead d comma next c s =
    rw (append_assoc (a ++ b) (t ∷ []) c) (next_item (es ++ e ∷ []) next t (a ++ b) c (lead e b d) comma s)

-- the first key
lead_entry : (key : Expr) (t : Token) (a : List Token) → Spells key a → Is S.Colon t → LeadingEntry [] key (a ++ t ∷ [])
lead_entry key t a d colon v b s = rw (append_assoc a (t ∷ []) b) (first_entry key v t a b d colon s)

-- one more key
lead_next_entry : (es : List (Expr × Expr)) (key e next : Expr) (s t : Token) (a b c : List Token)
    → LeadingEntry es key a → Spells e b → Is S.Comma s → Spells next c → Is S.Colon t
    → LeadingEntry (es ++ (key, e) ∷ []) next ((a ++ b) ++ s ∷ (c ++ t ∷ []))
lead_next_entry es key e next s t a b c lead d comma dk colon v f dv =
    rw (append_assoc (a ++ b) (s ∷ (c ++ t ∷ [])) f, append_assoc c (t ∷ []) f)
    (next_entry (es ++ (key, e) ∷ []) next v s t (a ++ b) c f (lead e b d) comma dk colon dv)

-- the first name of a field
lead_field : (t x : Token) (n : List ℕ) (place : ℕ) (a : List Token) → Names n x → x.start ≡ place → a ≡ x ∷ [] → Is S.Assign t
    → LeadingField [] (placed place n) (a ++ t ∷ [])
lead_field t x n place a named start is assign v b s =
    rw (is, ← start) (first_field x t n v b named assign s)

-- one more name
lead_next_field : (fs : List (Field Expr)) (named : Placed (List ℕ)) (e : Expr) (s x t : Token) (n : List ℕ) (a b : List Token)
    → LeadingField fs named a → Spells e b → Is S.Comma s → Names n x → Is S.Assign t
    → LeadingField (fs ++ field named e ∷ []) (placed x.start n) ((a ++ b) ++ s ∷ x ∷ t ∷ [])
lead_next_field fs named e s x t n a b lead d comma word assign v c dv =
    rw (append_assoc (a ++ b) (s ∷ x ∷ t ∷ []) c)
    (next_field (fs ++ field named e ∷ []) s x t n v (a ++ b) c (lead e b d) comma word assign dv)

-- Each line has phrases

-- a token and an expression, to complete a phrase

abbrev a_symbol : Symbol → Token
a_symbol s = record { kind = T.Symbol s; start = 0; end = 0 }

abbrev a_word : Token
a_word = record { kind = T.Word []; start = 0; end = 0 }

abbrev a_name : Expr
a_name = placed 0 (X.Name [])

a_name_primary : Primary a_name (a_word ∷ [])
a_name_primary = name a_word [] refl

a_name_spells : Spells a_name (a_word ∷ [])
a_name_spells = plain a_name (a_word ∷ []) (at_spells 9 (operand a_name (a_word ∷ []) (primary a_name (a_word ∷ []) a_name_primary)))

-- a phrase of each line
pub has : EachStarts Phrases
has Whole = record { behind = a_word ∷ []; value = a_name; spells = a_name_spells }
has (Rest u) = record { behind = []; value = u; spells = λ a d. rw (append-nil a) (plain u a (at_spells 9 d)) }
has (Climb k u) = record { behind = []; value = u; spells = λ a d. rw (append-nil a) (at_spells k d) }
has (Chain k left) = record { behind = []; value = left; spells = λ a d. rw (append-nil a) d }
has (Prefixed ps) = record {
  behind = a_word ∷ [];
  value = lines.prefixed ps a_name;
  spells = λ a ds. unary_spells ps ds (primary a_name (a_word ∷ []) a_name_primary);
}
has lines.Primary = record { behind = a_word ∷ []; value = a_name; spells = a_name_primary }
has (Group at) = record {
  behind = a_word ∷ a_symbol S.RightParen ∷ [];
  value = placed at (X.Group a_name);
  spells = λ o left start. rw (← start) (group o (a_symbol S.RightParen) a_name (a_word ∷ []) left a_name_spells refl);
}
has (Named at n) = record { behind = []; value = placed at (X.Name n); spells = λ t named start. rw (← start) (name t n named) }
has (lines.Elements close) = record {
  behind = a_symbol close ∷ [];
  value = [];
  spells = closed [] (a_symbol close) [] no_elements refl;
}
has (lines.Items close es) = record {
  behind = a_word ∷ a_symbol close ∷ [];
  value = es ++ a_name ∷ [];
  spells = λ a lead. closed_spells a_name a (a_word ∷ []) (a_symbol close) a_name_spells close es lead refl;
}
has (Brace at) = record {
  behind = a_symbol S.RightBrace ∷ [];
  value = placed at (X.Map []);
  spells = λ o left start. rw (← start) (empty_map o (a_symbol S.RightBrace) left refl);
}
has (lines.Entries at es key) = record {
  behind = a_word ∷ a_symbol S.RightBrace ∷ [];
  value = placed at (X.Map (es ++ (key, a_name) ∷ []));
  spells = λ a lead. map_spells a_name a (a_word ∷ []) (a_symbol S.RightBrace) a_name_spells at es key lead refl;
}
has (lines.Fields at fs named) = record {
  behind = a_word ∷ a_symbol S.RightBrace ∷ [];
  value = placed at (X.Tuple (fs ++ field named a_name ∷ []));
  spells = λ a lead. tuple_spells a_name a (a_word ∷ []) (a_symbol S.RightBrace) a_name_spells at fs named lead refl;
}
has (lines.Steps e ss) = record { behind = []; value = lines.selected e ss; spells = λ a ds. rw (append-nil a) (steps_spell ss ds) }

-- Each line's rule leads to its phrases

-- a token and the ways after it have phrases
starts_behind : {A : Type 0} (U : Phrase A) (t : Token) (r : R A) → Leads Phrases (Behind t U) r → Starts U []
starts_behind U t r q =
    let more = leads_some Phrases has (Behind t U) r q in
    record { behind = t ∷ more.behind; value = more.value; spells = more.spells }

-- a symbol that has to come
leads_expect : {A : Type 0} (U : Phrase A) (s : Symbol) (r : R A) → ((t : Token) → Is s t → Leads Phrases (Behind t U) r)
    → Leads Phrases U (expect s r)
leads_expect U s r q = (λ t e. q t (is-true s t e), starts_behind U (a_symbol s) r (q (a_symbol s) refl))

-- a name that has to come
leads_name : {A : Type 0} (U : Phrase A) (r : Token → R A) → ((t : Token) → Names (name_of t) t → Leads Phrases (Behind t U) (r t))
    → Leads Phrases U (look is_name r stop)
leads_name U r q = (λ t e. q t (is_name-true t e), starts_behind U a_word (r a_word) (q a_word refl))

-- an operand after prefixes, from a primary expression and what is taken of it
leads_operand : (ps : List Prefix) (p u : Expr) (f a b : List Token) → Prefixes ps f → Primary p a
    → After Steps (SpellsSteps p) [] u b → Unary (lines.prefixed ps u) (f ++ (a ++ (b ++ [])))
leads_operand ps p u f a b ds d s = rw (append-nil b) (unary_spells ps ds (operand_spells d (s [] no_steps)))

-- in braces, a name alone is that of a field, and any other expression a key
leads_field : (at place : ℕ) (k : ExprKind) → Leads Phrases (After Spells (From S.LeftBrace at Primary) (placed place k)) (field_rule at place k)
leads_field at place (X.Name n) = leads_expect _ S.Assign (rules.call (lines.Fields at [] (placed place n)) done) (λ t assign v b r a d.
    let x = spells_name d n refl in
    rw (append-nil b) (simp append_assoc at (r (a ++ t ∷ []) (lead_field t x.token n place a x.named x.place x.is assign))))
leads_field at place k = starts_behind _ (a_symbol S.Colon) (rules.call (lines.Entries at [] (placed place k)) done) (λ v b r a d.
    rw (append-nil b) (simp append_assoc at (r (a ++ a_symbol S.Colon ∷ []) (lead_entry (placed place k) (a_symbol S.Colon) a d refl))))

-- the rule of each line leads to what the line spells
pub leads : (x : Line) → Leads Phrases (Phrases x) (rule x)
unfolding rule
leads Whole = λ u e b r a p. rw (append-nil b) (r a (p [] no_prefixes))
leads (Rest u) = λ test. (
  λ q question x. leads_expect _ S.Colon (rules.call Whole (λ y. done (lines.conditional test x y))) (λ k colon y d dy b dx a at p w.
      let whole = conditional test x y q k (p ++ a) b d (at p w) (is-true S.Question q question) dx colon dy in
      rw (append-nil d, ← append_assoc p a (q ∷ (b ++ k ∷ d))) whole),
  λ a at p w. rw (append-nil a) (plain test (p ++ a) (at p w)),
)
leads (Climb zero u) = λ a d. rw (append-nil a) (unary u a d)
leads (Climb (suc k) u) = λ left e b chain a climb p d.
    rw (append-nil b, ← append_assoc p a b) (chain (p ++ a) (tighter k left (p ++ a) (climb p d)))
leads (Chain k left) = (
  λ t e u right v b chain c climb p pre a d.
      let known = is_operator-true (suc k) t e in
      let whole = binary k left right (operator_of t) t a (p ++ c) d known.0 known.1 (climb p (pre [] no_prefixes)) in
      rw (append-nil b) (simp append_assoc at (chain (a ++ t ∷ (p ++ c)) whole)),
  λ a d. rw (append-nil a) d,
)
leads (Prefixed ps) = (
  λ t e v b r a ds. rw (append-nil b) (simp append_assoc at (r (a ++ t ∷ []) (operator ps a t _ ds (is_prefix-true t e)))),
  (
    λ o left. (
      λ t e. leads_expect _ S.RightParen (rules.call (Prefixed (ps ++ lines.cast_token o.start t ∷ [])) done) (λ c right v b r a ds.
          let whole = cast ps a o t c _ ds (is-true S.LeftParen o left) (is_target-true t e) right in
          rw (append-nil b) (simp append_assoc at (r (a ++ o ∷ t ∷ c ∷ []) whole))),
      λ p u b s g group f ds. leads_operand ps p u f (o ∷ g) b ds (group o (is-true S.LeftParen o left) refl) s,
    ),
    λ p u b s a d f ds. leads_operand ps p u f a b ds d s,
  ),
)
leads lines.Primary = (
  λ t e. literal t _ (is_literal-true t e),
  (
    λ t e v b r. rw (append-nil b) (r t (is_name-true t e) refl),
    (
      λ o e es b d. rw (append-nil b) (list_spells (is-true S.LeftBracket o e) d),
      (λ o e v b r. rw (append-nil b) (r o (is-true S.LeftBrace o e) refl), has lines.Primary),
    ),
  ),
)
leads (Group at) = λ e. leads_expect _ S.RightParen (done (placed at (X.Group e))) (λ c right a d o left start.
    rw (← start) (group o c e a left d right))
leads (Named at n) = (
  λ o e es b d t named start. rw (← start, append-nil b) (call_spells named (is-true S.LeftParen o e) d),
  λ t named start. rw (← start) (name t n named),
)
leads (lines.Elements close) = (
  λ c e. closed [] c [] no_elements (is-true close c e),
  λ es b r. rw (append-nil b) (some_closed (r [] first_item)),
)
leads (lines.Items close es) = λ e. (
  λ t comma all b r d s a lead.
      rw (append-nil b) (simp append_assoc at (r ((a ++ d) ++ t ∷ []) (lead_item es e t a d lead s (is-true S.Comma t comma)))),
  leads_expect _ close (done (es ++ e ∷ [])) (λ c right d s a lead. closed_spells e a d c s close es lead right),
)
leads (Brace at) = (
  λ c e o left start. rw (← start) (empty_map o c left (is-true S.RightBrace c e)),
  λ e. (
    λ t colon v b r a d. rw (append-nil b) (simp append_assoc at (r (a ++ t ∷ []) (lead_entry e t a d (is-true S.Colon t colon)))),
    leads_field at e.at e.what,
  ),
)
leads (lines.Entries at es key) = λ e. (
  λ t comma k. leads_expect _ S.Colon (rules.call (lines.Entries at (es ++ (key, e) ∷ []) k) done) (λ c colon v b r f dk d s a lead.
      rw (append-nil b) (simp append_assoc at
      (r ((a ++ d) ++ t ∷ (f ++ c ∷ [])) (lead_next_entry es key e k t c a d f lead s (is-true S.Comma t comma) dk colon)))),
  leads_expect _ S.RightBrace (done (placed at (X.Map (es ++ (key, e) ∷ [])))) (λ c right d s a lead.
      map_spells e a d c s at es key lead right),
)
leads (lines.Fields at fs named) = λ e. (
  λ t comma.
      let go = λ (x : Token). rules.call (lines.Fields at (fs ++ field named e ∷ []) (placed x.start (name_of x))) done in
      leads_name _ (λ x. expect S.Assign (go x)) (λ x word. leads_expect _ S.Assign (go x) (λ c assign v b r d s a lead.
      rw (append-nil b) (simp append_assoc at
      (r ((a ++ d) ++ t ∷ x ∷ c ∷ []) (lead_next_field fs named e t x c _ a d lead s (is-true S.Comma t comma) word assign))))),
  leads_expect _ S.RightBrace (done (placed at (X.Tuple (fs ++ field named e ∷ [])))) (λ c right d s a lead.
      tuple_spells e a d c s at fs named lead right),
)
leads (lines.Steps e ss) = (
  λ d dot. leads_name _ (λ t. rules.call (lines.Steps e (ss ++ N.Member (placed t.start (name_of t)) ∷ [])) done) (λ t word v b r q ds.
      rw (append-nil b) (simp append_assoc at (r (q ++ d ∷ t ∷ []) (member ss q d t _ ds (is-true S.Dot d dot) word)))),
  (
    λ o left i. leads_expect _ S.RightBracket (rules.call (lines.Steps e (ss ++ N.Index i ∷ [])) done) (λ c right v b r d s q ds.
        rw (append-nil b) (simp append_assoc at (r (q ++ o ∷ (d ++ c ∷ [])) (index ss i o c q d ds (is-true S.LeftBracket o left) s right)))),
    λ q ds. rw (append-nil q) (steps_spell ss ds),
  ),
)

-- what a line takes is a phrase of it, and what it passes before a refusal starts one
pub sound : (n : ℕ) (x : Line) (ts : List Token) → Sound (Phrases x) ts (read rule n x ts)
sound n x ts = sound_lines Phrases has rule leads n x ts

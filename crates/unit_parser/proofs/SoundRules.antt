-- How the rules of units lead to phrases.
use Rattle.std.proofs.Common.{◌≡◌, Bool, true, List, [], ◌∷◌, ◌++◌, Some, refl, append_assoc, append-nil}
use Rattle.spl_tree.specs.declared.keyword.Keyword.{Keyword}
use Rattle.spl_tree.specs.declared.keyword.Keyword.TheVariants as K
use Rattle.spl_tree.specs.declared.symbol.Symbol.{Symbol}
use Rattle.spl_tree.specs.declared.symbol.Symbol.TheVariants as S
use Rattle.spl_tree.specs.declared.token.Token.{Token}
use Rattle.spl_tree.specs.declared.token.TokenKind.TheVariants as T
use Rattle.spl_tree.specs.spellings.Grammar.{Is, Names}
use Rattle.spl_tree.specs.spellings.Phrases.{Phrase, IsKeyword, Row, more, Separated, first, next}
use Rattle.spl_tree.specs.Trees.{TypeExpr}
use Rattle.spl_tree.specs.spellings.TypeGrammar.{SpellsType}
use Rattle.spl_tree.specs.Operators.{assignment_of}
use Rattle.expr_parser.specs.Rules.{Rule, done, stop, look, call}
use Rattle.spl_tree.specs.Fronts.{Starts}
use Rattle.expr_parser.specs.Lines as expressions
use Rattle.expr_parser.specs.Lines.{is, is_name, name_of, selected}
use Rattle.expr_parser.proofs.TestLaws.{is-true, is_name-true}
use Rattle.expr_parser.proofs.Sound as expression_phrases
use Rattle.expr_parser.proofs.Soundness as soundness
use Rattle.expr_parser.proofs.Soundness.{Behind, After, leads_some}
use Rattle.statement_parser.specs.Lines.{Line, Value, R, is_word, type_of, is_dollar, dollar_at, is_assignment, assignment_at, lifted, expect, expect_word, a_type}
use Rattle.unit_parser.proofs.SoundTests.{is_type-true, is_dollar-true, is_assignment-true}
use Rattle.unit_parser.proofs.SoundPhrases.{Rows, Phrases}
use Rattle.unit_parser.proofs.SoundSamples.{has, a_token, a_symbol, a_keyword, a_word}
use Rattle.statement_parser.proofs.CompleteParts.{word_is}

-- each way through a rule completes a phrase of U, and where it stops, some tokens would complete one
abbrev pub Leads : {A : Type 0} → Phrase A → R A → Type 0
Leads U r = soundness.Leads Phrases U r

-- where each phrase of U is one of V, what leads to U leads to V
leads_map : {A : Type 0} (U V : Phrase A) → ((v : A) (b : List Token) → U v b → V v b) → (r : R A) → Leads U r → Leads V r
leads_map U V m (done v) q = m v [] q
leads_map U V m stop q = record { behind = q.behind; value = q.value; spells = m q.value q.behind q.spells }
leads_map U V m (look p f d) q = (λ t e. leads_map (Behind t U) (Behind t V) (λ v b. m v (t ∷ b)) (f t) (q.0 t e), leads_map U V m d q.1)
leads_map U V m (call x k) q = λ y. leads_map (After (Phrases x) U y) (After (Phrases x) V y) (λ v b u a d. m v (a ++ b) (u a d)) (k y) (q y)

-- Expressions

-- a rule of expressions leads to the same phrases among the rules of units
pub leads_lifted : {A : Type 0} (U : Phrase A) (r : Rule expressions.Line expressions.Value A) → soundness.Leads expression_phrases.Phrases U r → Leads U (lifted r)
leads_lifted U (done v) q = q
leads_lifted U stop q = q
leads_lifted U (look p f d) q = (λ t e. leads_lifted (Behind t U) (f t) (q.0 t e), leads_lifted U d q.1)
leads_lifted U (call x k) q = λ y. leads_lifted (After (expression_phrases.Phrases x) U y) (k y) (q y)

-- the same as a record, whose type shows the rule
pub record LeadsTo {A : Type 0} (U : Phrase A) (r : R A) : Type 0 where
  pub leads : Leads U r

-- where each phrase of U is one of V, what leads to U leads to V
pub weaker : {A : Type 0} {U V : Phrase A} {r : R A} → LeadsTo U r → ((v : A) (b : List Token) → U v b → V v b) → LeadsTo V r
weaker {U} {V} {r} q m = record { leads = leads_map U V m r q.leads }

-- a value is there
pub ended : {A : Type 0} {U : Phrase A} {v : A} → U v [] → LeadsTo U (done v)
ended d = record { leads = d }

-- one of two ways
pub either : {A : Type 0} {U : Phrase A} {p : Token → Bool} {f : Token → R A} {r : R A} → ((t : Token) → p t ≡ true → LeadsTo (Behind t U) (f t)) → LeadsTo U r
    → LeadsTo U (look p f r)
either taken other = record { leads = (λ t e. (taken t e).leads, other.leads) }

-- another line is read first
pub called : {A : Type 0} {U : Phrase A} {x : Line} {k : Value x → R A} → ((y : Value x) → LeadsTo (After (Phrases x) U y) (k y)) → LeadsTo U (call x k)
called q = record { leads = λ y. (q y).leads }

-- or read last
pub last : {A : Type 0} {x : Line} {U : Phrase A} {f : Value x → A} → ((v : Value x) (b : List Token) → Phrases x v b → U (f v) b) → LeadsTo U (call x (λ v. done (f v)))
last q = record { leads = λ y a d. rw (append-nil a) (q y a d) }

-- no token may stand here
pub stops : {A : Type 0} {U : Phrase A} → Starts U [] → LeadsTo U stop
stops s = record { leads = s }

-- a token has to come that is tested for P: some token is that, and the ways after it have phrases
comes : {A : Type 0} {U : Phrase A} {p : Token → Bool} {f : Token → R A} (P : Token → Type 0) (t : Token) → P t → ((t : Token) → p t ≡ true → P t)
    → ((t : Token) → P t → LeadsTo (Behind t U) (f t)) → LeadsTo U (look p f stop)
comes {U} {f} P t d test q =
    let some = leads_some Phrases has (Behind t U) (f t) (q t d).leads in
    record { leads = (λ t e. (q t (test t e)).leads, record { behind = t ∷ some.behind; value = some.value; spells = some.spells }) }

-- that symbol has to come
pub comes_symbol : {A : Type 0} {U : Phrase A} {r : R A} (s : Symbol) → ((t : Token) → Is s t → LeadsTo (Behind t U) r) → LeadsTo U (expect s r)
comes_symbol s q = comes (Is s) (a_symbol s) refl (is-true s) q

-- that reserved word
pub comes_word : {A : Type 0} {U : Phrase A} {r : R A} (k : Keyword) → ((t : Token) → IsKeyword k t → LeadsTo (Behind t U) r) → LeadsTo U (expect_word k r)
comes_word k q = comes (IsKeyword k) (a_keyword k) refl (word_is k) q

-- a name
pub comes_name : {A : Type 0} {U : Phrase A} {f : Token → R A} → ((t : Token) → Names (name_of t) t → LeadsTo (Behind t U) (f t)) → LeadsTo U (look is_name f stop)
comes_name q = comes (λ t. Names (name_of t) t) a_word refl is_name-true q

-- a name after a `$`
pub comes_dollar : {A : Type 0} {U : Phrase A} {f : Token → R A} → ((t : Token) → t.kind ≡ T.Dollar (dollar_at t).what → LeadsTo (Behind t U) (f t))
    → LeadsTo U (look is_dollar f stop)
comes_dollar q = comes (λ t. t.kind ≡ T.Dollar (dollar_at t).what) (a_token (T.Dollar [])) refl is_dollar-true q

-- an operator of assignment
pub comes_assignment : {A : Type 0} {U : Phrase A} {f : Token → R A} → ((t : Token) → assignment_of t.kind ≡ Some (assignment_at t) → LeadsTo (Behind t U) (f t))
    → LeadsTo U (look is_assignment f stop)
comes_assignment q = comes (λ t. assignment_of t.kind ≡ Some (assignment_at t)) (a_symbol S.Assign) refl is_assignment-true q

-- that symbol may come
pub may_symbol : {A : Type 0} {U : Phrase A} {f : Token → R A} {r : R A} (s : Symbol) → ((t : Token) → Is s t → LeadsTo (Behind t U) (f t)) → LeadsTo U r
    → LeadsTo U (look (is s) f r)
may_symbol s q other = either (λ t e. q t (is-true s t e)) other

-- that reserved word
pub may_word : {A : Type 0} {U : Phrase A} {f : Token → R A} {r : R A} (k : Keyword) → ((t : Token) → IsKeyword k t → LeadsTo (Behind t U) (f t)) → LeadsTo U r
    → LeadsTo U (look (is_word k) f r)
may_word k q other = either (λ t e. q t (word_is k t e)) other

-- a name
pub may_name : {A : Type 0} {U : Phrase A} {f : Token → R A} {r : R A} → ((t : Token) → Names (name_of t) t → LeadsTo (Behind t U) (f t)) → LeadsTo U r
    → LeadsTo U (look is_name f r)
may_name q other = either (λ t e. q t (is_name-true t e)) other

-- a type
pub may_type : {A : Type 0} {U : Phrase A} {r : R A} (f : TypeExpr → R A) → ((k : TypeExpr) → LeadsTo (After SpellsType U k) (f k)) → LeadsTo U r → LeadsTo U (a_type f r)
may_type f q other =
    either (λ t e. weaker (q (type_of t)) (λ v b u. u (t ∷ []) (is_type-true t e)))
    (may_word K.List (λ t is. called (λ k. weaker (q k) (λ v b u a d. u (t ∷ a) (d t is refl))))
    (may_word K.Map (λ t is. called (λ k. weaker (q k) (λ v b u a d. u (t ∷ a) (d t is refl))))
    (may_word K.Tuple (λ t is. called (λ k. weaker (q k) (λ v b u a d. u (t ∷ a) (d t is refl))))
    other)))

-- Phrases in a row, and in lists

-- one more phrase in a row, with more after it
pub row_more : {A : Type 0} {P : Phrase A} (xs : List A) (x : A) (v : List A) (a c b : List Token) → Rows P (xs ++ x ∷ []) v b → Row P xs a → P x c → Row P v (a ++ (c ++ b))
row_more xs x v a c b r ds d = rw (← append_assoc a c b) (r (a ++ c) (more xs x a c ds d))

-- the first of a list with symbols between them
pub lead_first : {A : Type 0} {P : Phrase A} {s : Symbol} (x : A) (b : List Token) → P x b → Separated s P (x ∷ []) b
lead_first x b d = first x b d

-- after a symbol one more may come
pub lead_next : {A : Type 0} {P : Phrase A} {s : Symbol} {xs : List A} {a : List Token} (t : Token) → Separated s P xs a → Is s t
    → (x : A) (b : List Token) → P x b → Separated s P (xs ++ x ∷ []) ((a ++ t ∷ []) ++ b)
lead_next {xs} {a} t ds is x b d = rw (append_assoc a (t ∷ []) b) (next xs x t a b ds is d)

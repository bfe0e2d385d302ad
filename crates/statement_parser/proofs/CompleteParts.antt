-- The results of lines of units on the parts of phrases: tokens, expressions and lists.
use Rattle.std.proofs.Common.{◌≡◌, ◌∙◌, ℕ, zero, suc, ◌<◌, Bool, true, false, if◌then◌else◌, List, [], ◌∷◌, ◌++◌, refl, ap, append_assoc}
use Rattle.std.specs.Str.{bytes_eq}
use Rattle.std.proofs.lemmas.Bool.{false_from_ne_true}
use Rattle.std.proofs.lemmas.Slice.Eq.{bytes_eq-Decides}
use Rattle.spl_tree.specs.declared.keyword.Keyword.{Keyword}
use Rattle.spl_tree.specs.declared.symbol.Symbol.{Symbol}
use Rattle.spl_tree.specs.declared.token.Token.{Token}
use Rattle.spl_tree.specs.declared.token.TokenKind.{TokenKind}
use Rattle.spl_tree.specs.declared.token.TokenKind.TheVariants as T
use Rattle.spl_tree.specs.Words.{symbol_text, keyword_word, keyword_of}
use Rattle.spl_tree.proofs.WordLaws.{keywords_law}
use Rattle.spl_tree.specs.Trees.{Expr}
use Rattle.spl_tree.specs.spellings.Grammar.{Is, Spells}
use Rattle.spl_tree.specs.spellings.Phrases.{IsKeyword, Phrase, Row, none, more, Separated, first, next}
use Rattle.expr_parser.specs.Rules.{Rule, done, stop, look, call, RuleResult, Took, Refused, Spent, Reader, and_then, run, read, RunsTo, Reads}
use Rattle.expr_parser.proofs.RuleLaws.{runs_done, runs_take, runs_skip, runs_call}
use Rattle.expr_parser.specs.Taken.{begins_with}
use Rattle.expr_parser.specs.Lines as expressions
use Rattle.expr_parser.specs.Lines.{is, is_name, name_kind}
use Rattle.expr_parser.proofs.TestLaws.{is-true, Stops, symbol_binds}
use Rattle.expr_parser.proofs.Complete.{spells_reads}
use Rattle.statement_parser.specs.Lines.{Line, Value, Expression, rule, R, is_word, word_kind, expect, expect_word, expression, lifted}

-- Tests

-- a symbol passes its own test
is-itself : (s : Symbol) (t : Token) → Is s t → is s t ≡ true
is-itself s t e = rw e ((bytes_eq-Decides (symbol_text s) (symbol_text s)).1 refl)

-- and so does a reserved word
pub word-itself : (k : Keyword) (t : Token) → IsKeyword k t → is_word k t ≡ true
word-itself k t e = rw e ((bytes_eq-Decides (keyword_word k) (keyword_word k)).1 refl)

-- reserved words with one text are one
pub same_word : (k x : Keyword) → bytes_eq (keyword_word k) (keyword_word x) ≡ true → k ≡ x
same_word k x e =
    let same = ap keyword_of ((bytes_eq-Decides (keyword_word k) (keyword_word x)).0 e) in
    cc (same, keywords_law k, keywords_law x)

-- a token that is tested for a reserved word is that word
pub word_is : (k : Keyword) (t : Token) → is_word k t ≡ true → IsKeyword k t
word_is k t e = by t.kind e
  where
    by : (x : TokenKind) → word_kind k x ≡ true → x ≡ T.Keyword k
    by (T.Keyword x) e = let same = same_word k x e in cc
    by _ e = absurd (cc)

-- the first token is of a kind that passes
abbrev pub Heads : (TokenKind → Bool) → List Token → Type 0
Heads q ts = begins_with (λ t. q t.kind) ts ≡ true

-- so it is no reserved word that does not pass
pub no_word : (q : TokenKind → Bool) (k : Keyword) → q (T.Keyword k) ≡ false → (ts : List Token) → Heads q ts → begins_with (is_word k) ts ≡ false
no_word q k shut [] e = refl
no_word q k shut (t ∷ ts) e = false_from_ne_true (is_word k t) (λ same. let kind = ap q (word_is k t same) in absurd (cc))

-- no symbol that does not
pub no_symbol : (q : TokenKind → Bool) (s : Symbol) → q (T.Symbol s) ≡ false → (ts : List Token) → Heads q ts → begins_with (is s) ts ≡ false
no_symbol q s shut [] e = refl
no_symbol q s shut (t ∷ ts) e = false_from_ne_true (is s t) (λ same. let kind = ap q (is-true s t same) in absurd (cc))

-- and no name where none does
pub no_name : (q : TokenKind → Bool) → ((n : List ℕ) → q (T.Word n) ≡ false) → (ts : List Token) → Heads q ts → begins_with is_name ts ≡ false
no_name q shut [] e = refl
no_name q shut (t ∷ ts) e = by t.kind refl
  where
    by : (k : TokenKind) → t.kind ≡ k → is_name t ≡ false
    by (T.Word n) kind = let none = shut n in absurd (cc)
    by _ kind = rw kind refl

-- Steps of a reading

-- how a look at the first token goes
module _ {A : Type 0} {p : Token → Bool} {f : Token → R A} {d : R A} {o : RuleResult A} where
  -- the first token passes
  pub takes : {t : Token} {ts : List Token} → p t ≡ true → RunsTo rule (f t) ts o → RunsTo rule (look p f d) (t ∷ ts) o
  takes {t} {ts} passes r = runs_take (t ∷ ts) t ts refl passes r

  -- no first token does
  pub skips : {ts : List Token} → begins_with p ts ≡ false → RunsTo rule d ts o → RunsTo rule (look p f d) ts o
  skips {ts} e r = runs_skip ts e r

-- the symbol that has to come
pub expects : {A : Type 0} {s : Symbol} {r : R A} {o : RuleResult A} {t : Token} {ts : List Token} → Is s t → RunsTo rule r ts o → RunsTo rule (expect s r) (t ∷ ts) o
expects {s = s} {t = t} e r = takes (is-itself s t e) r

-- the reserved word
pub expects_word : {A : Type 0} {k : Keyword} {r : R A} {o : RuleResult A} {t : Token} {ts : List Token} → IsKeyword k t → RunsTo rule r ts o
    → RunsTo rule (expect_word k r) (t ∷ ts) o
expects_word {k = k} {t = t} e r = takes (word-itself k t e) r

-- another line, and no more
pub only : {x : Line} {ts rest : List Token} {v : Value x} → Reads rule x ts (Took v rest) → RunsTo rule (call x done) ts (Took v rest)
only r = runs_call r runs_done

-- Expressions

-- two choices by one test are the same where each way is the same
if_same : {X : Type 0} (b : Bool) {x y x' y' : X} → x ≡ x' → y ≡ y' → (if b then x else y) ≡ (if b then x' else y')
if_same true e f = e
if_same false e f = f

module _ (c : (x : Line) → Reader (Value x)) (d : (x : expressions.Line) → Reader (expressions.Value x))
    (same : (x : expressions.Line) (ts : List Token) → c (Expression x) ts ≡ d x ts) where
  -- a lifted rule of expressions has the same result as the rule itself
  run_lifted : {A : Type 0} (r : Rule expressions.Line expressions.Value A) (ts : List Token) → run c (lifted r) ts ≡ run d r ts
  run_lifted (done x) ts = refl
  run_lifted stop ts = refl
  run_lifted (look p f r) [] = run_lifted r []
  run_lifted (look p f r) (t ∷ ts) = if_same (p t) (run_lifted (f t) ts) (run_lifted r (t ∷ ts))
  run_lifted {A} (call x k) ts = rw (same x ts) (by (d x ts) (λ y rest. run_lifted (k y) rest))
    where
      by : (o : RuleResult (expressions.Value x)) → ((y : expressions.Value x) (rest : List Token) → run c (lifted (k y)) rest ≡ run d (k y) rest)
          → and_then o (λ y rest. run c (lifted (k y)) rest) ≡ and_then o (λ y rest. run d (k y) rest)
      by (Took y rest) behind = behind y rest
      by (Refused rest) behind = refl
      by Spent behind = refl

-- a line of expressions has the same result as in the grammar of expressions
read_expression : (n : ℕ) (x : expressions.Line) (ts : List Token) → read rule n (Expression x) ts ≡ read expressions.rule n x ts
unfolding read rule
read_expression zero x ts = refl
read_expression (suc n) x ts = run_lifted (read rule n) (read expressions.rule n) (read_expression n) (expressions.rule x) ts

pub embedded : {x : expressions.Line} {ts : List Token} {o : RuleResult (expressions.Value x)} → Reads expressions.rule x ts o → Reads rule (Expression x) ts o
embedded {x} {ts} r = record { depth = r.depth; is = read_expression r.depth x ts ∙ r.is }

-- a symbol with which no expression goes on ends an expression
pub ends : (s : Symbol) (t : Token) (ts : List Token) → 10 < symbol_binds s → Is s t → Stops 10 (t ∷ ts)
ends s t ts stops e = rw e stops

-- an expression up to such a symbol
pub expression_reads : {A : Type 0} {k : Expr → R A} {o : RuleResult A} {e : Expr} {a : List Token} → Spells e a
    → (s : Symbol) {t : Token} {rest : List Token} → 10 < symbol_binds s → Is s t → RunsTo rule (k e) (t ∷ rest) o → RunsTo rule (expression k) (a ++ t ∷ rest) o
expression_reads d s {t = t} {rest = rest} stops e r = runs_call (embedded (spells_reads d (t ∷ rest) (ends s t rest stops e))) r

-- Lists of phrases

-- phrases in a row are read one by one; Behind says, of those read, what the result of the tokens after them is
pub row : {A : Type 0} {P : Phrase A} (Behind : List A → List Token → Type 0)
    → ((xs : List A) (x : A) (b ts : List Token) → P x b → Behind (xs ++ x ∷ []) ts → Behind xs (b ++ ts))
    → {xs : List A} {a : List Token} → Row P xs a → (rest : List Token) → Behind xs rest → Behind [] (a ++ rest)
row Behind step none rest r = r
row Behind step (more xs x a b ds d) rest r = rw (append_assoc a b rest) (row Behind step ds (b ++ rest) (step xs x b rest d r))

-- a row of phrases that begin with no token that passes begins with none either, where what follows does not
pub row_front : {A : Type 0} {P : Phrase A} (p : Token → Bool) → ((x : A) (b ts : List Token) → P x b → begins_with p (b ++ ts) ≡ false)
    → {xs : List A} {a : List Token} → Row P xs a → (rest : List Token) → begins_with p rest ≡ false → begins_with p (a ++ rest) ≡ false
row_front p shut none rest e = e
row_front p shut (more xs x a b ds d) rest e = rw (append_assoc a b rest) (row_front p shut ds (b ++ rest) (shut x b rest d))

-- phrases with a symbol between them: Before says what the result of tokens is where one more phrase has to come, and
-- Behind where a phrase stands before them; Ends says what may follow a phrase
pub separated : {A : Type 0} {s : Symbol} {P : Phrase A} (Ends : List Token → Type 0) (Before Behind : List A → List Token → Type 0)
    → ((t : Token) (ts : List Token) → Is s t → Ends (t ∷ ts))
    → ((xs : List A) (x : A) (b ts : List Token) → P x b → Ends ts → Behind (xs ++ x ∷ []) ts → Before xs (b ++ ts))
    → ((xs : List A) (t : Token) (ts : List Token) → Is s t → Before xs ts → Behind xs (t ∷ ts))
    → {xs : List A} {a : List Token} → Separated s P xs a → (rest : List Token) → Ends rest → Behind xs rest → Before [] (a ++ rest)
separated Ends Before Behind between element another (first x a d) rest end r = element [] x a rest d end r
separated Ends Before Behind between element another (next xs x t a b ds e d) rest end r =
    rw (append_assoc a (t ∷ b) rest)
    (separated Ends Before Behind between element another ds (t ∷ (b ++ rest)) (between t (b ++ rest) e)
    (another xs t (b ++ rest) e (element xs x b rest d end r)))

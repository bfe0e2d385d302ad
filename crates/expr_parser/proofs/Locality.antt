-- Rules look at one token at a time: what is left stands at the end of what was given, and no answer depends on
-- what comes after the first token of that.
use Rattle.std.proofs.Common.{◌≡◌, ◌∙◌, ℕ, zero, suc, ◌<◌, ◌≤◌, Bool, true, false, if◌then◌else◌, List, [], ◌∷◌, ◌++◌, length, refl, sym, ap, subst, arith, append_assoc, append-nil, length-append, ◌⊎◌, inl, inr}
use Rattle.spl_tree.specs.declared.token.Token.{Token}
use Rattle.expr_parser.specs.Rules.{Rule, done, stop, look, call, RuleResult, Took, Refused, Spent, Reader, and_then, run, read, RunsTo, Reads}
use Rattle.expr_parser.proofs.RuleLaws.{if_both}
use Rattle.expr_parser.specs.Taken.{Taken, TakenAs}

-- what is left
abbrev pub rest_of : {A : Type 0} → RuleResult A → List Token
rest_of (Took x rest) = rest
rest_of (Refused rest) = rest
rest_of Spent = []

-- the same answer, with other tokens left
abbrev pub leaving : {A : Type 0} → RuleResult A → List Token → RuleResult A
leaving (Took x rest) ts = Took x ts
leaving (Refused rest) ts = Refused ts
leaving Spent ts = Spent

-- both begin with one token
abbrev pub SameFirst : List Token → List Token → Type 0
SameFirst [] us = ⊥
SameFirst (t ∷ ts) [] = ⊥
SameFirst (t ∷ ts) (u ∷ us) = t ≡ u

-- what an answer leaves is the end of the tokens, and the answer stands with any other end of the same first token
pub record Leaves {A : Type 0} (f : Reader A) (ts : List Token) (answer : RuleResult A) : Type 0 where
  pub front : List Token
  pub splits : ts ≡ front ++ rest_of answer
  pub stands : (more : List Token) → SameFirst (rest_of answer) more → f (front ++ more) ≡ leaving answer more

-- the value is taken and all of those tokens are left, or fewer are left
abbrev pub Keeps : {A : Type 0} → A → List Token → RuleResult A → Type 0
Keeps x more answer = (answer ≡ Took x more) ⊎ (length (rest_of answer) < length more)

-- with other tokens left, tokens begin with the same one
same_first : (front rest more ts : List Token) → ts ≡ front ++ rest → SameFirst rest more → SameFirst ts (front ++ more)
same_first [] rest more ts splits s = rw splits s
same_first (t ∷ front) rest more ts splits s = rw splits refl

module _ {A : Type 0} {f g : Reader A} where
  -- a reader that answers as another one does
  leaves_same : (ts : List Token) (o : RuleResult A) → ((more : List Token) → SameFirst ts more → f more ≡ g more)
      → Leaves g ts o → Leaves f ts o
  leaves_same ts o same l = record {
    front = l.front;
    splits = l.splits;
    stands = λ more s. same (l.front ++ more) (same_first l.front (rest_of o) more ts l.splits s) ∙ l.stands more s;
  }

  -- a reader that takes a token and goes on as another one
  leaves_next : (t : Token) (ts : List Token) (o : RuleResult A) → ((more : List Token) → f (t ∷ more) ≡ g more)
      → Leaves g ts o → Leaves f (t ∷ ts) o
  leaves_next t ts o next l = record {
    front = t ∷ l.front;
    splits = ap (λ us. t ∷ us) l.splits;
    stands = λ more s. next (l.front ++ more) ∙ l.stands more s;
  }

module _ {Line : Type 0} {Value : Line → Type 0} (c : (x : Line) → Reader (Value x))
    (leaves : (x : Line) (ts : List Token) → Leaves (c x) ts (c x ts)) where
  -- a rule's answer
  leaves_run : {A : Type 0} (r : Rule Line Value A) (ts : List Token) → Leaves (run c r) ts (run c r ts)
  leaves_run (done x) ts = record { front = []; splits = refl; stands = λ more s. refl }
  leaves_run stop ts = record { front = []; splits = refl; stands = λ more s. refl }
  leaves_run (look p f d) [] = leaves_same [] (run c d []) (λ more s. absurd s) (leaves_run d [])
  leaves_run (look p f d) (t ∷ ts) = by (p t) refl (leaves_run (f t) ts) (leaves_run d (t ∷ ts))
    where
      skips : p t ≡ false → (more : List Token) → SameFirst (t ∷ ts) more → run c (look p f d) more ≡ run c d more
      skips e [] s = absurd s
      skips e (u ∷ more) s = rw (← s) (rw e refl)

      by : (b : Bool) → p t ≡ b → Leaves (run c (f t)) ts (run c (f t) ts) → Leaves (run c d) (t ∷ ts) (run c d (t ∷ ts))
          → Leaves (run c (look p f d)) (t ∷ ts) (if b then run c (f t) ts else run c d (t ∷ ts))
      by true e taken skipped = leaves_next t ts (run c (f t) ts) (λ more. rw e refl) taken
      by false e taken skipped = leaves_same (t ∷ ts) (run c d (t ∷ ts)) (skips e) skipped
  leaves_run {A} (call x k) ts = by (c x ts) (leaves x ts) (λ y. leaves_run (k y))
    where
      by : (q : RuleResult (Value x)) → Leaves (c x) ts q → ((y : Value x) (rest : List Token) → Leaves (run c (k y)) rest (run c (k y) rest))
          → Leaves (run c (call x k)) ts (and_then q (λ y rest. run c (k y) rest))
      by (Took y mid) l behind =
          let m = behind y mid in
          let o = run c (k y) mid in
          record {
            front = l.front ++ m.front;
            splits = l.splits ∙ ap (λ us. l.front ++ us) m.splits ∙ sym (append_assoc l.front m.front (rest_of o));
            stands = λ more s.
                rw (append_assoc l.front m.front more, l.stands (m.front ++ more) (same_first m.front (rest_of o) more mid m.splits s)) (m.stands more s);
          }
      by (Refused rest) l behind = record { front = l.front; splits = l.splits; stands = λ more s. rw (l.stands more s) refl }
      by Spent l behind = record { front = l.front; splits = l.splits; stands = λ more s. rw (l.stands more s) refl }

-- no more is left than was given
shorter : {A : Type 0} {f : Reader A} {ts : List Token} {o : RuleResult A} → Leaves f ts o → length (rest_of o) ≤ length ts
shorter {o = o} l = let both = ap length l.splits in omega (arith, length-append l.front (rest_of o))

-- nor after reading on
onward : {A B : Type 0} (o : RuleResult A) (go : A → Reader B) → ((y : A) (rest : List Token) → length (rest_of (go y rest)) ≤ length rest)
    → length (rest_of (and_then o go)) ≤ length (rest_of o)
onward (Took y rest) go le = le y rest
onward (Refused rest) go le = omega arith
onward Spent go le = omega arith

-- an answer that leaves a token is the same before more tokens
extends : {A : Type 0} {f : Reader A} {ts : List Token} (v : A) (t : Token) (rest more : List Token)
    → Leaves f ts (Took v (t ∷ rest)) → f (ts ++ more) ≡ Took v (t ∷ (rest ++ more))
extends {f = f} v t rest more l =
    ap (λ us. f (us ++ more)) l.splits ∙ rw (append_assoc l.front (t ∷ rest) more) (l.stands (t ∷ (rest ++ more)) refl)

module _ {Line : Type 0} {Value : Line → Type 0} (c : (x : Line) → Reader (Value x))
    (leaves : (x : Line) (ts : List Token) → Leaves (c x) ts (c x ts))
    (keeps : (x : Line) (ts more : List Token) (v : Value x) → c x ts ≡ Took v [] → Keeps v more (c x (ts ++ more))) where
  -- where a rule takes all tokens, those added after them are all left, or fewer of them are
  keeps_run : {A : Type 0} (r : Rule Line Value A) (ts more : List Token) (v : A) → run c r ts ≡ Took v [] → Keeps v more (run c r (ts ++ more))
  keeps_run (done x) ts more v e =
      let none : ts ≡ [] = cc in
      inl (rw none (cc))
  keeps_run stop ts more v e = absurd (cc)
  keeps_run (look p f d) [] [] v e = inl e
  keeps_run {A} (look p f d) [] (t ∷ more) v e = by (p t) (shorter (leaves_run c leaves (f t) more)) (keeps_run d [] (t ∷ more) v e)
    where
      by : (b : Bool) → length (rest_of (run c (f t) more)) ≤ length more → Keeps v (t ∷ more) (run c d (t ∷ more))
          → Keeps v (t ∷ more) (if b then run c (f t) more else run c d (t ∷ more))
      by true le k = inr (omega arith)
      by false le k = k
  keeps_run (look p f d) (t ∷ ts) more v e =
      if_both (Keeps v more) (Took v []) (p t) (keeps_run (f t) ts more v) (keeps_run d (t ∷ ts) more v) e
  keeps_run {A} (call x k) ts more v e = by (c x ts) refl e (λ y mid. keeps_run (k y) mid more v)
    where
      go : Value x → Reader A
      go y rest = run c (k y) rest

      by_end : (y : Value x) → Keeps v more (run c (k y) more) → (o : RuleResult (Value x)) → Keeps y more o → Keeps v more (and_then o go)
      by_end y k' o (inl same) = rw same k'
      by_end y k' o (inr less) = let le = onward o go (λ y rest. shorter (leaves_run c leaves (k y) rest)) in inr (omega arith)

      by : (q : RuleResult (Value x)) → c x ts ≡ q → and_then q go ≡ Took v []
          → ((y : Value x) (mid : List Token) → run c (k y) mid ≡ Took v [] → Keeps v more (run c (k y) (mid ++ more)))
          → Keeps v more (run c (call x k) (ts ++ more))
      by (Took y []) is e behind = by_end y (behind y [] e) (c x (ts ++ more)) (keeps x ts more y is)
      by (Took y (t ∷ mid)) is e behind =
          let same = extends y t mid more (subst (Leaves (c x) ts) is (leaves x ts)) in
          rw same (behind y (t ∷ mid) e)
      by (Refused rest) is e behind = absurd (cc)
      by Spent is e behind = absurd (cc)

module _ {Line : Type 0} {Value : Line → Type 0} (rule : (x : Line) → Rule Line Value (Value x)) where
  -- a line's answer
  leaves_read : (n : ℕ) (x : Line) (ts : List Token) → Leaves (read rule n x) ts (read rule n x ts)
  unfolding read
  leaves_read zero x ts = record { front = ts; splits = sym (append-nil ts); stands = λ more s. absurd s }
  leaves_read (suc n) x ts = leaves_run (read rule n) (leaves_read n) (rule x) ts

  -- what is left stands at the end of what was given, and no answer depends on what comes after its first token
  pub leaves : (n : ℕ) (x : Line) (ts : List Token) (o : RuleResult (Value x)) → read rule n x ts ≡ o → Leaves (read rule n x) ts o
  leaves n x ts o e = subst (Leaves (read rule n x) ts) e (leaves_read n x ts)

  -- where a line takes all tokens, those added after them are all left, or fewer of them are
  pub keeps : (n : ℕ) (x : Line) (ts more : List Token) (v : Value x) → read rule n x ts ≡ Took v [] → Keeps v more (read rule n x (ts ++ more))
  unfolding read
  keeps zero x ts more v e = absurd (cc)
  keeps (suc n) x ts more v e = keeps_run (read rule n) (leaves_read n) (keeps n) (rule x) ts more v e

  -- no more is left than was given
  pub shrinks : (n : ℕ) (x : Line) (ts : List Token) → length (rest_of (read rule n x ts)) ≤ length ts
  shrinks n x ts = shorter (leaves_read n x ts)

  -- nor after a rule
  pub run_shrinks : {A : Type 0} (n : ℕ) (r : Rule Line Value A) (ts : List Token) → length (rest_of (run (read rule n) r ts)) ≤ length ts
  run_shrinks n r ts = shorter (leaves_run (read rule n) (leaves_read n) r ts)

module _ {Line : Type 0} {Value : Line → Type 0} {rule : (x : Line) → Rule Line Value (Value x)} {ts rest : List Token} where
  -- what a line leaves isn't longer than what was given
  pub reads_shrinks : {x : Line} {v : Value x} → Reads rule x ts (Took v rest) → length rest ≤ length ts
  reads_shrinks {x} r = subst (λ o. length (rest_of o) ≤ length ts) r.is (shrinks rule r.depth x ts)

  -- nor what a rule leaves
  pub runs_shrinks : {A : Type 0} {r : Rule Line Value A} {v : A} → RunsTo rule r ts (Took v rest) → length rest ≤ length ts
  runs_shrinks {r = r} h = subst (λ o. length (rest_of o) ≤ length ts) h.is (run_shrinks rule h.depth r ts)

module _ {p : Token → Bool} {ts rest : List Token} where
  -- what is left after a token is shorter
  pub taken_shrinks : {t : Token} → Taken p ts t rest → length rest < length ts
  taken_shrinks h = let e = ap length h.here in omega arith

  pub taken_as_shrinks : {A : Type 0} {made : Token → A} {x : A} → TakenAs p made ts x rest → length rest < length ts
  taken_as_shrinks h = taken_shrinks h.taken

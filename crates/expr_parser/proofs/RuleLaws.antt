-- How readings go together: what a rule gives, from what its parts give.
use Rattle.std.proofs.Common.{◌≡◌, ◌∙◌, ℕ, zero, suc, ◌+◌, ◌≤◌, Bool, true, false, if◌then◌else◌, List, [], ◌∷◌, refl, sym, subst, arith}
use Rattle.spl_tree.specs.declared.token.Token.{Token}
use Rattle.expr_parser.specs.Rules.{Rule, done, stop, look, call, RuleResult, Took, Refused, Spent, Reader, and_then, run, read, RunsTo, Reads}
use Rattle.expr_parser.specs.Taken.{begins_with}

-- reading went deep enough to give a value or a refusal
abbrev pub Settled : {A : Type 0} → RuleResult A → Type 0
Settled (Took x rest) = Unit {0}
Settled (Refused rest) = Unit {0}
Settled Spent = ⊥

-- Deeper readings give the same

-- two choices by one test: where the first is o, P holds of the second if that is so in each case of the test
pub if_both : {X Y : Type 0} (P : Y → Type 0) (o : X) (b : Bool) {x y : X} {x' y' : Y} → (x ≡ o → P x') → (y ≡ o → P y')
    → (if b then x else y) ≡ o → P (if b then x' else y')
if_both P o true h k e = h e
if_both P o false h k e = k e

module _ {Line : Type 0} {Value : Line → Type 0} (c d : (x : Line) → Reader (Value x))
    (more : (x : Line) (ts : List Token) (o : RuleResult (Value x)) → c x ts ≡ o → Settled o → d x ts ≡ o) where
  -- a rule gives the same where the lines do
  run_same : {A : Type 0} (r : Rule Line Value A) (ts : List Token) (o : RuleResult A) → run c r ts ≡ o → Settled o → run d r ts ≡ o
  run_same (done x) ts o e s = e
  run_same stop ts o e s = e
  run_same (look p f r) [] o e s = run_same r [] o e s
  run_same (look p f r) (t ∷ ts) o e s =
      if_both (λ q. q ≡ o) o (p t) (λ h. run_same (f t) ts o h s) (λ h. run_same r (t ∷ ts) o h s) e
  run_same {A} (call x k) ts o e s = by (c x ts) refl e (λ y rest e. run_same (k y) rest o e s)
    where
      by : (q : RuleResult (Value x)) → c x ts ≡ q → and_then q (λ y rest. run c (k y) rest) ≡ o
          → ((y : Value x) (rest : List Token) → run c (k y) rest ≡ o → run d (k y) rest ≡ o) → run d (call x k) ts ≡ o
      by (Took y rest) is e behind = rw (more x ts (Took y rest) is tt) (behind y rest e)
      by (Refused rest) is e behind = rw (more x ts (Refused rest) is tt) e
      by Spent is e behind = absurd (subst Settled (sym e) s)

module _ {Line : Type 0} {Value : Line → Type 0} (rule : (x : Line) → Rule Line Value (Value x)) where
  -- a line gives the same at each depth from one that was enough on
  pub read_more : (n m : ℕ) (x : Line) (ts : List Token) (o : RuleResult (Value x)) → n ≤ m → read rule n x ts ≡ o → Settled o → read rule m x ts ≡ o
  unfolding read
  read_more zero m x ts o le e s = absurd (subst Settled (sym e) s)
  read_more (suc n) zero x ts o le e s = absurd (omega arith)
  read_more (suc n) (suc m) x ts o le e s =
      run_same (read rule n) (read rule m) (λ y us q. read_more n m y us q (omega arith)) (rule x) ts o e s

  -- and so does a rule
  pub run_more : {A : Type 0} (n m : ℕ) (r : Rule Line Value A) (ts : List Token) (o : RuleResult A) → n ≤ m
      → run (read rule n) r ts ≡ o → Settled o → run (read rule m) r ts ≡ o
  run_more n m r ts o le e s = run_same (read rule n) (read rule m) (λ y us q h. read_more n m y us q le h) r ts o e s

-- Answers of rules

module _ {Line : Type 0} {Value : Line → Type 0} {rule : (x : Line) → Rule Line Value (Value x)} where
  -- a line gives what its rule gives
  pub line : {x : Line} {ts : List Token} {o : RuleResult (Value x)} → RunsTo rule (rule x) ts o → Reads rule x ts o
  unfolding read
  line r = record { depth = suc r.depth; is = r.is }

  -- a value is there
  pub runs_done : {A : Type 0} {v : A} {ts : List Token} → RunsTo rule (done v) ts (Took v ts)
  runs_done = record { depth = 0; is = refl }

  -- no token may stand here
  pub runs_stop : {A : Type 0} {ts : List Token} → RunsTo rule {A = A} stop ts (Refused ts)
  runs_stop = record { depth = 0; is = refl }

  module _ {A : Type 0} {p : Token → Bool} {f : Token → Rule Line Value A} {d : Rule Line Value A} {o : RuleResult A} where
    -- a first token that passes is taken
    pub runs_take : (ts : List Token) (t : Token) (rest : List Token) → ts ≡ t ∷ rest → p t ≡ true
        → RunsTo rule (f t) rest o → RunsTo rule (look p f d) ts o
    runs_take ts t rest here passes r = record { depth = r.depth; is = rw here (rw passes r.is) }

    -- without one it goes on the other way
    pub runs_skip : (ts : List Token) → begins_with p ts ≡ false → RunsTo rule d ts o → RunsTo rule (look p f d) ts o
    runs_skip [] none r = record { depth = r.depth; is = r.is }
    runs_skip (t ∷ ts) none r = record { depth = r.depth; is = rw none r.is }

  module _ {A : Type 0} {y : Line} {k : Value y → Rule Line Value A} {ts : List Token} where
    -- at a depth that is enough for both
    both : {v : Value y} {mid : List Token} (o : RuleResult A) → Reads rule y ts (Took v mid) → RunsTo rule (k v) mid o → Settled o → RunsTo rule (call y k) ts o
    both {v} {mid} o first behind s =
        let n = first.depth + behind.depth in
        let took = read_more rule first.depth n y ts (Took v mid) (omega arith) first.is tt in
        record { depth = n; is = rw took (run_more rule behind.depth n (k v) mid o (omega arith) behind.is s) }

    -- another line is read first, and the rest after it
    pub runs_call : {v : Value y} {mid : List Token} {o : RuleResult A} → Reads rule y ts (Took v mid) → RunsTo rule (k v) mid o → RunsTo rule (call y k) ts o
    unfolding read
    runs_call {o = Spent} first behind = record { depth = 0; is = refl }
    runs_call {o = Took w rest} first behind = both (Took w rest) first behind tt
    runs_call {o = Refused rest} first behind = both (Refused rest) first behind tt

    -- or it refuses
    pub runs_fail : {rest : List Token} → Reads rule y ts (Refused rest) → RunsTo rule (call y k) ts (Refused rest)
    runs_fail first = record { depth = first.depth; is = rw first.is refl }

  -- a rule that only reads a line gives what that line gives
  pub runs_last : {x : Line} {ts : List Token} {o : RuleResult (Value x)} → Reads rule x ts o → RunsTo rule (call x done) ts o
  unfolding read
  runs_last {o = Took v rest} r = runs_call r runs_done
  runs_last {o = Refused rest} r = runs_fail r
  runs_last {o = Spent} r = record { depth = 0; is = refl }

  -- a line gives one answer
  pub reads_one : {x : Line} {ts : List Token} {o o' : RuleResult (Value x)} → Reads rule x ts o → Reads rule x ts o' → Settled o → Settled o' → o ≡ o'
  reads_one {x} {ts} {o} {o'} r q s s' =
      let n = r.depth + q.depth in
      sym (read_more rule r.depth n x ts o (omega arith) r.is s) ∙ read_more rule q.depth n x ts o' (omega arith) q.is s'

-- what `search` needs to put a reading together
pub ruleset readings = (line, runs_done, runs_stop, runs_take, runs_skip, runs_call, runs_fail)

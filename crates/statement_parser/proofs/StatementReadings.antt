-- Rules after one another, how many tokens rules leave, and what ends the arms of an `if`.
use Rattle.std.proofs.Common.{◌≡◌, ◌∙◌, ℕ, zero, suc, ◌+◌, ◌<◌, ◌≤◌, Bool, true, false, if◌then◌else◌, List, [], ◌∷◌, length, None, Err, refl, sym, subst, arith}
use Rattle.spl_tree.specs.Trees.{Stmt, Expr, placed}
use Rattle.spl_tree.specs.declared.keyword.Keyword.TheVariants as K
use Rattle.spl_tree.specs.declared.statement.StmtKind.TheVariants as Z
use Rattle.spl_tree.specs.declared.token.Token.{Token}
use Rattle.expr_parser.specs.declared.stop.Stop.{Stop}
use Rattle.expr_parser.specs.declared.stop.Stop.TheVariants as S
use Rattle.expr_parser.specs.Rules.{done, stop, look, call, RuleResult, Took, Refused, Spent, and_then, run, read, RunsTo, Reads}
use Rattle.expr_parser.proofs.RuleLaws.{run_more, runs_take, runs_skip}
use Rattle.expr_parser.specs.Taken.{begins_with, Taken}
use Rattle.expr_parser.proofs.Locality.{rest_of, run_shrinks}
use Rattle.statement_parser.specs.Gives.{Comes}
use Rattle.statement_parser.specs.Lines as lines
use Rattle.statement_parser.specs.Lines.{Line, Value, TypeExpression, Statement, Other, Arms, rule, R, is_word}

-- ---- a rule after another one

abbrev pub behind : {A B : Type 0} → R A → (A → R B) → R B
behind (done x) k = k x
behind stop k = stop
behind (look p f d) k = look p (λ t. behind (f t) k) (behind d k)
behind (call y g) k = call y (λ v. behind (g v) k)

module _ {A B : Type 0} (n : ℕ) (k : A → R B) where
  abbrev go : A → List Token → RuleResult B
  go x rest = run (read rule n) (k x) rest

  -- its result is that of the two in turn
  behind_is : (r : R A) (ts : List Token) → run (read rule n) (behind r k) ts ≡ and_then (run (read rule n) r ts) go
  behind_is (done x) ts = refl
  behind_is stop ts = refl
  behind_is (look p f d) [] = behind_is d []
  behind_is (look p f d) (t ∷ ts) = by (p t) (behind_is (f t) ts) (behind_is d (t ∷ ts))
    where
      by : (b : Bool) → run (read rule n) (behind (f t) k) ts ≡ and_then (run (read rule n) (f t) ts) go
          → run (read rule n) (behind d k) (t ∷ ts) ≡ and_then (run (read rule n) d (t ∷ ts)) go
          → (if b then run (read rule n) (behind (f t) k) ts else run (read rule n) (behind d k) (t ∷ ts))
          ≡ and_then (if b then run (read rule n) (f t) ts else run (read rule n) d (t ∷ ts)) go
      by true one two = one
      by false one two = two
  behind_is (call y g) ts = by (read rule n y ts) (λ v rest. behind_is (g v) rest)
    where
      by : (q : RuleResult (Value y)) → ((v : Value y) (rest : List Token) → run (read rule n) (behind (g v) k) rest ≡ and_then (run (read rule n) (g v) rest) go)
          → and_then q (λ v rest. run (read rule n) (behind (g v) k) rest) ≡ and_then (and_then q (λ v rest. run (read rule n) (g v) rest)) go
      by (Took v rest) same = same v rest
      by (Refused rest) same = refl
      by Spent same = refl

module _ {A B : Type 0} (r : R A) (k : A → R B) {ts : List Token} where
  both : {v : A} {mid : List Token} (o : RuleResult B) (n : ℕ) → run (read rule n) r ts ≡ Took v mid → run (read rule n) (k v) mid ≡ o → RunsTo rule (behind r k) ts o
  both o n first second = record { depth = n; is = behind_is n k r ts ∙ rw first second }

  -- the first succeeds
  pub part_read : {v : A} {mid : List Token} {o : RuleResult B} → RunsTo rule r ts (Took v mid) → RunsTo rule (k v) mid o → RunsTo rule (behind r k) ts o
  part_read {v} {mid} {o = Took x rest} first second =
      let n = first.depth + second.depth in
      both (Took x rest) n (run_more rule first.depth n r ts (Took v mid) (omega arith) first.is tt) (run_more rule second.depth n (k v) mid (Took x rest) (omega arith) second.is tt)
  part_read {v} {mid} {o = Refused rest} first second =
      let n = first.depth + second.depth in
      both (Refused rest) n (run_more rule first.depth n r ts (Took v mid) (omega arith) first.is tt) (run_more rule second.depth n (k v) mid (Refused rest) (omega arith) second.is tt)
  part_read {v} {mid} {o = Spent} first second = by (run (read rule second.depth) r ts) refl
    where
      m : ℕ
      m = first.depth + second.depth

      at_both : run (read rule m) r ts ≡ Took v mid
      at_both = run_more rule first.depth m r ts (Took v mid) (omega arith) first.is tt

      by : (q : RuleResult A) → run (read rule second.depth) r ts ≡ q → RunsTo rule (behind r k) ts Spent
      by (Took x rest) e = both Spent second.depth (e ∙ sym (run_more rule second.depth m r ts (Took x rest) (omega arith) e tt) ∙ at_both) second.is
      by (Refused rest) e = both Spent second.depth (e ∙ sym (run_more rule second.depth m r ts (Refused rest) (omega arith) e tt) ∙ at_both) second.is
      by Spent e = record { depth = second.depth; is = behind_is second.depth k r ts ∙ rw e refl }

-- or it stops
pub part_fails : {A B : Type 0} (r : R A) (k : A → R B) (ts : List Token) (e : Stop) → Comes r ts (Err e) → Comes (behind r k) ts (Err e)
part_fails r k ts (S.At rest) c = record { depth = c.depth; is = behind_is c.depth k r ts ∙ rw c.is refl }
part_fails r k ts S.Memory c = tt

-- ---- lengths

-- fewer tokens are left where something is taken
abbrev Less : {A : Type 0} → RuleResult A → ℕ → Type 0
Less (Took x rest) n = length rest < n
Less (Refused rest) n = Unit {0}
Less Spent n = Unit {0}

less_from : {A : Type 0} {m n : ℕ} (o : RuleResult A) → length (rest_of o) ≤ m → m < n → Less o n
less_from (Took x rest) le lt = omega arith
less_from (Refused rest) le lt = tt
less_from Spent le lt = tt

-- whatever a rule takes, it takes a token or more
record Eager {A : Type 0} (n : ℕ) (r : R A) : Type 0 where
  less : (ts : List Token) → Less (run (read rule n) r ts) (length ts)

module _ {A : Type 0} {n : ℕ} where
  eager_stop : Eager {A = A} n stop
  eager_stop = record { less = λ ts. tt }

  -- after a test that passes, it has taken one
  eager_look : {p : Token → Bool} {f : Token → R A} {d : R A} → Eager n d → Eager n (look p f d)
  eager_look {p} {f} {d} h = record { less = by }
    where
      by_test : (t : Token) (ts : List Token) (b : Bool) → length (rest_of (run (read rule n) (f t) ts)) ≤ length ts → Less (run (read rule n) d (t ∷ ts)) (length (t ∷ ts))
          → Less (if b then run (read rule n) (f t) ts else run (read rule n) d (t ∷ ts)) (length (t ∷ ts))
      by_test t ts true le other = less_from (run (read rule n) (f t) ts) le (omega arith)
      by_test t ts false le other = other

      by : (ts : List Token) → Less (run (read rule n) (look p f d) ts) (length ts)
      by [] = h.less []
      by (t ∷ ts) = by_test t ts (p t) (run_shrinks rule n (f t) ts) (h.less (t ∷ ts))

  -- and after a line that takes one
  eager_call : {y : Line} {k : Value y → R A} → ((ts : List Token) → Less (read rule n y ts) (length ts)) → Eager n (call y k)
  eager_call {y} {k} h = record { less = λ ts. by ts (read rule n y ts) (h ts) }
    where
      by : (ts : List Token) (q : RuleResult (Value y)) → Less q (length ts) → Less (and_then q (λ v rest. run (read rule n) (k v) rest)) (length ts)
      by ts (Took v mid) lt = less_from (run (read rule n) (k v) mid) (run_shrinks rule n (k v) mid) lt
      by ts (Refused rest) lt = tt
      by ts Spent lt = tt

line_less : (x : Line) → ((m : ℕ) → Eager m (rule x)) → (n : ℕ) (ts : List Token) → Less (read rule n x ts) (length ts)
unfolding read
line_less x eager zero ts = tt
line_less x eager (suc n) ts = (eager n).less ts

-- so a type takes a token or more, and a statement
type_eager : (n : ℕ) → Eager n (rule TypeExpression)
unfolding rule
type_eager n = eager_look (eager_look (eager_look (eager_look eager_stop)))

other_eager : (n : ℕ) → Eager n (rule Other)
unfolding rule
other_eager n =
    eager_look (eager_look (eager_look (eager_look (eager_look (eager_look (eager_look (eager_look (eager_look (eager_call (line_less TypeExpression type_eager n))))))))))

statement_eager : (n : ℕ) → Eager n (rule Statement)
unfolding rule
statement_eager n = eager_look (eager_call (line_less Other other_eager n))

pub statement_shrinks : {s : Stmt × Bool} {ts rest : List Token} → Reads rule Statement ts (Took s rest) → length rest < length ts
statement_shrinks {ts = ts} h = subst (λ o. Less o (length ts)) h.is (line_less Statement statement_eager h.depth ts)

-- ---- after the arms of an `if`

module _ (at : ℕ) (arms : List (Expr × Stmt)) {ts : List Token} where
  -- no `else`
  pub arms_none : (closed : Bool) {o : RuleResult (Stmt × Bool)} → (closed ≡ true → begins_with (is_word K.Else) ts ≡ false) → RunsTo rule (done (placed at (Z.If arms None), false)) ts o
      → RunsTo rule (lines.arms_end at arms closed) ts o
  arms_none true h r = runs_skip ts (h refl) r
  arms_none false h r = r

  -- an `else`
  pub arms_else : (closed : Bool) {rest : List Token} {o : RuleResult (Stmt × Bool)} → (closed ≡ true) × ((t : Token) × Taken (is_word K.Else) ts t rest)
      → RunsTo rule (look (is_word K.If) (λ _. call (Arms at arms) done) (lines.last_branch_rule at arms)) rest o → RunsTo rule (lines.arms_end at arms closed) ts o
  arms_else true {rest} h r = runs_take ts h.1.0 rest h.1.1.here h.1.1.passes r
  arms_else false h r = let e = h.0 in absurd (cc)

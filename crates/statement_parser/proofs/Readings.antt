-- How the answers of calls are composed, as the rules of their lines are. Where a call succeeds, a rule is followed one
-- step further (`taken` to `read_expression`); where one returns an error, it is where the rule stops (`fails`).
use Rattle.std.proofs.Common.{◌≡◌, Bool, false, List, Ok, Err, sym, subst}
use Rattle.std.specs.Prelude.{IsErrAnd}
use Rattle.std.specs.Borrow.{Bor}
use Rattle.spl_tree.specs.declared.keyword.Keyword.{Keyword}
use Rattle.spl_tree.specs.declared.symbol.Symbol.{Symbol}
use Rattle.spl_tree.specs.declared.token.Token.{Token}
use Rattle.expr_parser.specs.declared.stop.Stop.{Stop}
use Rattle.expr_parser.specs.declared.stop.Stop.TheVariants as S
use Rattle.expr_parser.proofs.Derive.{exit}
use Rattle.expr_parser.specs.Gives.{Answers, Passes, PassesName}
use Rattle.expr_parser.specs.Lines as expressions
use Rattle.expr_parser.specs.Lines.{is, is_name}
use Rattle.expr_parser.specs.Rules.{done, stop, look, call, RuleResult, Took, Refused, RunsTo, Reads}
use Rattle.expr_parser.proofs.RuleLaws.{line, runs_done, runs_stop, runs_take, runs_skip, runs_call, runs_fail}
use Rattle.expr_parser.specs.Taken.{begins_with, Taken, TakenAs}
use Rattle.statement_parser.proofs.CompleteParts.{embedded}
use Rattle.statement_parser.specs.Gives.{Answered, Says, Comes, Gives, PassesWord, PassesDollar}
use Rattle.statement_parser.specs.Lines.{Line, Value, Expression, Name, rule, R, expect, expect_word, expect_name, is_word, is_dollar, dollar_at, name_at}

-- ---- a step further

-- the end of a rule
pub finished : {A : Type 0} {v : A} {ts : List Token} → RunsTo rule (done v) ts (Took v ts)
finished = runs_done

-- a line
pub reads : {x : Line} {ts : List Token} {o : RuleResult (Value x)} → RunsTo rule (rule x) ts o → Reads rule x ts o
reads r = line r

module _ {A : Type 0} {ts : List Token} {o : RuleResult A} where
  module _ {p : Token → Bool} {f : Token → R A} {d : R A} where
    -- the first token passes a test
    pub taken : {t : Token} {rest : List Token} → Taken p ts t rest → RunsTo rule (f t) rest o → RunsTo rule (look p f d) ts o
    taken {t} {rest} h r = runs_take ts t rest h.here h.passes r

    -- it doesn't
    pub skipped : begins_with p ts ≡ false → RunsTo rule d ts o → RunsTo rule (look p f d) ts o
    skipped h r = runs_skip ts h r

  -- a symbol comes
  pub passed : (s : Symbol) {r : R A} {rest : List Token} → ((t : Token) × Taken (is s) ts t rest) → RunsTo rule r rest o → RunsTo rule (look (is s) (λ _. r) stop) ts o
  passed s {rest = rest} p r = runs_take ts p.0 rest p.1.here p.1.passes r

  -- a reserved word comes
  pub word_passed : (k : Keyword) {r : R A} {rest : List Token} → ((t : Token) × Taken (is_word k) ts t rest) → RunsTo rule r rest o → RunsTo rule (look (is_word k) (λ _. r) stop) ts o
  word_passed k {rest = rest} p r = runs_take ts p.0 rest p.1.here p.1.passes r

  -- a name comes
  pub name_passed : (r : Name → R A) {name : Name} {rest : List Token} → TakenAs is_name name_at ts name rest → RunsTo rule (r name) rest o → RunsTo rule (expect_name r) ts o
  name_passed r {name} {rest} p q = runs_take ts p.token rest p.taken.here p.taken.passes (subst (λ n. RunsTo rule (r n) rest o) p.is q)

  -- a name with `$` before it comes
  pub dollar_passed : (r : Name → R A) {name : Name} {rest : List Token} → TakenAs is_dollar dollar_at ts name rest → RunsTo rule (r name) rest o
      → RunsTo rule (look is_dollar (λ t. r (dollar_at t)) stop) ts o
  dollar_passed r {name} {rest} p q = runs_take ts p.token rest p.taken.here p.taken.passes (subst (λ n. RunsTo rule (r n) rest o) p.is q)

  -- the first token makes something of itself
  pub taken_as : {X : Type 0} (p : Token → Bool) (made : Token → X) (f : X → R A) {d : R A} {x : X} {rest : List Token} → TakenAs p made ts x rest → RunsTo rule (f x) rest o
      → RunsTo rule (look p (λ t. f (made t)) d) ts o
  taken_as p made f {x = x} {rest = rest} h q = runs_take ts h.token rest h.taken.here h.taken.passes (subst (λ y. RunsTo rule (f y) rest o) h.is q)

  -- a line is read
  pub line_read : {y : Line} {k : Value y → R A} {v : Value y} {mid : List Token} → Reads rule y ts (Took v mid) → RunsTo rule (k v) mid o → RunsTo rule (call y k) ts o
  line_read first behind = runs_call first behind

  -- a line of expressions is read
  pub expression_read : {x : expressions.Line} {k : expressions.Value x → R A} {v : expressions.Value x} {mid : List Token}
      → Reads expressions.rule x ts (Took v mid) → RunsTo rule (k v) mid o → RunsTo rule (call (Expression x) k) ts o
  expression_read first behind = runs_call (embedded first) behind

-- ---- what is answered

-- what is said of an answer, where one thing follows from another
pub says_on : {A : Type 0} {P Q : RuleResult A → Type 0} → ((o : RuleResult A) → P o → Q o) → (res : Answered A) → Says P res → Says Q res
says_on on (Ok found) said = on (Took found.0 found.1.now) said
says_on on (Err (S.At rest)) said = on (Refused rest.now) said
says_on on (Err S.Memory) said = tt

-- a line whose rule goes on with the rule r at mid, which stops
pub fails : (x : Line) (ts mid : List Token) (r : R (Value x)) (res : Answered (Value x)) (e : Stop) → IsErrAnd res (λ y. y ≡ e)
    → ((o : RuleResult (Value x)) → RunsTo rule r mid o → Reads rule x ts o) → Comes r mid (Err e) → Gives x ts res
fails x ts mid r res e h on c = exit (Gives x ts) res e h (says_on {P = RunsTo rule r mid} {Q = Reads rule x ts} on (Err e) c)

-- the same of a rule
pub rule_fails : {A : Type 0} (q r : R A) (ts mid : List Token) (res : Answered A) (e : Stop) → IsErrAnd res (λ y. y ≡ e)
    → ((o : RuleResult A) → RunsTo rule r mid o → RunsTo rule q ts o) → Comes r mid (Err e) → Comes q ts res
rule_fails {A} q r ts mid res e h on c = exit (Comes q ts) res e h (says_on {P = RunsTo rule r mid} {Q = RunsTo rule q ts} on (Err e) c)

-- a rule that goes on with the rule r at mid has the result that is answered for r
pub rule_on : {A : Type 0} (q r : R A) (ts mid : List Token) (res : Answered A) → ((o : RuleResult A) → RunsTo rule r mid o → RunsTo rule q ts o) → Comes r mid res
    → Comes q ts res
rule_on q r ts mid res on c = says_on {P = RunsTo rule r mid} {Q = RunsTo rule q ts} on res c

-- ---- where a rule stops

-- a test that fails and no other way
test_fails : {A : Type 0} {ts : List Token} (p : Token → Bool) (f : Token → R A) (rest : Bor (List Token)) → begins_with p ts ≡ false → rest.now ≡ ts
    → Comes (look p f stop) ts (Err (S.At rest))
test_fails {A} {ts} p f rest h e = subst (λ q. RunsTo rule (look p f stop) ts (Refused q)) (sym e) (runs_skip ts h runs_stop)

module _ {A : Type 0} (ts : List Token) where
  pub pass_fails : (s : Symbol) (r : R A) (e : Stop) → Passes s ts (Err e) → Comes (expect s r) ts (Err e)
  pass_fails s r (S.At rest) p = test_fails (is s) (λ _. r) rest p.0 p.1
  pass_fails s r S.Memory p = absurd p

  pub word_fails : (k : Keyword) (r : R A) (e : Stop) → PassesWord k ts (Err e) → Comes (expect_word k r) ts (Err e)
  word_fails k r (S.At rest) p = test_fails (is_word k) (λ _. r) rest p.0 p.1
  word_fails k r S.Memory p = absurd p

  pub name_fails : (r : Name → R A) (e : Stop) → PassesName ts (Err e) → Comes (expect_name r) ts (Err e)
  name_fails r (S.At rest) p = test_fails is_name (λ t. r (name_at t)) rest p.0 p.1
  name_fails r S.Memory p = tt

  pub dollar_fails : (r : Name → R A) (e : Stop) → PassesDollar ts (Err e) → Comes (look is_dollar (λ t. r (dollar_at t)) stop) ts (Err e)
  dollar_fails r (S.At rest) p = test_fails is_dollar (λ t. r (dollar_at t)) rest p.0 p.1
  dollar_fails r S.Memory p = tt

  pub line_fails : (y : Line) (k : Value y → R A) (e : Stop) → Gives y ts (Err e) → Comes (call y k) ts (Err e)
  line_fails y k (S.At rest) g = runs_fail g
  line_fails y k S.Memory g = tt

  pub expression_fails : (x : expressions.Line) (k : expressions.Value x → R A) (e : Stop) → Answers x ts (Err e) → Comes (call (Expression x) k) ts (Err e)
  expression_fails x k (S.At rest) g = runs_fail (embedded g)
  expression_fails x k S.Memory g = tt

-- what a name that has to come answers, as a rule by itself
pub name_comes : (ts : List Token) (res : Answered Name) → PassesName ts res → Comes (expect_name done) ts res
name_comes ts (Ok found) p = name_passed done p finished
name_comes ts (Err e) p = name_fails ts done e p

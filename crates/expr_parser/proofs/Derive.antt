-- How the answers of calls go together, as the rules of their lines do.
use Rattle.std.proofs.Common.{◌≡◌, ◌∙◌, Bool, false, List, Result, Ok, Err, sym, ap, subst}
use Rattle.std.specs.Prelude.{IsErrAnd}
use Rattle.std.proofs.lemmas.Result.{err_from_is_err_and}
use Rattle.std.specs.Borrow.{Bor}
use Rattle.spl_tree.specs.declared.symbol.Symbol.{Symbol}
use Rattle.spl_tree.specs.declared.token.Token.{Token}
use Rattle.spl_tree.specs.Trees.{Expr}
use Rattle.expr_parser.specs.declared.stop.Stop.{Stop}
use Rattle.expr_parser.specs.declared.stop.Stop.TheVariants as S
use Rattle.expr_parser.specs.Rules.{done, stop, look, call, RuleResult, Took, Refused, RunsTo, Reads}
use Rattle.expr_parser.proofs.RuleLaws.{line, runs_done, runs_stop, runs_take, runs_skip, runs_call, runs_fail, runs_last}
use Rattle.expr_parser.specs.Taken.{begins_with, Taken}
use Rattle.expr_parser.specs.Lines.{Line, Value, rule, R, is, expect}
use Rattle.expr_parser.specs.Gives.{Answered, Says, Gives, Passes}
use Rattle.expr_parser.specs.steps.Parts.{Comes, Makes}

-- what is said of an error that `?` hands on
pub exit : {A E : Type 0} (P : Result A E → Type 0) (r : Result A E) (e : E) → IsErrAnd r (λ y. y ≡ e) → P (Err e) → P r
exit P r e h q = let p = err_from_is_err_and r h in subst P (sym (p.1 ∙ ap Err p.2)) q

-- what is said of an answer, where one thing follows from another
pub says_on : {A : Type 0} {P Q : RuleResult A → Type 0} → ((o : RuleResult A) → P o → Q o) → (res : Answered A) → Says P res → Says Q res
says_on on (Ok found) said = on (Took found.0 found.2.now) said
says_on on (Err (S.At rest)) said = on (Refused rest.now) said
says_on on (Err S.Memory) said = tt

pub gives_line : (x : Line) (ts : List Token) (res : Answered (Value x)) → Comes (rule x) ts res → Gives x ts res
gives_line x ts res c = says_on {P = RunsTo rule (rule x) ts} {Q = Reads rule x ts} (λ o r. line r) res c

module _ {A : Type 0} (ts : List Token) where
  pub comes_fail : (y : Line) (k : Value y → R A) (e : Stop) → Gives y ts (Err e) → Comes (call y k) ts (Err e)
  comes_fail y k (S.At rest) g = runs_fail g
  comes_fail y k S.Memory g = tt

  pub comes_call : (y : Line) (k : Value y → R A) (v : Value y) (mid : List Token) (res : Answered A) → Reads rule y ts (Took v mid) → Comes (k v) mid res → Comes (call y k) ts res
  comes_call y k v mid res g c = says_on {P = RunsTo rule (k v) mid} {Q = RunsTo rule (call y k) ts} (λ o r. runs_call g r) res c

  pub comes_take : (p : Token → Bool) (f : Token → R A) (d : R A) (t : Token) (rest : List Token) (res : Answered A) → Taken p ts t rest → Comes (f t) rest res → Comes (look p f d) ts res
  comes_take p f d t rest res h c = says_on {P = RunsTo rule (f t) rest} {Q = RunsTo rule (look p f d) ts} (λ o r. runs_take ts t rest h.here h.passes r) res c

  pub comes_skip : (p : Token → Bool) (f : Token → R A) (d : R A) (res : Answered A) → begins_with p ts ≡ false → Comes d ts res → Comes (look p f d) ts res
  comes_skip p f d res h c = says_on {P = RunsTo rule d ts} {Q = RunsTo rule (look p f d) ts} (λ o r. runs_skip ts h r) res c

  -- a test that fails and no other way
  pub comes_stop : (p : Token → Bool) (f : Token → R A) (rest : Bor (List Token)) → begins_with p ts ≡ false → rest.now ≡ ts → Comes (look p f stop) ts (Err (S.At rest))
  comes_stop p f rest h e = subst (λ r. RunsTo rule (look p f stop) ts (Refused r)) (sym e) (runs_skip ts h runs_stop)

  pub comes_pass_fail : (s : Symbol) (r : R A) (e : Stop) → Passes s ts (Err e) → Comes (expect s r) ts (Err e)
  comes_pass_fail s r (S.At rest) p = comes_stop (is s) (λ _. r) rest p.0 p.1
  comes_pass_fail s r S.Memory p = absurd p

  pub comes_pass : (s : Symbol) (r : R A) (rest : Bor (List Token)) (res : Answered A) → Passes s ts (Ok rest) → Comes r rest.now res → Comes (expect s r) ts res
  comes_pass s r rest res p c = comes_take (is s) (λ _. r) stop p.0 rest.now res p.1 c

pub comes_tail : (x : Line) (ts : List Token) (res : Answered (Value x)) → Gives x ts res → Comes (call x done) ts res
comes_tail x ts res g = says_on {P = Reads rule x ts} {Q = RunsTo rule (call x done) ts} (λ o r. runs_last r) res g

pub comes_made : (e : Expr) (ts : List Token) (res : Answered Expr) → Makes e ts res → Comes (done e) ts res
comes_made e ts (Ok found) m = subst (λ v. RunsTo rule (done e) ts (Took v found.2.now)) (sym m.0) (subst (λ r. RunsTo rule (done e) ts (Took e r)) (sym m.1) runs_done)
comes_made e ts (Err (S.At rest)) m = absurd m
comes_made e ts (Err S.Memory) m = tt

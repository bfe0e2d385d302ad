-- How a loop that reads a row ends.
use Rattle.std.proofs.Common.{◌≡◌, Bool, true, List, sym, subst}
use Rattle.std.specs.Prelude.{Option, Some, None, is_some, not, MatchOption}
use Rattle.spl_tree.specs.declared.token.Token.{Token}
use Rattle.expr_parser.specs.Rules.{done, Took, RunsTo}
use Rattle.statement_parser.specs.Lines.{rule}
use Rattle.statement_parser.proofs.Readings.{finished}

-- the end of a rule, where what is answered is the same
pub made : {A : Type 0} {v w : A} {ts : List Token} → w ≡ v → RunsTo rule (done v) ts (Took w ts)
made {v = v} {ts = ts} e = subst (λ x. RunsTo rule (done v) ts (Took x ts)) (sym e) finished

-- nothing is found
pub none_says : {A : Type 0} (P : Type 0) (Q : A → Type 0) (found : Option A) {b : Bool} → is_some found ≡ not b → b ≡ true → MatchOption found P Q → P
none_says P Q None e h m = m
none_says P Q (Some x) e h m = absurd (cc)

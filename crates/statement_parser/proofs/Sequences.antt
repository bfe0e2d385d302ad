-- Values that are pushed onto those before them.
use Rattle.std.proofs.Common.{◌≡◌, List, [], ◌∷◌, ◌++◌, Ok, Err, sym, subst}
use Rattle.std.specs.Borrow.{Bor}
use Rattle.spl_tree.specs.declared.token.Token.{Token}
use Rattle.expr_parser.specs.declared.stop.Stop.{Stop}
use Rattle.expr_parser.specs.declared.stop.Stop.TheVariants as S
use Rattle.expr_parser.specs.Rules.{RuleResult, Took}
use Rattle.statement_parser.specs.Gives.{Answered, Says, Pushed}

-- a value of which this is said is the last one
pub record PushedAs {A : Type 0} (P : RuleResult A → Type 0) (xs ys : List A) (rest : List Token) : Type 0 where
  pub one : A
  pub said : P (Took one rest)
  pub is : ys ≡ xs ++ one ∷ []

module _ {A : Type 0} (P : RuleResult A → Type 0) (xs ys : List A) where
  pub pushed : (taken : Answered A) (rest : Bor (List Token)) → Says P taken → Pushed xs taken (Ok rest) ys → PushedAs P xs ys rest.now
  pushed (Ok found) rest s p = record { one = found.0; said = subst (λ r. P (Took found.0 r)) (sym p.1) s; is = p.0 }
  pushed (Err e) rest s p = absurd p

  -- or reading stops, as it did for the value
  pub pushed_fails : (taken : Answered A) (e : Stop) → Says P taken → Pushed xs taken (Err e) ys → Says {A = A} P (Err e)
  pushed_fails (Ok found) (S.At rest) s p = absurd p
  pushed_fails (Ok found) S.Memory s p = tt
  pushed_fails (Err stop) e s p = subst (λ x. Says P (Err x)) (sym p) s

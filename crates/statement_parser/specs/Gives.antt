-- What a call that reads answers, against the results of the lines and their rules.
use Rattle.std.specs.Prelude.{◌≡◌, ℕ, false, List, [], ◌∷◌, ◌++◌, Result, Ok, Err}
use Rattle.std.specs.Borrow.{Bor}
use Rattle.spl_tree.specs.declared.expression.Placed.{Placed}
use Rattle.spl_tree.specs.declared.keyword.Keyword.{Keyword}
use Rattle.spl_tree.specs.declared.token.Token.{Token}
use Rattle.expr_parser.specs.declared.stop.Stop.{Stop}
use Rattle.expr_parser.specs.declared.stop.Stop.TheVariants as S
use Rattle.expr_parser.specs.Taken.{begins_with, Taken, TakenAs}
use Rattle.expr_parser.specs.Rules.{RuleResult, Took, Refused, RunsTo, Reads}
use Rattle.statement_parser.specs.Lines.{Line, Value, rule, R, is_word, is_dollar, dollar_at}

-- a value and the tokens after it, or where reading stops
abbrev pub Answered : Type 0 → Type 0
Answered A = Result (A × Bor (List Token)) Stop

-- this holds of what is answered; nothing is said where memory ran out
abbrev pub Says : {A : Type 0} → (RuleResult A → Type 0) → Answered A → Type 0
Says P (Ok found) = P (Took found.0 found.1.now)
Says P (Err (S.At rest)) = P (Refused rest.now)
Says P (Err S.Memory) = Unit {0}

-- what is answered is the result of the rule
abbrev pub Comes : {A : Type 0} → R A → List Token → Answered A → Type 0
Comes r ts res = Says (RunsTo rule r ts) res

-- what is answered is the result of the line
abbrev pub Gives : (x : Line) → List Token → Answered (Value x) → Type 0
Gives x ts res = Says (Reads rule x ts) res

-- the reserved word comes first, with these tokens after it; or else reading stops where the tokens begin
abbrev pub PassesWord : Keyword → List Token → Result (Bor (List Token)) Stop → Type 0
PassesWord k ts (Ok rest) = (t : Token) × Taken (is_word k) ts t rest.now
PassesWord k ts (Err (S.At rest)) = (begins_with (is_word k) ts ≡ false) × (rest.now ≡ ts)
PassesWord k ts (Err S.Memory) = ⊥

-- a name with `$` before it comes first, with these tokens after it; or else reading stops where the tokens begin
abbrev pub PassesDollar : List Token → Result (Placed (List ℕ) × Bor (List Token)) Stop → Type 0
PassesDollar ts (Ok found) = TakenAs is_dollar dollar_at ts found.0 found.1.now
PassesDollar ts (Err (S.At rest)) = (begins_with is_dollar ts ≡ false) × (rest.now ≡ ts)
PassesDollar ts (Err S.Memory) = Unit {0}

-- the value that is answered is pushed onto those before it, with these tokens after it; or reading stops as it did for
-- the value
abbrev pub Pushed : {A : Type 0} → List A → Answered A → Result (Bor (List Token)) Stop → List A → Type 0
Pushed xs (Ok one) (Ok rest) ys = (ys ≡ xs ++ one.0 ∷ []) × (rest.now ≡ one.1.now)
Pushed xs (Ok one) (Err (S.At rest)) ys = ⊥
Pushed xs (Ok one) (Err S.Memory) ys = Unit {0}
Pushed xs (Err e) (Ok rest) ys = ⊥
Pushed xs (Err e) (Err stop) ys = stop ≡ e

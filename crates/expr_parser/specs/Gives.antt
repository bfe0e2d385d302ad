-- What a call that reads answers, against what the lines and their rules give.
use Rattle.std.specs.Prelude.{◌≡◌, ℕ, false, List, Result, Ok, Err}
use Rattle.std.specs.Borrow.{Bor}
use Rattle.spl_tree.specs.declared.token.Token.{Token}
use Rattle.expr_parser.specs.declared.stop.Stop.{Stop}
use Rattle.expr_parser.specs.declared.stop.Stop.TheVariants as S
use Rattle.expr_parser.specs.Rules.{RuleResult, Took, Refused, Reads}
use Rattle.spl_tree.specs.declared.symbol.Symbol.{Symbol}
use Rattle.spl_tree.specs.declared.expression.Placed.{Placed}
use Rattle.spl_tree.specs.spellings.Phrases.{Phrase}
use Rattle.spl_tree.specs.Trees.{placed}
use Rattle.spl_tree.specs.Fronts.{IsPhrase, IsUnexpected}
use Rattle.expr_parser.specs.Taken.{begins_with, Taken, TakenAs}
use Rattle.expr_parser.specs.Parts.{Takes, Begins}
use Rattle.expr_parser.specs.Lines.{Line, Value, rule, is, is_name, name_of}

-- a value, a height of which nothing is said, and the tokens after it
abbrev pub Answered : Type 0 → Type 0
Answered A = Result (A × ℕ × Bor (List Token)) Stop

-- this holds of what is answered; nothing is said where memory was lacking
abbrev pub Says : {A : Type 0} → (RuleResult A → Type 0) → Answered A → Type 0
Says P (Ok found) = P (Took found.0 found.2.now)
Says P (Err (S.At rest)) = P (Refused rest.now)
Says P (Err S.Memory) = Unit {0}

-- the line gives it
abbrev pub Gives : (x : Line) → List Token → Answered (Value x) → Type 0
Gives x ts res = Says (Reads rule x ts) res

-- the same of a call that answers no height
abbrev pub Answers : (x : Line) → List Token → Result (Value x × Bor (List Token)) Stop → Type 0
Answers x ts (Ok found) = Reads rule x ts (Took found.0 found.1.now)
Answers x ts (Err e) = Gives x ts (Err e)

-- the longest front of the tokens that starts a phrase is the phrase that is answered, or is none
abbrev pub Begun : {A : Type 0} → Phrase A → List Token → Result (A × Bor (List Token)) Stop → Type 0
Begun P ts (Ok found) = IsPhrase P ts found.0 found.1.now
Begun P ts (Err (S.At rest)) = IsUnexpected P ts rest.now
Begun P ts (Err S.Memory) = Unit {0}

-- the tokens in front of the rest spell the phrase that is answered; where they are refused at the rest, they start one
abbrev pub Spelled : {A : Type 0} → Phrase A → List Token → Result (A × Bor (List Token)) Stop → Type 0
Spelled P ts (Ok found) = Takes P ts found.0 found.1.now
Spelled P ts (Err (S.At rest)) = Begins P ts rest.now
Spelled P ts (Err S.Memory) = Unit {0}

-- the symbol comes first, with these tokens after it, or else it is refused where they begin
abbrev pub Passes : Symbol → List Token → Result (Bor (List Token)) Stop → Type 0
Passes s ts (Ok rest) = (t : Token) × Taken (is s) ts t rest.now
Passes s ts (Err (S.At rest)) = (begins_with (is s) ts ≡ false) × (rest.now ≡ ts)
Passes s ts (Err S.Memory) = ⊥

-- a name comes first, with these tokens after it, or else it is refused where they begin
abbrev pub PassesName : List Token → Result (Placed (List ℕ) × Bor (List Token)) Stop → Type 0
PassesName ts (Ok found) = TakenAs is_name (λ t. placed t.start (name_of t)) ts found.0 found.1.now
PassesName ts (Err (S.At rest)) = (begins_with is_name ts ≡ false) × (rest.now ≡ ts)
PassesName ts (Err S.Memory) = Unit {0}

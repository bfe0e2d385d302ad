-- What calls answer that read parts of a line.
use Rattle.std.specs.Prelude.{◌≡◌, ◌<◌, length, ℕ, false, List, [], ◌∷◌, ◌++◌, Option, Some, None, Result, Ok, Err}
use Rattle.std.specs.Borrow.{Bor}
use Rattle.spl_tree.specs.declared.token.Token.{Token}
use Rattle.expr_parser.specs.declared.stop.Stop.{Stop}
use Rattle.expr_parser.specs.declared.stop.Stop.TheVariants as S
use Rattle.expr_parser.specs.Rules.{call, RuleResult, Refused, RunsTo, Reads}
use Rattle.spl_tree.specs.declared.expression.Step.{Step}
use Rattle.spl_tree.specs.declared.symbol.Symbol.TheVariants as K
use Rattle.spl_tree.specs.Trees.{Expr, Prefix}
use Rattle.expr_parser.specs.Taken.{begins_with}
use Rattle.expr_parser.specs.Lines.{Prefixed, Primary, Group, Steps, rule, R, is, operand_rule}
use Rattle.expr_parser.specs.Gives.{Answered, Says}

-- the rule gives what is answered
abbrev pub Comes : {A : Type 0} → R A → List Token → Answered A → Type 0
Comes r ts res = Says (RunsTo rule r ts) res

-- that tree is made, and the tokens stay
abbrev pub Makes : Expr → List Token → Answered Expr → Type 0
Makes e ts (Ok found) = (found.0 ≡ e) × (found.2.now ≡ ts)
Makes e ts (Err (S.At rest)) = ⊥
Makes e ts (Err S.Memory) = Unit {0}

-- what comes after prefix operators and casts: an expression in parentheses at a place, or another
-- primary expression
abbrev pub front_rule : Option ℕ → List Prefix → R Expr
front_rule None ps = call Primary (operand_rule ps)
front_rule (Some at) ps = call (Group at) (operand_rule ps)

-- the operand gives what the rule after these prefixes gives
abbrev pub Fronts : List Token → Result (List Prefix × Option ℕ × Bor (List Token)) Stop → Type 0
Fronts ts (Ok found) = (o : RuleResult Expr) → RunsTo rule (front_rule found.1 found.0) found.2.now o → Reads rule (Prefixed []) ts o
Fronts ts (Err (S.At rest)) = Reads rule (Prefixed []) ts (Refused rest.now)
Fronts ts (Err S.Memory) = Unit {0}

abbrev pub StepFound : List Token → Option (Step Expr) → List Token → Type 0
StepFound ts None rest = (begins_with (is K.Dot) ts ≡ false) × (begins_with (is K.LeftBracket) ts ≡ false) × (rest ≡ ts)
StepFound ts (Some s) rest =
    (length rest < length ts) × ((e : Expr) (ss : List (Step Expr)) (o : RuleResult Expr) → Reads rule (Steps e (ss ++ s ∷ [])) rest o → Reads rule (Steps e ss) ts o)

-- one more step, whatever it is taken of, or none
abbrev pub StepsOn : List Token → Answered (Option (Step Expr)) → Type 0
StepsOn ts (Ok found) = StepFound ts found.0 found.2.now
StepsOn ts (Err (S.At rest)) = (e : Expr) (ss : List (Step Expr)) → Reads rule (Steps e ss) ts (Refused rest.now)
StepsOn ts (Err S.Memory) = Unit {0}

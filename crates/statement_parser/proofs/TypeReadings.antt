-- Readings of types with names, and lines that go on as other lines.
use Rattle.std.proofs.Common.{List, [], ◌∷◌, ◌++◌}
use Rattle.spl_tree.specs.declared.shape.Attribute.{Attribute}
use Rattle.spl_tree.specs.declared.symbol.Symbol.{Symbol}
use Rattle.spl_tree.specs.declared.symbol.Symbol.TheVariants as S
use Rattle.spl_tree.specs.declared.token.Token.{Token}
use Rattle.spl_tree.specs.Trees.{TypeExpr}
use Rattle.expr_parser.specs.Lines.{is}
use Rattle.expr_parser.specs.Rules.{done, call, RuleResult, Took, RunsTo, Reads}
use Rattle.expr_parser.specs.Taken.{Taken}
use Rattle.statement_parser.proofs.Readings.{reads, taken, says_on}
use Rattle.statement_parser.proofs.StatementReadings.{part_read}
use Rattle.statement_parser.specs.Gives.{Answered, Comes, Gives}
use Rattle.statement_parser.specs.Lines.{Line, Value, Name, Attributes, MoreAttributes, rule, R}
use Rattle.statement_parser.specs.steps.Parts.{attribute_rule}
use Rattle.expr_parser.proofs.RuleLaws.{runs_last}

-- a line whose rule goes on with the rule r at mid gives the result of r there
pub goes : (x : Line) (ts mid : List Token) (r : R (Value x)) (res : Answered (Value x)) → ((o : RuleResult (Value x)) → RunsTo rule r mid o → Reads rule x ts o)
    → Comes r mid res → Gives x ts res
goes x ts mid r res on c = says_on {P = RunsTo rule r mid} {Q = Reads rule x ts} on res c

-- a rule that is a line alone has the result that the line gives
pub tail : (y : Line) (ts : List Token) (res : Answered (Value y)) → Gives y ts res → Comes (call y done) ts res
tail y ts res g = says_on {P = Reads rule y ts} {Q = RunsTo rule (call y done) ts} (λ o q. runs_last q) res g

-- a type and its name
abbrev pub attribute : TypeExpr → Name → Attribute TypeExpr
attribute k n = record { kind = k; name = n }

-- a comma comes, and then more of them
pub more_read : (close : Symbol) (xs : List (Attribute TypeExpr)) {ts mid : List Token} {t : Token} {o : RuleResult (List (Attribute TypeExpr))} → Taken (is S.Comma) ts t mid
    → Reads rule (Attributes close xs) mid o → Reads rule (MoreAttributes close xs) ts o
unfolding rule
more_read close xs comma r = reads (taken comma (runs_last r))

-- what follows one more of them
abbrev pub one_more : Symbol → List (Attribute TypeExpr) → Attribute TypeExpr → R (List (Attribute TypeExpr))
one_more close xs x = call (MoreAttributes close (xs ++ x ∷ [])) done

-- one more of them is read
pub attribute_read : (close : Symbol) (xs : List (Attribute TypeExpr)) {ts mid : List Token} {o : RuleResult (List (Attribute TypeExpr))} {x : Attribute TypeExpr}
    → RunsTo rule attribute_rule ts (Took x mid) → Reads rule (MoreAttributes close (xs ++ x ∷ [])) mid o → Reads rule (Attributes close xs) ts o
unfolding rule
attribute_read close xs first r = reads (part_read attribute_rule (one_more close xs) first (runs_last r))

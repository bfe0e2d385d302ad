-- What the reader of statements answers, against the rules.
use Rattle.std.specs.Prelude.{◌≡◌, ℕ, Bool, true, false, List, [], Option, Some, None}
use Rattle.std.specs.Borrow.{Bor}
use Rattle.spl_tree.specs.declared.expression.ExprKind.TheVariants as X
use Rattle.spl_tree.specs.declared.keyword.Keyword.TheVariants as K
use Rattle.spl_tree.specs.declared.shape.Attribute.{Attribute}
use Rattle.spl_tree.specs.declared.shape.TypeKind.TheVariants as Y
use Rattle.spl_tree.specs.declared.statement.StmtKind.{StmtKind}
use Rattle.spl_tree.specs.declared.statement.StmtKind.TheVariants as Z
use Rattle.spl_tree.specs.declared.symbol.Symbol.TheVariants as S
use Rattle.spl_tree.specs.declared.token.Token.{Token}
use Rattle.spl_tree.specs.Trees.{Expr, placed, Stmt, TypeExpr}
use Rattle.expr_parser.specs.Lines as expressions
use Rattle.expr_parser.specs.Lines.{is, is_name, name_of}
use Rattle.expr_parser.specs.Taken.{begins_with, Taken}
use Rattle.expr_parser.specs.Rules.{done, stop, look, call}
use Rattle.statement_parser.specs.Lines as lines
use Rattle.statement_parser.specs.Lines.{Name, R, Begun, Expression, Valued, expect, expect_word, expression, expression_before, is_word, is_assignment, assignment_at, condition_rule, for_head_rule}
use Rattle.statement_parser.specs.steps.Parts.{attribute_rule}

-- a condition in parentheses by itself
abbrev pub condition : R Expr
condition = condition_rule done

-- the variable of a `for` and what it goes over, by themselves
abbrev pub for_head : R (Attribute TypeExpr × Expr)
for_head = for_head_rule (λ v e. done (v, e))

-- the variable of a `for` with the opening parenthesis, and what it goes over with the closing one
abbrev pub for_variable : R (Attribute TypeExpr)
for_variable = expect S.LeftParen attribute_rule

abbrev pub gone_over : R Expr
gone_over = expect_word K.In (expression_before S.RightParen)

-- the `;` and the statement of that kind at a place
abbrev pub ended_rule : ℕ → StmtKind → R Stmt
ended_rule at s = expect S.Semicolon (done (placed at s))

-- a declaration, after the name of its type at a place and the name of the variable
abbrev pub variable_rule : ℕ → List ℕ → Name → R Stmt
variable_rule at n variable = call (Valued false (placed at (Y.Name n)) variable) (λ d. done (placed at (Z.Declare d)))

-- a statement that begins with a name, or else with a type
abbrev pub named_rule : R (Stmt × Bool)
named_rule = look is_name (λ t. call (Begun t.start (name_of t)) (λ s. done (s, true))) lines.variable_rule

-- a call, after its parenthesis, as a statement at a place
abbrev pub called_rule : ℕ → List ℕ → R Stmt
called_rule at n =
    call (Expression (expressions.Elements S.RightParen)) (λ es. expect S.Semicolon (done (placed at (Z.Call (placed at (X.Call n es))))))

-- an assignment, after the name of its place
abbrev pub assigned_rule : ℕ → List ℕ → R Stmt
assigned_rule at n =
    call (Expression (expressions.Steps (placed at (X.Name n)) [])) (λ p.
    look is_assignment (λ t. expression (λ e. expect S.Semicolon (done (placed at (Z.Assign p (assignment_at t) e))))) stop)

-- an `else` comes first, after a statement that is closed, with these tokens after it; or none does there
abbrev pub ElseBehind : Bool → List Token → Option (Bor (List Token)) → Type 0
ElseBehind closed ts (Some rest) = (closed ≡ true) × ((t : Token) × Taken (is_word K.Else) ts t rest.now)
ElseBehind closed ts None = closed ≡ true → begins_with (is_word K.Else) ts ≡ false

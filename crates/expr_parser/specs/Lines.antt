-- The lines by which expressions are read, and the rule of each.
use Rattle.std.specs.Prelude.{ℕ, zero, suc, ◌==◌, Bool, true, false, List, [], ◌∷◌, ◌++◌, Option, Some, None, is_some, unwrap_or}
use Rattle.spl_tree.specs.declared.symbol.Symbol.{Symbol}
use Rattle.spl_tree.specs.declared.symbol.Symbol.TheVariants as S
use Rattle.spl_tree.specs.declared.keyword.Keyword.{Keyword}
use Rattle.spl_tree.specs.declared.keyword.Keyword.TheVariants as K
use Rattle.spl_tree.specs.declared.token.Token.{Token}
use Rattle.spl_tree.specs.declared.token.TokenKind.{TokenKind}
use Rattle.spl_tree.specs.declared.token.TokenKind.TheVariants as T
use Rattle.spl_tree.specs.declared.expression.Placed.{Placed}
use Rattle.spl_tree.specs.declared.expression.ExprKind.{ExprKind}
use Rattle.spl_tree.specs.declared.expression.ExprKind.TheVariants as X
use Rattle.spl_tree.specs.declared.expression.Field.{Field}
use Rattle.spl_tree.specs.declared.expression.Step.{Step}
use Rattle.spl_tree.specs.declared.expression.Step.TheVariants as N
use Rattle.spl_tree.specs.declared.expression.PrefixOperator.TheVariants as P
use Rattle.spl_tree.specs.declared.expression.CastTarget.TheVariants as C
use Rattle.spl_tree.specs.declared.expression.BinaryOperator.{BinaryOperator}
use Rattle.spl_tree.specs.declared.expression.BinaryOperator.TheVariants as B
use Rattle.spl_tree.specs.Operators.{binary_of, level, prefix_of, target_of, is_symbol}
use Rattle.spl_tree.specs.Trees.{Expr, Prefix, placed}
use Rattle.expr_parser.specs.Rules.{Rule, done, stop, look, call}

pub data Line : Type 0 where
  -- an expression
  Whole : Line
  -- an expression, after its first operand
  Rest : Expr → Line
  -- operators up to a level, after the first operand
  Climb : ℕ → Expr → Line
  -- operators of the level one above, after their left side
  Chain : ℕ → Expr → Line
  -- an operand, after prefix operators and casts
  Prefixed : List Prefix → Line
  -- a primary expression, but for one in parentheses
  Primary : Line
  -- an expression in parentheses, after the opening one at a place
  Group : ℕ → Line
  -- a call, or the name alone, after the name at a place
  Named : ℕ → List ℕ → Line
  -- the arguments of a call or the elements of a list, or none, and the closing bracket
  Elements : Symbol → Line
  -- one more of them, after others
  Items : Symbol → List Expr → Line
  -- a map or a tuple, after the opening brace at a place
  Brace : ℕ → Line
  -- a map, after entries and a key
  Entries : ℕ → List (Expr × Expr) → Expr → Line
  -- a tuple, after fields and the name of one and `=`
  Fields : ℕ → List (Field Expr) → Placed (List ℕ) → Line
  -- what is taken of a primary expression, after members and indices
  Steps : Expr → List (Step Expr) → Line

abbrev pub Value : Line → Type 0
Value (Elements close) = List Expr
Value (Items close es) = List Expr
Value _ = Expr

-- Tests of a token

abbrev pub is : Symbol → Token → Bool
is s t = is_symbol s t.kind

abbrev pub name_kind : TokenKind → Option (List ℕ)
name_kind (T.Word n) = Some n
name_kind _ = None

abbrev pub is_name : Token → Bool
is_name t = is_some (name_kind t.kind)

abbrev pub name_of : Token → List ℕ
name_of t = unwrap_or (name_kind t.kind) []

-- the expression that a token is by itself. Where a test comes first, as that of is_literal before literal_of, the
-- value for a token that fails it is never used.
abbrev pub keyword_literal : Keyword → Option ExprKind
keyword_literal K.True = Some (X.Bool true)
keyword_literal K.False = Some (X.Bool false)
keyword_literal _ = None

abbrev pub literal_kind : TokenKind → Option ExprKind
literal_kind (T.Dollar n) = Some (X.Dollar n)
literal_kind (T.Number n) = Some (X.Number n)
literal_kind (T.Text bytes) = Some (X.Text bytes)
literal_kind (T.Keyword k) = keyword_literal k
literal_kind _ = None

abbrev pub is_literal : Token → Bool
is_literal t = is_some (literal_kind t.kind)

abbrev pub literal_of : Token → Expr
literal_of t = placed t.start (unwrap_or (literal_kind t.kind) (X.Bool false))

abbrev pub is_prefix : Token → Bool
is_prefix t = is_some (prefix_of t.kind)

abbrev pub prefix_token : Token → Prefix
prefix_token t = placed t.start (unwrap_or (prefix_of t.kind) P.Not)

abbrev pub is_target : Token → Bool
is_target t = is_some (target_of t.kind)

abbrev pub cast_token : ℕ → Token → Prefix
cast_token at t = placed at (P.Cast (unwrap_or (target_of t.kind) C.Text))

abbrev pub at_level : ℕ → Option BinaryOperator → Bool
at_level k None = false
at_level k (Some op) = level op == k

abbrev pub is_operator : ℕ → Token → Bool
is_operator k t = at_level k (binary_of t.kind)

abbrev pub operator_of : Token → BinaryOperator
operator_of t = unwrap_or (binary_of t.kind) B.Or

-- Trees

abbrev pub binary : BinaryOperator → Expr → Expr → Expr
binary op l r = placed l.at (X.Binary op l r)

abbrev pub conditional : Expr → Expr → Expr → Expr
conditional c x y = placed c.at (X.Conditional c x y)

abbrev pub prefixed : List Prefix → Expr → Expr
prefixed [] e = e
prefixed (p ∷ ps) e = placed p.at (X.Unary (p ∷ ps) e)

abbrev pub selected : Expr → List (Step Expr) → Expr
selected e [] = e
selected e (s ∷ ss) = placed e.at (X.Select e (s ∷ ss))

abbrev pub field : Placed (List ℕ) → Expr → Field Expr
field name e = record { name = name; value = e }

-- Rules

abbrev pub R : Type 0 → Type 0
R A = Rule Line Value A

-- that symbol has to come
abbrev pub expect : {A : Type 0} → Symbol → R A → R A
expect s r = look (is s) (λ _. r) stop

abbrev pub chain_rule : ℕ → Expr → R Expr
chain_rule k left =
    look (is_operator (suc k)) (λ t. call (Prefixed []) (λ u. call (Climb k u) (λ right. call (Chain k (binary (operator_of t) left right)) done))) (done left)

abbrev pub climb_rule : ℕ → Expr → R Expr
climb_rule zero u = done u
climb_rule (suc k) u = call (Climb k u) (λ left. call (Chain k left) done)

-- after prefixes and a primary expression
abbrev pub operand_rule : List Prefix → Expr → R Expr
operand_rule ps p = call (Steps p []) (λ u. done (prefixed ps u))

abbrev pub prefixed_rule : List Prefix → R Expr
prefixed_rule ps =
    look is_prefix (λ t. call (Prefixed (ps ++ prefix_token t ∷ [])) done)
    (look (is S.LeftParen)
    (λ o. look is_target (λ t. expect S.RightParen (call (Prefixed (ps ++ cast_token o.start t ∷ [])) done))
    (call (Group o.start) (operand_rule ps)))
    (call Primary (operand_rule ps)))

abbrev pub list_rule : ℕ → R Expr
list_rule at = call (Elements S.RightBracket) (λ es. done (placed at (X.List es)))

abbrev pub primary_rule : R Expr
primary_rule =
    look is_literal (λ t. done (literal_of t))
    (look is_name (λ t. call (Named t.start (name_of t)) done)
    (look (is S.LeftBracket) (λ o. list_rule o.start)
    (look (is S.LeftBrace) (λ o. call (Brace o.start) done)
    stop)))

abbrev pub items_rule : Symbol → List Expr → R (List Expr)
items_rule close es =
    call Whole (λ e. look (is S.Comma) (λ _. call (Items close (es ++ e ∷ [])) done) (expect close (done (es ++ e ∷ []))))

-- after the first expression in braces, a name alone may be that of a field
abbrev pub field_rule : ℕ → ℕ → ExprKind → R Expr
field_rule at place (X.Name n) = expect S.Assign (call (Fields at [] (placed place n)) done)
field_rule at place _ = stop

abbrev pub brace_rule : ℕ → R Expr
brace_rule at =
    look (is S.RightBrace) (λ _. done (placed at (X.Map [])))
    (call Whole (λ e. look (is S.Colon) (λ _. call (Entries at [] e) done) (field_rule at e.at e.what)))

abbrev pub entries_rule : ℕ → List (Expr × Expr) → Expr → R Expr
entries_rule at es key =
    call Whole (λ e. let all = es ++ (key, e) ∷ [] in
    look (is S.Comma) (λ _. call Whole (λ k. expect S.Colon (call (Entries at all k) done)))
    (expect S.RightBrace (done (placed at (X.Map all)))))

abbrev pub fields_rule : ℕ → List (Field Expr) → Placed (List ℕ) → R Expr
fields_rule at fs name =
    call Whole (λ e. let all = fs ++ field name e ∷ [] in
    look (is S.Comma) (λ _. look is_name (λ t. expect S.Assign (call (Fields at all (placed t.start (name_of t))) done)) stop)
    (expect S.RightBrace (done (placed at (X.Tuple all)))))

abbrev pub steps_rule : Expr → List (Step Expr) → R Expr
steps_rule e ss =
    look (is S.Dot) (λ _. look is_name (λ t. call (Steps e (ss ++ N.Member (placed t.start (name_of t)) ∷ [])) done) stop)
    (look (is S.LeftBracket) (λ _. call Whole (λ i. expect S.RightBracket (call (Steps e (ss ++ N.Index i ∷ [])) done)))
    (done (selected e ss)))

-- after the `?` of a conditional
abbrev pub choice_rule : Expr → R Expr
choice_rule test = call Whole (λ x. expect S.Colon (call Whole (λ y. done (conditional test x y))))

unfoldable pub rule : (x : Line) → R (Value x)
rule Whole = call (Prefixed []) (λ u. call (Rest u) done)
rule (Rest u) =
    call (Climb 9 u) (λ test. look (is S.Question) (λ _. choice_rule test) (done test))
rule (Climb k u) = climb_rule k u
rule (Chain k left) = chain_rule k left
rule (Prefixed ps) = prefixed_rule ps
rule Primary = primary_rule
rule (Group at) = call Whole (λ e. expect S.RightParen (done (placed at (X.Group e))))
rule (Named at n) = look (is S.LeftParen) (λ _. call (Elements S.RightParen) (λ es. done (placed at (X.Call n es)))) (done (placed at (X.Name n)))
rule (Elements close) = look (is close) (λ _. done []) (call (Items close []) done)
rule (Items close es) = items_rule close es
rule (Brace at) = brace_rule at
rule (Entries at es key) = entries_rule at es key
rule (Fields at fs name) = fields_rule at fs name
rule (Steps e ss) = steps_rule e ss

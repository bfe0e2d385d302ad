-- Expressions are spelled by their lines.
use Rattle.std.proofs.Common.{◌≡◌, ◌∙◌, ℕ, suc, List, [], ◌∷◌, ◌++◌, Some, refl, ap}
use Rattle.spl_tree.specs.declared.expression.BinaryOperator.{BinaryOperator}
use Rattle.spl_tree.specs.declared.expression.CastTarget.{CastTarget}
use Rattle.spl_tree.specs.declared.expression.ExprKind.{ExprKind}
use Rattle.spl_tree.specs.declared.expression.ExprKind.TheVariants as X
use Rattle.spl_tree.specs.declared.expression.Field.{Field}
use Rattle.spl_tree.specs.declared.expression.Placed.{Placed}
use Rattle.spl_tree.specs.declared.expression.PrefixOperator.{PrefixOperator}
use Rattle.spl_tree.specs.declared.expression.PrefixOperator.TheVariants as P
use Rattle.spl_tree.specs.declared.expression.Step.{Step}
use Rattle.spl_tree.specs.declared.expression.Step.TheVariants as N
use Rattle.spl_tree.specs.declared.symbol.Symbol.{Symbol}
use Rattle.spl_tree.specs.declared.symbol.Symbol.TheVariants as S
use Rattle.spl_tree.specs.declared.token.Token.{Token}
use Rattle.spl_tree.specs.declared.token.TokenKind.{TokenKind}
use Rattle.spl_tree.specs.Operators.{binary_of, level, prefix_of, prefix_symbol, target_of}
use Rattle.spl_tree.specs.spellings.Grammar as G
use Rattle.spl_tree.specs.Trees.{Expr, Prefix, placed}
use Rattle.spl_tree.specs.spellings.Grammar.{Primary, Items, Entries, Fields, Steps, Prefixes, Operand, Unary, At, Spells}
use Rattle.grammar_laws.specs.Pieces.{One, one, sign, Name, name, joined, In, first}
use Rattle.grammar_laws.specs.ExpressionLines.{PrimaryLine, dollar, number, text, truth, untruth, a_name, call, group, list, empty_map, map, tuple, PrimaryLineLaw, ListLines, PrefixSign, not_sign, minus_sign, tilde_sign, Target, to_integer, to_text, placed_at, Binds, multiply, divide, remainder, add, subtract, less, less_or_equal, greater, greater_or_equal, within, equal, not_equal, bit_and, bit_xor, bit_or, and, or, OperatorLines}

-- ---- primary expressions

primary_is : {k : ExprKind} (at : ℕ) {ts : List Token} → PrimaryLine k ts → first ts ≡ Some at → Primary (placed at k) ts
primary_is at (dollar n _ (one t is)) e = let same : t.start ≡ at = cc in rw (← same) (G.literal t (X.Dollar n) (G.dollar t n is))
primary_is at (number n _ (one t is)) e = let same : t.start ≡ at = cc in rw (← same) (G.literal t (X.Number n) (G.number t n is))
primary_is at (text b _ (one t is)) e = let same : t.start ≡ at = cc in rw (← same) (G.literal t (X.Text b) (G.text t b is))
primary_is at (truth _ (one t is)) e = let same : t.start ≡ at = cc in rw (← same) (G.literal t _ (G.yes t is))
primary_is at (untruth _ (one t is)) e = let same : t.start ≡ at = cc in rw (← same) (G.literal t _ (G.no t is))
primary_is at (a_name n _ (one t is)) e = let same : t.start ≡ at = cc in rw (← same) (G.name t n is)
primary_is at (call n es _ (joined _ _ (one t is) (joined _ _ (one o left) (joined a _ d (one c right))))) e =
    let same : t.start ≡ at = cc in rw (← same) (G.call t o c n es a is left d right)
primary_is at (group x _ (joined _ _ (one o left) (joined a _ d (one c right)))) e = let same : o.start ≡ at = cc in rw (← same) (G.group o c x a left d right)
primary_is at (list es _ (joined _ _ (one o left) (joined a _ d (one c right)))) e = let same : o.start ≡ at = cc in rw (← same) (G.list o c es a left d right)
primary_is at (empty_map _ (joined _ _ (one o left) (one c right))) e = let same : o.start ≡ at = cc in rw (← same) (G.empty_map o c left right)
primary_is at (map es _ (joined _ _ (one o left) (joined a _ d (one c right)))) e = let same : o.start ≡ at = cc in rw (← same) (G.map o c es a left d right)
primary_is at (tuple fs _ (joined _ _ (one o left) (joined a _ d (one c right)))) e = let same : o.start ≡ at = cc in rw (← same) (G.tuple o c fs a left d right)

is_primary : {e : Expr} {ts : List Token} → Primary e ts → PrimaryLine e.what ts × (first ts ≡ Some e.at)
is_primary (G.literal _ _ (G.dollar t n is)) = (dollar n (t ∷ []) (one t is), refl)
is_primary (G.literal _ _ (G.number t n is)) = (number n (t ∷ []) (one t is), refl)
is_primary (G.literal _ _ (G.text t b is)) = (text b (t ∷ []) (one t is), refl)
is_primary (G.literal _ _ (G.yes t is)) = (truth (t ∷ []) (one t is), refl)
is_primary (G.literal _ _ (G.no t is)) = (untruth (t ∷ []) (one t is), refl)
is_primary (G.name t n is) = (a_name n (t ∷ []) (one t is), refl)
is_primary (G.call t o c n es a is left d right) = (call n es _ (joined (t ∷ []) _ (one t is) (joined (o ∷ []) _ (one o left) (joined a _ d (one c right)))), refl)
is_primary (G.group o c e a left d right) = (group e _ (joined (o ∷ []) _ (one o left) (joined a _ d (one c right))), refl)
is_primary (G.list o c es a left d right) = (list es _ (joined (o ∷ []) _ (one o left) (joined a _ d (one c right))), refl)
is_primary (G.empty_map o c left right) = (empty_map _ (joined (o ∷ []) _ (one o left) (one c right)), refl)
is_primary (G.map o c es a left d right) = (map es _ (joined (o ∷ []) _ (one o left) (joined a _ d (one c right))), refl)
is_primary (G.tuple o c fs a left d right) = (tuple fs _ (joined (o ∷ []) _ (one o left) (joined a _ d (one c right))), refl)

-- a primary expression is spelled by its line
pub primary_line_law : PrimaryLineLaw
primary_line_law e ts = (is_primary, λ h. primary_is e.at h.0 h.1)

-- ---- lists

items : (es : List Expr) (e : Expr) (ts : List Token) → In (Items es ∷ sign S.Comma ∷ Spells e ∷ []) ts → Items (es ++ e ∷ []) ts
items es e _ (joined a _ ds (joined _ b (one t comma) d)) = G.next_item es e t a b ds comma d

entry : (k v : Expr) (ts : List Token) → In (Spells k ∷ sign S.Colon ∷ Spells v ∷ []) ts → Entries ((k, v) ∷ []) ts
entry k v _ (joined a _ dk (joined _ b (one t colon) dv)) = G.first_entry k v t a b dk colon dv

entries : (es : List (Expr × Expr)) (k v : Expr) (ts : List Token) → In (Entries es ∷ sign S.Comma ∷ Spells k ∷ sign S.Colon ∷ Spells v ∷ []) ts → Entries (es ++ (k, v) ∷ []) ts
entries es k v _ (joined a _ ds (joined _ _ (one s comma) (joined b _ dk (joined _ d (one t colon) dv)))) = G.next_entry es k v s t a b d ds comma dk colon dv

field : (n : Placed (List ℕ)) (e : Expr) (ts : List Token) → In (Name n ∷ sign S.Assign ∷ Spells e ∷ []) ts → Fields (record { name = n; value = e } ∷ []) ts
field _ e _ (joined _ _ (name t n named) (joined _ a (one s assign) d)) = G.first_field t s n e a named assign d

fields : (fs : List (Field Expr)) (n : Placed (List ℕ)) (e : Expr) (ts : List Token) → In (Fields fs ∷ sign S.Comma ∷ Name n ∷ sign S.Assign ∷ Spells e ∷ []) ts
    → Fields (fs ++ record { name = n; value = e } ∷ []) ts
fields fs _ e _ (joined a _ ds (joined _ _ (one c comma) (joined _ _ (name t n named) (joined _ b (one s assign) d)))) = G.next_field fs c t s n e a b ds comma named assign d

member : (ss : List (Step Expr)) (n : Placed (List ℕ)) (ts : List Token) → In (Steps ss ∷ sign S.Dot ∷ Name n ∷ []) ts → Steps (ss ++ N.Member n ∷ []) ts
member ss _ _ (joined a _ ds (joined _ _ (one d dot) (name t n named))) = G.member ss a d t n ds dot named

index : (ss : List (Step Expr)) (e : Expr) (ts : List Token) → In (Steps ss ∷ sign S.LeftBracket ∷ Spells e ∷ sign S.RightBracket ∷ []) ts → Steps (ss ++ N.Index e ∷ []) ts
index ss e _ (joined a _ ds (joined _ _ (one o left) (joined b _ d (one c right)))) = G.index ss e o c a b ds left d right

pub list_lines : ListLines
list_lines = record {
  no_elements = G.no_elements;
  elements = λ es ts d. G.elements es ts d;
  item = λ e ts d. G.first_item e ts d;
  items = items;
  entry = entry;
  entries = entries;
  field = field;
  fields = fields;
  no_steps = G.no_steps;
  member = member;
  index = index;
}

-- ---- operators

prefix_known : {p : PrefixOperator} {s : Symbol} → PrefixSign p s → prefix_symbol s ≡ Some p
prefix_known not_sign = refl
prefix_known minus_sign = refl
prefix_known tilde_sign = refl

operator : (ps : List Prefix) (p : PrefixOperator) (s : Symbol) (at : ℕ) (ts : List Token) → PrefixSign p s → In (Prefixes ps ∷ placed_at at (sign s) ∷ []) ts
    → Prefixes (ps ++ placed at p ∷ []) ts
operator ps p s at _ known (joined a _ ds (one t is, e)) =
    let same : t.start ≡ at = cc in rw (← same) (G.operator ps a t p ds (ap prefix_of is ∙ prefix_known known))

target_known : {c : CastTarget} {t : Token} → Target c (t ∷ []) → target_of t.kind ≡ Some c
target_known (to_integer k _ (one t is)) = ap target_of is
target_known (to_text _ (one t is)) = ap target_of is

cast : (ps : List Prefix) (c : CastTarget) (at : ℕ) (ts : List Token) → In (Prefixes ps ∷ placed_at at (sign S.LeftParen) ∷ Target c ∷ sign S.RightParen ∷ []) ts
    → Prefixes (ps ++ placed at (P.Cast c) ∷ []) ts
cast ps _ at _ (joined a _ ds (joined _ _ (one o left, e) (joined _ _ (to_integer k _ (one t is)) (one r right)))) =
    let same : o.start ≡ at = cc in rw (← same) (G.cast ps a o t r _ ds left (ap target_of is) right)
cast ps _ at _ (joined a _ ds (joined _ _ (one o left, e) (joined _ _ (to_text _ (one t is)) (one r right)))) =
    let same : o.start ≡ at = cc in rw (← same) (G.cast ps a o t r _ ds left (ap target_of is) right)

select : (e : Expr) (s : Step Expr) (ss : List (Step Expr)) (ts : List Token) → In (Primary e ∷ Steps (s ∷ ss) ∷ []) ts → Operand (placed e.at (X.Select e (s ∷ ss))) ts
select e s ss _ (joined a b d ds) = G.select e s ss a b d ds

prefixed : (p : Prefix) (ps : List Prefix) (e : Expr) (ts : List Token) → In (Prefixes (p ∷ ps) ∷ Operand e ∷ []) ts → Unary (placed p.at (X.Unary (p ∷ ps) e)) ts
prefixed p ps e _ (joined a b ds d) = G.prefixed p ps e a b ds d

binds_known : {k : ℕ} {op : BinaryOperator} {kind : TokenKind} → Binds k op kind → (binary_of kind ≡ Some op) × (level op ≡ k)
binds_known multiply = (refl, refl)
binds_known divide = (refl, refl)
binds_known remainder = (refl, refl)
binds_known add = (refl, refl)
binds_known subtract = (refl, refl)
binds_known less = (refl, refl)
binds_known less_or_equal = (refl, refl)
binds_known greater = (refl, refl)
binds_known greater_or_equal = (refl, refl)
binds_known within = (refl, refl)
binds_known equal = (refl, refl)
binds_known not_equal = (refl, refl)
binds_known bit_and = (refl, refl)
binds_known bit_xor = (refl, refl)
binds_known bit_or = (refl, refl)
binds_known and = (refl, refl)
binds_known or = (refl, refl)

binary : (k : ℕ) (l r : Expr) (op : BinaryOperator) (kind : TokenKind) (ts : List Token) → Binds (suc k) op kind → In (At (suc k) l ∷ One kind ∷ At k r ∷ []) ts
    → At (suc k) (placed l.at (X.Binary op l r)) ts
binary k l r op kind _ binds (joined a _ d (joined _ b (one t is) f)) =
    let known = binds_known binds in G.binary k l r op t a b d (ap binary_of is ∙ known.0) known.1 f

conditional : (c x y : Expr) (ts : List Token) → In (At 9 c ∷ sign S.Question ∷ Spells x ∷ sign S.Colon ∷ Spells y ∷ []) ts → Spells (placed c.at (X.Conditional c x y)) ts
conditional c x y _ (joined a _ dc (joined _ _ (one q question) (joined b _ dx (joined _ d (one k colon) dy)))) = G.conditional c x y q k a b d dc question dx colon dy

pub operator_lines : OperatorLines
operator_lines = record {
  no_prefixes = G.no_prefixes;
  operator = operator;
  cast = cast;
  primary = λ e ts d. G.primary e ts d;
  select = select;
  operand = λ e ts d. G.operand e ts d;
  prefixed = prefixed;
  unary = λ e ts d. G.unary e ts d;
  tighter = λ k e ts d. G.tighter k e ts d;
  binary = binary;
  whole = λ e ts d. G.plain e ts d;
  conditional = conditional;
}

-- What the tests of a token say of it, and which tokens begin an expression and end one.
use Rattle.std.proofs.Common.{◌≡◌, ℕ, ◌<◌, ◌≤◌, Bool, true, false, List, [], ◌∷◌, Option, Some, None, refl, ap, arith}
use Rattle.std.specs.Option.{is_some, unwrap_or}
use Rattle.std.proofs.lemmas.Bool.{eqb-true, false_from_ne_true}
use Rattle.std.proofs.lemmas.Slice.Eq.{bytes_eq-Decides}
use Rattle.std.specs.Str.{bytes_eq}
use Rattle.spl_tree.specs.declared.symbol.Symbol.{Symbol}
use Rattle.spl_tree.specs.declared.symbol.Symbol.TheVariants as S
use Rattle.spl_tree.specs.declared.keyword.Keyword.{Keyword}
use Rattle.spl_tree.specs.declared.keyword.Keyword.TheVariants as K
use Rattle.spl_tree.specs.declared.token.Token.{Token}
use Rattle.spl_tree.specs.declared.token.TokenKind.{TokenKind}
use Rattle.spl_tree.specs.declared.token.TokenKind.TheVariants as T
use Rattle.spl_tree.specs.declared.expression.BinaryOperator.{BinaryOperator}
use Rattle.spl_tree.specs.declared.expression.BinaryOperator.TheVariants as B
use Rattle.spl_tree.specs.declared.expression.ExprKind.TheVariants as X
use Rattle.spl_tree.specs.declared.expression.PrefixOperator.TheVariants as P
use Rattle.spl_tree.specs.declared.expression.CastTarget.TheVariants as C
use Rattle.spl_tree.specs.Words.{symbol_text, symbol_of}
use Rattle.spl_tree.proofs.WordLaws.{symbols_law}
use Rattle.spl_tree.specs.Operators.{binary_symbol, binary_keyword, binary_of, level, prefix_of, target_keyword, target_of, is_symbol}
use Rattle.spl_tree.specs.spellings.Grammar.{Is, Names, Literal, dollar, number, text, yes, no}
use Rattle.expr_parser.specs.Taken.{begins_with}
use Rattle.expr_parser.specs.Lines.{is, name_kind, is_name, name_of, keyword_literal, literal_kind, is_literal, is_prefix, is_target, is_operator, operator_of, at_level}

-- symbols with one text are one
same_symbol : (s x : Symbol) → bytes_eq (symbol_text s) (symbol_text x) ≡ true → s ≡ x
same_symbol s x e =
    let same = ap symbol_of ((bytes_eq-Decides (symbol_text s) (symbol_text x)).0 e) in
    cc (same, symbols_law s, symbols_law x)

-- a token that is tested for a symbol is that symbol
pub is-true : (s : Symbol) (t : Token) → is s t ≡ true → Is s t
is-true s t e = by t.kind e
  where
    by : (k : TokenKind) → is_symbol s k ≡ true → k ≡ T.Symbol s
    by (T.Symbol x) e = let same = same_symbol s x e in cc
    by _ e = absurd (cc)

-- What begins an expression

abbrev pub opens_symbol : Symbol → Bool
opens_symbol S.LeftParen = true
opens_symbol S.LeftBracket = true
opens_symbol S.LeftBrace = true
opens_symbol S.Exclamation = true
opens_symbol S.Minus = true
opens_symbol S.Tilde = true
opens_symbol _ = false

abbrev pub opens_keyword : Keyword → Bool
opens_keyword K.True = true
opens_keyword K.False = true
opens_keyword _ = false

abbrev pub opens_kind : TokenKind → Bool
opens_kind (T.Symbol s) = opens_symbol s
opens_kind (T.Keyword k) = opens_keyword k
opens_kind _ = true

-- a token that begins an expression
abbrev pub opens : Token → Bool
opens t = opens_kind t.kind

-- a token that begins an expression is no symbol that begins none
pub is-opens : (s : Symbol) → opens_symbol s ≡ false → (t : Token) → opens t ≡ true → is s t ≡ false
is-opens s shut t e = false_from_ne_true (is s t) (λ same. let kind = ap opens_kind (is-true s t same) in absurd (cc kind))

-- and names no type
pub is_target-opens : (t : Token) → opens t ≡ true → is_target t ≡ false
is_target-opens t e = by t.kind e
  where
    by_keyword : (k : Keyword) → opens_keyword k ≡ true → is_some (target_keyword k) ≡ false
    by_keyword K.True e = refl
    by_keyword K.False e = refl
    by_keyword _ e = absurd (cc)

    by : (k : TokenKind) → opens_kind k ≡ true → is_some (target_of k) ≡ false
    by (T.Keyword k) e = by_keyword k e
    by _ e = refl

-- so do tokens that begin with one
pub begins-opens : (p : Token → Bool) → ((t : Token) → opens t ≡ true → p t ≡ false) → (ts : List Token) → begins_with opens ts ≡ true
    → begins_with p ts ≡ false
begins-opens p shut [] e = refl
begins-opens p shut (t ∷ ts) e = shut t e

-- What ends an expression

-- how tight an operator binds, and past all of them where there is none
abbrev pub operator_binds : Option BinaryOperator → ℕ
operator_binds None = 11
operator_binds (Some op) = level op

abbrev pub symbol_binds : Symbol → ℕ
symbol_binds S.LeftParen = 0
symbol_binds S.LeftBracket = 0
symbol_binds S.Dot = 0
symbol_binds S.Question = 10
symbol_binds s = operator_binds (binary_symbol s)

-- the tightest level at which a token goes on after an expression
abbrev pub binds : TokenKind → ℕ
binds (T.Symbol s) = symbol_binds s
binds (T.Keyword k) = operator_binds (binary_keyword k)
binds _ = 11

-- the first token goes on at no level up to k
abbrev pub Stops : ℕ → List Token → Type 0
Stops k [] = Unit {0}
Stops k (t ∷ ts) = k < binds t.kind

-- nor at one up to a lower one
pub Stops-le : (j k : ℕ) (ts : List Token) → j ≤ k → Stops k ts → Stops j ts
Stops-le j k [] le s = tt
Stops-le j k (t ∷ ts) le s = omega arith

-- it is no symbol that goes on there
pub is-stops : (s : Symbol) (k : ℕ) (ts : List Token) → symbol_binds s ≤ k → Stops k ts → begins_with (is s) ts ≡ false
is-stops s k [] le stops = refl
is-stops s k (t ∷ ts) le stops =
    false_from_ne_true (is s t) (λ same. let binds : binds t.kind ≡ symbol_binds s = ap binds (is-true s t same) in absurd (omega arith))

-- an operator goes on at its level
pub binds_operator : (k : TokenKind) (op : BinaryOperator) → binary_of k ≡ Some op → binds k ≡ level op
binds_operator k op e = by k e
  where
    by_symbol : (s : Symbol) → binary_symbol s ≡ Some op → symbol_binds s ≡ level op
    by_symbol S.LeftParen e = absurd (cc)
    by_symbol S.LeftBracket e = absurd (cc)
    by_symbol S.Dot e = absurd (cc)
    by_symbol S.Question e = absurd (cc)
    by_symbol s e = ap operator_binds e

    by : (k : TokenKind) → binary_of k ≡ Some op → binds k ≡ level op
    by (T.Symbol s) e = by_symbol s e
    by (T.Keyword k) e = ap operator_binds e
    by _ e = absurd (cc)

-- a token that is tested for an operator of a level is one
pub is_operator-true : (k : ℕ) (t : Token) → is_operator k t ≡ true → (binary_of t.kind ≡ Some (operator_of t)) × (level (operator_of t) ≡ k)
is_operator-true k t e = by (binary_of t.kind) e
  where
    by : (o : Option BinaryOperator) → at_level k o ≡ true → (o ≡ Some (unwrap_or o B.Or)) × (level (unwrap_or o B.Or) ≡ k)
    by None e = absurd (cc)
    by (Some op) e = (refl, eqb-true (level op) k e)

-- where it goes on at no level so tight, it is no operator of that level
pub is_operator-stops : (k : ℕ) (ts : List Token) → Stops k ts → begins_with (is_operator k) ts ≡ false
is_operator-stops k [] stops = refl
is_operator-stops k (t ∷ ts) stops =
    false_from_ne_true (is_operator k t) (λ e.
    let at = is_operator-true k t e in
    let same = binds_operator t.kind (operator_of t) at.0 in
    absurd (omega arith))

-- What a token is that passes a test

-- an option that has a value has the one that is taken of it
pub unwrap_or-is_some : {A : Type 0} (o : Option A) (d : A) → is_some o ≡ true → o ≡ Some (unwrap_or o d)
unwrap_or-is_some None d e = absurd (cc)
unwrap_or-is_some (Some x) d e = refl

-- a name
pub is_name-true : (t : Token) → is_name t ≡ true → Names (name_of t) t
is_name-true t e = by t.kind e
  where
    by : (k : TokenKind) → is_some (name_kind k) ≡ true → k ≡ T.Word (unwrap_or (name_kind k) [])
    by (T.Word n) e = refl
    by _ e = absurd (cc)

-- an expression by itself
pub is_literal-true : (t : Token) → is_literal t ≡ true → Literal (unwrap_or (literal_kind t.kind) (X.Bool false)) t
is_literal-true t e = by t.kind refl e
  where
    by_keyword : (k : Keyword) → t.kind ≡ T.Keyword k → is_some (keyword_literal k) ≡ true
        → Literal (unwrap_or (keyword_literal k) (X.Bool false)) t
    by_keyword K.True is e = yes t is
    by_keyword K.False is e = no t is
    by_keyword _ is e = absurd (cc)

    by : (k : TokenKind) → t.kind ≡ k → is_some (literal_kind k) ≡ true → Literal (unwrap_or (literal_kind k) (X.Bool false)) t
    by (T.Dollar n) is e = dollar t n is
    by (T.Number n) is e = number t n is
    by (T.Text bytes) is e = text t bytes is
    by (T.Keyword k) is e = by_keyword k is e
    by _ is e = absurd (cc)

-- a prefix operator
pub is_prefix-true : (t : Token) → is_prefix t ≡ true → prefix_of t.kind ≡ Some (unwrap_or (prefix_of t.kind) P.Not)
is_prefix-true t e = unwrap_or-is_some (prefix_of t.kind) P.Not e

-- a type that an expression can be cast to
pub is_target-true : (t : Token) → is_target t ≡ true → target_of t.kind ≡ Some (unwrap_or (target_of t.kind) C.Text)
is_target-true t e = unwrap_or-is_some (target_of t.kind) C.Text e

-- The weights of tokens: how many brackets and operators are open at each.
use Rattle.std.specs.Prelude.{ℕ, ◌+◌, nat_lt, Bool, true, false, ◌&&◌, not, List, [], ◌∷◌, if◌then◌else◌, drop, position, Option}
use Rattle.std.specs.List.{position_from}
use Rattle.spl_tree.specs.declared.token.Token.{Token}
use Rattle.spl_tree.specs.declared.token.TokenKind.{TokenKind}
use Rattle.spl_tree.specs.declared.token.TokenKind.TheVariants as T
use Rattle.spl_tree.specs.declared.keyword.Keyword.{Keyword}
use Rattle.spl_tree.specs.declared.keyword.Keyword.TheVariants as K
use Rattle.spl_tree.specs.declared.symbol.Symbol.{Symbol}
use Rattle.spl_tree.specs.declared.symbol.Symbol.TheVariants as S

-- what a token does to the weight
pub data Effect : Type 0 where
  Nothing : Effect
  Adds : Effect
  Opens : Effect
  Closes : (brace : Bool) → Effect
  Separates : Effect

abbrev pub symbol_effect : Symbol → Effect
symbol_effect S.LeftParen = Opens
symbol_effect S.LeftBracket = Opens
symbol_effect S.LeftBrace = Opens
symbol_effect S.RightParen = Closes false
symbol_effect S.RightBracket = Closes false
symbol_effect S.RightBrace = Closes true
symbol_effect S.Comma = Separates
symbol_effect S.Semicolon = Separates
symbol_effect _ = Adds

-- of the reserved words `in` alone adds, as the operator that it is
abbrev pub keyword_effect : Keyword → Effect
keyword_effect K.In = Adds
keyword_effect _ = Nothing

abbrev pub effect : TokenKind → Effect
effect (T.Symbol s) = symbol_effect s
effect (T.Keyword k) = keyword_effect k
effect _ = Nothing

abbrev pub adds : Effect → Bool
adds Adds = true
adds _ = false

-- whether the token at the front adds to the weight
abbrev pub next_adds : List Token → Bool
next_adds [] = false
next_adds (t ∷ ts) = adds (effect t.kind)

-- the weight before each bracket that is open, the innermost first
abbrev pub Opened : Type 0
Opened = List ℕ

-- the start of the level inside these brackets
abbrev pub level_start : Opened → ℕ
level_start [] = 0
level_start (before ∷ outer) = before + 1

-- a weight, and the brackets that are open there
pub record Weighing : Type 0 where
  pub weight : ℕ
  pub opened : Opened

-- a closing bracket without an opening one changes nothing. After another one the weight is what it was before the
-- opening bracket, but after a brace that no token follows which adds it is the start of the level that the brace
-- stands in
abbrev pub after_closing : (brace next_adds : Bool) → Weighing → Opened → Weighing
after_closing brace next_adds d [] = d
after_closing brace next_adds d (before ∷ outer) =
    record { weight = if brace && not next_adds then level_start outer else before; opened = outer }

abbrev pub after_token : Effect → (next_adds : Bool) → Weighing → Weighing
after_token Nothing next_adds d = d
after_token Adds next_adds d = record { weight = d.weight + 1; opened = d.opened }
after_token Opens next_adds d = record { weight = d.weight + 1; opened = d.weight ∷ d.opened }
after_token Separates next_adds d = record { weight = level_start d.opened; opened = d.opened }
after_token (Closes brace) next_adds d = after_closing brace next_adds d d.opened

-- the weight of a token itself, which doesn't depend on the next one: a closing brace weighs what it would if a token
-- followed that adds
abbrev pub weight_at : Effect → Weighing → ℕ
weight_at e d = (after_token e true d).weight

-- the weight of each token, after tokens that lead to a weight with its open brackets
abbrev pub weights_from : Weighing → List Token → List ℕ
weights_from d [] = []
weights_from d (t ∷ ts) = weight_at (effect t.kind) d ∷ weights_from (after_token (effect t.kind) (next_adds ts) d) ts

-- the weight of each token
abbrev pub weights : List Token → List ℕ
weights ts = weights_from (record { weight = 0; opened = [] }) ts

-- the most that a token may weigh
abbrev pub most_weight : ℕ
most_weight = 200

-- the first token that weighs more, by its place in the list, from 0
abbrev pub too_deep_at : List Token → Option ℕ
too_deep_at ts = position (λ w. nat_lt most_weight w) (weights ts)

-- the first one from a place on that weighs more, by its place in the list, from 0; it is weighed with all tokens
-- before it
abbrev pub too_deep_from : ℕ → List Token → Option ℕ
too_deep_from from ts = position_from (λ w. nat_lt most_weight w) from (drop from (weights ts))

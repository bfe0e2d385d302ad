-- What tokens and weights are, in other words than their definitions.
use Rattle.std.specs.Prelude.{◌≡◌, ◌↔◌, ℕ, ◌+◌, ◌-◌, ◌<◌, ◌≤◌, ◌==◌, ◌&&◌, ◌||◌, true, false, not, List, [], ◌∷◌, ◌++◌, length, take, drop, All, Some, None, Result, Ok}
use Rattle.std.specs.List.{list_all}
use Rattle.spl_value.specs.Decimal.{is_digit}
use Rattle.spl_tree.specs.declared.keyword.Keyword.{Keyword}
use Rattle.spl_tree.specs.declared.symbol.Symbol.{Symbol}
use Rattle.spl_tree.specs.declared.token.TokenKind.{TokenKind}
use Rattle.spl_tree.specs.declared.token.Token.{Token}
use Rattle.spl_tree.specs.declared.token.Tokens.{Tokens}
use Rattle.spl_tree.specs.declared.token.TheConstants.{MOST_BYTES}
use Rattle.spl_tree.specs.Bytes.{is_blank, is_word_byte, begins}
use Rattle.spl_tree.specs.Words.{symbol_text, symbol_of, keyword_word, keyword_of}
use Rattle.spl_tree.specs.Tokens.{Refusal, is_formed, kind_of, IsLexed, tokens}
use Rattle.spl_tree.specs.Weights.{weights, most_weight, too_deep_at}

-- what is computed of a program is what it has
abbrev pub LexedLaw : Type 0
LexedLaw = (bytes : List ℕ) (r : Result Tokens Refusal) → IsLexed bytes r ↔ (tokens bytes ≡ r)

-- bytes that separate tokens, by what follows them: a blank, a comment up to the end of its line,
-- and a comment up to the first `*/`
pub data Gap : List ℕ → List ℕ → Type 0 where
  blank : (b : ℕ) (rest : List ℕ) → is_blank b ≡ true → Gap (b ∷ []) rest
  line : (inside rest : List ℕ) → list_all (λ c. not (c == 10)) inside ≡ true → begins (λ c. not (c == 10)) rest ≡ false
      → Gap (47 ∷ 47 ∷ inside) rest
  block : (inside rest : List ℕ) → ((before after : List ℕ) → inside ++ 42 ∷ [] ≡ before ++ (42 ∷ 47 ∷ after) → ⊥)
      → Gap (47 ∷ 42 ∷ (inside ++ 42 ∷ 47 ∷ [])) rest

-- these bytes are the token, by what follows them: they have the form of one, and with more of what
-- follows they have none; no letter, digit or `_` comes after a number; a slash begins no comment
pub record IsToken (kind : TokenKind) (text rest : List ℕ) : Type 0 where
  pub formed : is_formed text ≡ true
  pub longest : (n : ℕ) → 0 < n → n ≤ length rest → is_formed (text ++ take n rest) ≡ false
  pub apart : (begins is_digit text && begins is_word_byte rest) ≡ false
  pub no_comment : text ≡ 47 ∷ [] → begins (λ c. (c == 47) || (c == 42)) rest ≡ false
  pub is : kind_of text ≡ Ok kind

-- bytes that begin at a place are cut into gaps and these tokens
pub data Cut : ℕ → List ℕ → List Token → Type 0 where
  done : (at : ℕ) → Cut at [] []
  gap : (at : ℕ) (text rest : List ℕ) (ts : List Token) → Gap text rest → Cut (at + length text) rest ts → Cut at (text ++ rest) ts
  token : (at : ℕ) (kind : TokenKind) (text rest : List ℕ) (ts : List Token) → IsToken kind text rest → Cut (at + length text) rest ts
      → Cut at (text ++ rest) (record { kind = kind; start = at; end = at + length text } ∷ ts)

-- a program's tokens cut its bytes
abbrev pub CutLaw : Type 0
CutLaw = (bytes : List ℕ) (ts : Tokens) → tokens bytes ≡ Ok ts → Cut 0 bytes ts.list × (ts.length ≡ length bytes)

-- and only they do
abbrev pub OneCutLaw : Type 0
OneCutLaw = (bytes : List ℕ) (ts : List Token) → length bytes ≤ MOST_BYTES → Cut 0 bytes ts
    → tokens bytes ≡ Ok (record { list = ts; length = length bytes })

-- the tokens stand one after another, from a place up to an end
abbrev pub Rise : ℕ → List Token → ℕ → Type 0
Rise at [] end = at ≤ end
Rise at (t ∷ ts) end = (at ≤ t.start) × (t.start < t.end) × Rise t.end ts end

abbrev pub RiseLaw : Type 0
RiseLaw = (bytes : List ℕ) (ts : Tokens) → tokens bytes ≡ Ok ts → Rise 0 ts.list (length bytes)

-- a token's own bytes alone are that token
abbrev pub own_bytes : List ℕ → Token → List ℕ
own_bytes bytes t = take (t.end - t.start) (drop t.start bytes)

abbrev pub alone : Token → Tokens
alone t = record { list = record { kind = t.kind; start = 0; end = t.end - t.start } ∷ []; length = t.end - t.start }

abbrev pub OwnBytesLaw : Type 0
OwnBytesLaw = (bytes : List ℕ) (ts : Tokens) → tokens bytes ≡ Ok ts → All (λ t. tokens (own_bytes bytes t) ≡ Ok (alone t)) ts.list

-- the text of each symbol is that symbol's alone, and the word of each keyword that keyword's
abbrev pub SymbolsLaw : Type 0
SymbolsLaw = (s : Symbol) → symbol_of (symbol_text s) ≡ Some s

abbrev pub KeywordsLaw : Type 0
KeywordsLaw = (k : Keyword) → keyword_of (keyword_word k) ≡ Some k

-- each token has a weight
abbrev pub WeightsLaw : Type 0
WeightsLaw = (ts : List Token) → length (weights ts) ≡ length ts

-- at most `most_weight` tokens are never too deep
abbrev pub ShallowLaw : Type 0
ShallowLaw = (ts : List Token) → length ts ≤ most_weight → too_deep_at ts ≡ None

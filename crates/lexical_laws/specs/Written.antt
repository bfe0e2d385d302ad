-- How tokens are written: which bytes are a token of each kind.
use Rattle.std.specs.Prelude.{◌≡◌, ℕ, ◌<◌, ◌≤◌, true, List, [], ◌∷◌, ◌++◌, length, All, Ok}
use Rattle.std.specs.List.{list_all}
use Rattle.spl_value.specs.declared.types.IntKind.{IntKind}
use Rattle.spl_value.specs.Values.{top}
use Rattle.spl_value.specs.Decimal.{is_digit}
use Rattle.spl_tree.specs.declared.keyword.Keyword.{Keyword}
use Rattle.spl_tree.specs.declared.symbol.Symbol.{Symbol}
use Rattle.spl_tree.specs.declared.token.TokenKind.{TokenKind}
use Rattle.spl_tree.specs.declared.token.TokenKind.TheVariants as T
use Rattle.spl_tree.specs.declared.token.Tokens.{Tokens}
use Rattle.spl_tree.specs.declared.token.TheConstants.{MOST_BYTES}
use Rattle.spl_tree.specs.Bytes.{is_letter, is_word_byte, is_quote, begins}
use Rattle.spl_tree.specs.Words.{symbol_text, keyword_word}
use Rattle.spl_tree.specs.Tokens.{tokens}
use Rattle.spl_tree.specs.Laws.{own_bytes}
use Rattle.lexical_laws.specs.Refusals.{IsPlain, Decimal, IsSuffix}

-- the byte after a backslash, and the byte that both stand for
pub data Escapes : ℕ → ℕ → Type 0 where
  double_quote : Escapes 34 34
  single_quote : Escapes 39 39
  backslash : Escapes 92 92
  line_feed : Escapes 110 10
  tab : Escapes 116 9
  carriage_return : Escapes 114 13

-- the bytes between the quotes of a text, and those that they stand for
pub data Means (quote : ℕ) : List ℕ → List ℕ → Type 0 where
  nothing : Means quote [] []
  plain : (b : ℕ) (bs cs : List ℕ) → IsPlain quote b → Means quote bs cs → Means quote (b ∷ bs) (b ∷ cs)
  escape : (c b : ℕ) (bs cs : List ℕ) → Escapes c b → Means quote bs cs → Means quote (92 ∷ c ∷ bs) (b ∷ cs)

-- the bytes of a token
pub data Written : TokenKind → List ℕ → Type 0 where
  -- a letter or `_`, then letters, digits and `_`, which are no reserved word
  word : (b : ℕ) (bs : List ℕ) → is_letter b ≡ true → list_all is_word_byte bs ≡ true → ((k : Keyword) → keyword_word k ≡ b ∷ bs → ⊥)
      → Written (T.Word (b ∷ bs)) (b ∷ bs)
  reserved : (k : Keyword) → Written (T.Keyword k) (keyword_word k)
  -- `$` and a word, reserved or not
  dollar : (b : ℕ) (bs : List ℕ) → is_letter b ≡ true → list_all is_word_byte bs ≡ true → Written (T.Dollar (b ∷ bs)) (36 ∷ b ∷ bs)
  number : (n : ℕ) (ds letters : List ℕ) (k : IntKind) → begins is_digit ds ≡ true → Decimal n ds → IsSuffix k letters → n < top k
      → Written (T.Number (record { kind = k; value = n })) (ds ++ letters)
  text : (quote : ℕ) (inside bytes : List ℕ) → is_quote quote ≡ true → Means quote inside bytes → Written (T.Text bytes) (quote ∷ (inside ++ quote ∷ []))
  symbol : (s : Symbol) → Written (T.Symbol s) (symbol_text s)

-- each token of a program is written in its own bytes
abbrev pub WrittenLaw : Type 0
WrittenLaw = (bytes : List ℕ) (ts : Tokens) → tokens bytes ≡ Ok ts → All (λ t. Written t.kind (own_bytes bytes t)) ts.list

-- and bytes that are written so are that token
abbrev pub TokenLaw : Type 0
TokenLaw = (kind : TokenKind) (text : List ℕ) → length text ≤ MOST_BYTES → Written kind text
    → tokens text ≡ Ok (record { list = record { kind = kind; start = 0; end = length text } ∷ []; length = length text })

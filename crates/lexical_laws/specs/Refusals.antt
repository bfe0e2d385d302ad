-- Why a program's bytes are no tokens, and where: what the bytes at the place of a refusal are, and those before it. A
-- text that isn't closed on its line and a comment that isn't closed are refused at their start, a backslash that begins
-- no escape at itself, a number that exceeds its type or runs into a word at its start, and a byte that begins no token
-- at itself.
use Rattle.std.specs.Prelude.{◌≡◌, ℕ, ◌+◌, ◌-◌, ◌*◌, ◌<◌, ◌≤◌, Bool, true, false, List, [], ◌∷◌, ◌++◌, length, take, Ok, Err}
use Rattle.std.specs.List.{list_all}
use Rattle.spl_value.specs.declared.types.IntKind.{IntKind}
use Rattle.spl_value.specs.declared.types.IntKind.TheVariants.{I8, I16, I32, I64, U8, U16, U32, U64}
use Rattle.spl_value.specs.Values.{top}
use Rattle.spl_value.specs.Decimal.{is_digit}
use Rattle.spl_tree.specs.declared.symbol.Symbol.{Symbol}
use Rattle.spl_tree.specs.declared.token.Token.{Token}
use Rattle.spl_tree.specs.declared.token.TokenKind.{TokenKind}
use Rattle.spl_tree.specs.declared.token.LexicalError.{LexicalError}
use Rattle.spl_tree.specs.declared.token.LexicalError.TheVariants as E
use Rattle.spl_tree.specs.declared.token.TheConstants.{MOST_BYTES}
use Rattle.spl_tree.specs.Bytes.{is_blank, is_letter, is_word_byte, is_quote, begins}
use Rattle.spl_tree.specs.Words.{symbol_text}
use Rattle.spl_tree.specs.Tokens.{tokens}
use Rattle.spl_tree.specs.Laws.{Gap, IsToken}

-- ---- texts

-- a byte of a text that stands for itself: no line feed, no backslash, and not the quote
pub record IsPlain (quote b : ℕ) : Type 0 where
  pub feed : b ≡ 10 → ⊥
  pub backslash : b ≡ 92 → ⊥
  pub other : b ≡ quote → ⊥

-- the bytes between two quotes: a backslash passes over the byte after it, and no line feed stands there
pub data Inside (quote : ℕ) : List ℕ → Type 0 where
  nothing : Inside quote []
  plain : (b : ℕ) (bs : List ℕ) → IsPlain quote b → Inside quote bs → Inside quote (b ∷ bs)
  pair : (c : ℕ) (bs : List ℕ) → (c ≡ 10 → ⊥) → Inside quote bs → Inside quote (92 ∷ c ∷ bs)

-- the byte after the backslash of an escape: `"`, `'`, `\`, `n`, `t` or `r`
pub data IsEscape : ℕ → Type 0 where
  double_quote : IsEscape 34
  single_quote : IsEscape 39
  backslash : IsEscape 92
  line_feed : IsEscape 110
  tab : IsEscape 116
  carriage_return : IsEscape 114

-- the same, where each backslash begins an escape
pub data Escaped (quote : ℕ) : List ℕ → Type 0 where
  nothing : Escaped quote []
  plain : (b : ℕ) (bs : List ℕ) → IsPlain quote b → Escaped quote bs → Escaped quote (b ∷ bs)
  escape : (c : ℕ) (bs : List ℕ) → IsEscape c → Escaped quote bs → Escaped quote (92 ∷ c ∷ bs)

-- ---- numbers

-- what digits say: the last one, and ten times what those before it say
pub data Decimal : ℕ → List ℕ → Type 0 where
  none : Decimal 0 []
  digit : (n : ℕ) (ds : List ℕ) (d : ℕ) → Decimal n ds → is_digit d ≡ true → Decimal (10 * n + (d - 48)) (ds ++ d ∷ [])

-- `u` makes a number unsigned; `s` or nothing makes it signed
pub data Sign : (signed : Bool) → List ℕ → Type 0 where
  plain : Sign true []
  signed : Sign true (115 ∷ [])
  unsigned : Sign false (117 ∷ [])

-- `b`, `h`, `w` and `l` make a number 8, 16, 32 and 64 bits wide; nothing makes it 32 bits wide
pub data Width : (signed : Bool) → IntKind → List ℕ → Type 0 where
  int : Width true I32 []
  int8 : Width true I8 (98 ∷ [])
  int16 : Width true I16 (104 ∷ [])
  int32 : Width true I32 (119 ∷ [])
  int64 : Width true I64 (108 ∷ [])
  uint : Width false U32 []
  uint8 : Width false U8 (98 ∷ [])
  uint16 : Width false U16 (104 ∷ [])
  uint32 : Width false U32 (119 ∷ [])
  uint64 : Width false U64 (108 ∷ [])

-- the letters after the digits of a number
pub data IsSuffix (k : IntKind) : List ℕ → Type 0 where
  suffix : (signed : Bool) (a b : List ℕ) → Sign signed a → Width signed k b → IsSuffix k (a ++ b)

-- digits and a suffix, whose type has the number that they say
pub data IsNumber : List ℕ → Type 0 where
  number : (n : ℕ) (ds letters : List ℕ) (k : IntKind) → begins is_digit ds ≡ true → Decimal n ds → IsSuffix k letters → n < top k → IsNumber (ds ++ letters)

-- ---- what stands at the place of a refusal

-- bytes with which no token begins: a dollar that no letter follows; or a byte that begins no word, number or text, no
-- gap and no symbol
pub data BeginsNone : List ℕ → Type 0 where
  dollar : (bs : List ℕ) → begins is_letter bs ≡ false → BeginsNone (36 ∷ bs)
  other : (b : ℕ) (bs : List ℕ) → is_blank b ≡ false → is_letter b ≡ false → is_digit b ≡ false → is_quote b ≡ false → (b ≡ 36 → ⊥)
      → ((s : Symbol) (rest : List ℕ) → b ∷ bs ≡ symbol_text s ++ rest → ⊥) → BeginsNone (b ∷ bs)

-- what the bytes are where they are refused, why, and how far after their first byte
pub data Shows : List ℕ → LexicalError → ℕ → Type 0 where
  -- `/*`, and no `*/` after it
  open_comment : (bs : List ℕ) → ((before after : List ℕ) → bs ≡ before ++ (42 ∷ 47 ∷ after) → ⊥) → Shows (47 ∷ 42 ∷ bs) E.OpenComment 0
  -- a quote, and none on its line that closes the text
  open_text : (quote : ℕ) (bs : List ℕ) → is_quote quote ≡ true
      → ((inside after : List ℕ) → Inside quote inside → bs ≡ inside ++ quote ∷ after → ⊥) → Shows (quote ∷ bs) E.OpenText 0
  -- a text that is closed, and the first backslash in it that begins no escape
  bad_escape : (quote c : ℕ) (good more after : List ℕ) → is_quote quote ≡ true → Escaped quote good → (c ≡ 10 → ⊥) → (IsEscape c → ⊥)
      → Inside quote more → Shows (quote ∷ ((good ++ 92 ∷ c ∷ more) ++ quote ∷ after)) E.BadByte (1 + length good)
  -- a digit, and with all the letters, digits and `_` after it no number of its type
  bad_number : (run after : List ℕ) → begins is_digit run ≡ true → list_all is_word_byte run ≡ true → begins is_word_byte after ≡ false
      → (IsNumber run → ⊥) → Shows (run ++ after) E.BadNumber 0
  -- no token begins with them
  bad_byte : (bs : List ℕ) → BeginsNone bs → Shows bs E.BadByte 0

-- ---- refusals

-- bytes that begin at a place are gaps and these tokens, up to the rest of them at another place
pub data CutTo : ℕ → List ℕ → List Token → ℕ → List ℕ → Type 0 where
  here : (at : ℕ) (rest : List ℕ) → CutTo at rest [] at rest
  gap : (at place : ℕ) (text after rest : List ℕ) (ts : List Token) → Gap text after → CutTo (at + length text) after ts place rest
      → CutTo at (text ++ after) ts place rest
  token : (at place : ℕ) (kind : TokenKind) (text after rest : List ℕ) (ts : List Token) → IsToken kind text after
      → CutTo (at + length text) after ts place rest
      → CutTo at (text ++ after) (record { kind = kind; start = at; end = at + length text } ∷ ts) place rest

-- why bytes are refused, and where: there are too many of them; or, after gaps and tokens, they show why
pub data IsRefused (bytes : List ℕ) : LexicalError → ℕ → Type 0 where
  too_long : MOST_BYTES < length bytes → IsRefused bytes E.TooLong MOST_BYTES
  shown : (ts : List Token) (place : ℕ) (rest : List ℕ) (e : LexicalError) (i : ℕ) → length bytes ≤ MOST_BYTES → CutTo 0 bytes ts place rest
      → Shows rest e i → IsRefused bytes e (place + i)

-- what is refused shows why
abbrev pub RefusedLaw : Type 0
RefusedLaw = (bytes : List ℕ) (e : LexicalError) (at : ℕ) → tokens bytes ≡ Err (e, at) → IsRefused bytes e at

-- and what shows why is refused, for that reason and there alone
abbrev pub RefusalLaw : Type 0
RefusalLaw = (bytes : List ℕ) (e : LexicalError) (at : ℕ) → IsRefused bytes e at → tokens bytes ≡ Err (e, at)

-- and the bytes before the place at which they show it are a program of those tokens
abbrev pub BeforeLaw : Type 0
BeforeLaw = (bytes : List ℕ) (ts : List Token) (place : ℕ) (rest : List ℕ) → length bytes ≤ MOST_BYTES → CutTo 0 bytes ts place rest
    → tokens (take place bytes) ≡ Ok (record { list = ts; length = place })

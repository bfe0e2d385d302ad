-- The tokens of bytes, with blanks and comments between them: each is the longest front of the bytes left that has the
-- form of a token.
use Rattle.std.specs.Prelude.{◌≡◌, ◌<◌, ◌≤◌, ℕ, zero, suc, ◌+◌, ◌-◌, ◌==◌, ◌&&◌, nat_lt, Bool, false, not, List, [], ◌∷◌, ◌++◌, length, take, drop, fold, Option, Some, None, option_map, unwrap_or, is_some, Result, Ok, Err, if◌then◌else◌}
use Rattle.std.specs.Bool.{then_some}
use Rattle.std.specs.List.{list_all, take_while, prefix_len}
use Rattle.spl_value.specs.declared.types.IntKind.{IntKind}
use Rattle.spl_value.specs.declared.types.IntKind.TheVariants.{I8, I16, I32, I64, U8, U16, U32, U64}
use Rattle.spl_value.specs.Values.{top}
use Rattle.spl_value.specs.Decimal.{is_digit, digit_step}
use Rattle.spl_tree.specs.declared.keyword.Keyword.{Keyword}
use Rattle.spl_tree.specs.declared.token.TokenKind.{TokenKind}
use Rattle.spl_tree.specs.declared.token.TokenKind.TheVariants as T
use Rattle.spl_tree.specs.declared.token.Token.{Token}
use Rattle.spl_tree.specs.declared.token.Tokens.{Tokens}
use Rattle.spl_tree.specs.declared.token.LexicalError.{LexicalError}
use Rattle.spl_tree.specs.declared.token.LexicalError.TheVariants as E
use Rattle.spl_tree.specs.declared.token.TheConstants.{MOST_BYTES}
use Rattle.spl_tree.specs.Bytes.{is_blank, is_letter, is_word_byte, is_quote, begins}
use Rattle.spl_tree.specs.Words.{symbol_of, keyword_of}

-- why bytes are no tokens, and the place, counted from the first of these bytes
abbrev pub Refusal : Type 0
Refusal = LexicalError × ℕ

-- Words

-- a letter or `_`, then letters, digits and `_`
abbrev pub is_word : List ℕ → Bool
is_word [] = false
is_word (b ∷ bs) = is_letter b && list_all is_word_byte bs

abbrev pub word_kind : List ℕ → Option Keyword → TokenKind
word_kind word None = T.Word word
word_kind word (Some k) = T.Keyword k

-- Numbers

abbrev pub digits : List ℕ → List ℕ
digits bs = take_while is_digit bs

-- what comes after the digits
abbrev pub suffix : List ℕ → List ℕ
suffix bs = drop (prefix_len is_digit bs) bs

-- `b`, `h`, `w` and `l` say the width, and 32 bits where there is none of them
abbrev pub width_kind : (tiny small middle wide : IntKind) → List ℕ → Option IntKind
width_kind tiny small middle wide [] = Some middle
width_kind tiny small middle wide (b ∷ []) =
    if b == 98 then Some tiny
    else (if b == 104 then Some small
    else (if b == 119 then Some middle
    else (if b == 108 then Some wide
    else None)))
width_kind tiny small middle wide (b ∷ c ∷ bs) = None

abbrev pub signed_kind : List ℕ → Option IntKind
signed_kind = width_kind I8 I16 I32 I64

abbrev pub unsigned_kind : List ℕ → Option IntKind
unsigned_kind = width_kind U8 U16 U32 U64

-- the type that a number's suffix says: `u` for unsigned, or `s` or nothing for signed, and then the
-- width
abbrev pub suffix_kind : List ℕ → Option IntKind
suffix_kind [] = Some I32
suffix_kind (b ∷ bs) =
    if b == 115 then signed_kind bs
    else (if b == 117 then unsigned_kind bs
    else signed_kind (b ∷ bs))

-- the number of the type, where it isn't too large for it
abbrev pub number_kind : ℕ → IntKind → Result TokenKind Refusal
number_kind n k = if nat_lt n (top k) then Ok (T.Number (record { kind = k; value = n })) else Err (E.BadNumber, 0)

-- Texts

-- whether bytes end with the first such quote, a backslash making the byte after it no quote; no
-- line feed stands before it
abbrev pub ends_text : (quote : ℕ) → (escaped : Bool) → List ℕ → Bool
ends_text quote escaped [] = false
ends_text quote escaped (b ∷ bs) =
    if b == 10 then false
    else (if escaped then ends_text quote false bs
    else (if b == quote then length bs == 0
    else ends_text quote (b == 92) bs))

-- the byte that a backslash and this byte stand for: `"`, `'`, `\`, a line feed, a tab, a carriage
-- return
abbrev pub escape : ℕ → Option ℕ
escape b =
    if b == 34 then Some 34
    else (if b == 39 then Some 39
    else (if b == 92 then Some 92
    else (if b == 110 then Some 10
    else (if b == 116 then Some 9
    else (if b == 114 then Some 13
    else None)))))

abbrev pub onto : ℕ → Result (List ℕ) ℕ → Result (List ℕ) ℕ
onto b (Ok bs) = Ok (b ∷ bs)
onto b (Err at) = Err at

abbrev pub onto_escape : (at : ℕ) → Option ℕ → Result (List ℕ) ℕ → Result (List ℕ) ℕ
onto_escape at None rest = Err at
onto_escape at (Some b) rest = onto b rest

-- bytes with their escapes replaced, or the place of the first backslash that begins none, where
-- the bytes begin at a place
abbrev pub unescaped : (at : ℕ) → List ℕ → Result (List ℕ) ℕ
unescaped at [] = Ok []
unescaped at (b ∷ []) = if b == 92 then Err at else Ok (b ∷ [])
unescaped at (b ∷ c ∷ bs) =
    if b == 92 then onto_escape at (escape c) (unescaped (at + 2) bs) else onto b (unescaped (at + 1) (c ∷ bs))

-- what stands between the quotes
abbrev pub between_quotes : List ℕ → List ℕ
between_quotes bs = take (length bs - 2) (drop 1 bs)

abbrev pub text_kind : Result (List ℕ) ℕ → Result TokenKind Refusal
text_kind (Ok bs) = Ok (T.Text bs)
text_kind (Err at) = Err (E.BadByte, at)

-- The form of a token

-- the token that these bytes are, all of them; or why bytes of a token's form are refused, as a number too large or a
-- text with a bad escape, and at which of them; None where they have the form of no token
abbrev pub form : List ℕ → Option (Result TokenKind Refusal)
form [] = None
form (b ∷ bs) =
    if is_letter b then option_map (λ word. Ok (word_kind word (keyword_of word)))
    (then_some (is_word (b ∷ bs)) (b ∷ bs))
    else (if is_digit b then option_map (number_kind (fold digit_step 0 (digits (b ∷ bs))))
    (suffix_kind (suffix (b ∷ bs)))
    else (if b == 36 then option_map (λ word. Ok (T.Dollar word)) (then_some (is_word bs) bs)
    else (if is_quote b then option_map (λ text. text_kind (unescaped 1 (between_quotes text)))
    (then_some (ends_text b false bs) (b ∷ bs))
    else option_map (λ s. Ok (T.Symbol s)) (symbol_of (b ∷ bs)))))

abbrev pub is_formed : List ℕ → Bool
is_formed bs = is_some (form bs)

abbrev pub kind_of : List ℕ → Result TokenKind Refusal
kind_of bs = unwrap_or (form bs) (Err (E.BadByte, 0))

-- the length of the longest front of at most this number of bytes that has the form of a token; 0 where
-- there is none
abbrev pub longest_front : ℕ → List ℕ → ℕ
longest_front zero bs = 0
longest_front (suc n) bs = if is_formed (take (suc n) bs) then suc n else longest_front n bs

-- What stands at the front

pub data Front : Type 0 where
  -- a token of this number of bytes
  Take : TokenKind → ℕ → Front
  -- a gap of this number of bytes; none at the end of the bytes
  Pass : ℕ → Front
  -- nothing that may stand there: why, and at which byte from here
  Refuse : LexicalError → ℕ → Front

-- what stands at the front where the first n bytes have the form of a token: the token, or why not
abbrev pub as_front : ℕ → Result TokenKind Refusal → Front
as_front n (Ok k) = Take k n
as_front n (Err r) = Refuse r.0 r.1

-- whether the first n bytes are a number with a letter, digit or `_` after it
abbrev pub is_run_on : List ℕ → ℕ → Bool
is_run_on bs n = begins is_digit bs && begins is_word_byte (drop n bs)

abbrev pub token_front : List ℕ → ℕ → Front
token_front bs zero = Refuse (if begins is_quote bs then E.OpenText else E.BadByte) 0
token_front bs (suc n) =
    if is_run_on bs (suc n) then Refuse E.BadNumber 0 else as_front (suc n) (kind_of (take (suc n) bs))

-- how many bytes there are up to the first `*/`, and with it
abbrev pub comment_length : List ℕ → Option ℕ
comment_length [] = None
comment_length (b ∷ bs) = if (b == 42) && begins (λ c. c == 47) bs then Some 2 else option_map suc (comment_length bs)

abbrev pub comment_front : Option ℕ → Front
comment_front None = Refuse E.OpenComment 0
comment_front (Some n) = Pass (n + 2)

-- what stands at the front of bytes: a blank; a comment, `//` up to the end of the line or `/*` up to the next `*/`; or
-- else a token or a refusal
unfoldable pub front : List ℕ → Front
front [] = Pass 0
front (b ∷ bs) =
    if is_blank b then Pass 1
    else (if (b == 47) && begins (λ c. c == 47) bs then Pass (prefix_len (λ c. not (c == 10)) (drop 1 bs) + 2)
    else (if (b == 47) && begins (λ c. c == 42) bs then comment_front (comment_length (drop 1 bs))
    else token_front (b ∷ bs) (longest_front (length (b ∷ bs)) (b ∷ bs))))

-- The tokens

-- bytes from a place on are these tokens, and then end or have this refusal: none are left, or a gap, a token or a
-- refusal stands at their front
pub data Lexes : (at : ℕ) → List ℕ → List Token → Option Refusal → Type 0 where
  done : (at : ℕ) → Lexes at [] [] None
  gap : (at n : ℕ) (bs : List ℕ) (ts : List Token) (stop : Option Refusal) → front bs ≡ Pass n
      → Lexes (at + n) (drop n bs) ts stop
      → Lexes at bs ts stop
  token : (at n : ℕ) (k : TokenKind) (bs : List ℕ) (ts : List Token) (stop : Option Refusal) → front bs ≡ Take k n
      → Lexes (at + n) (drop n bs) ts stop → Lexes at bs (record { kind = k; start = at; end = at + n } ∷ ts) stop
  refusal : (at i : ℕ) (e : LexicalError) (bs : List ℕ) → front bs ≡ Refuse e i → Lexes at bs [] (Some (e, at + i))

-- the tokens of a program, or its first refusal; a program that is too long has no other one
pub data IsLexed (bytes : List ℕ) : Result Tokens Refusal → Type 0 where
  too_long : MOST_BYTES < length bytes → IsLexed bytes (Err (E.TooLong, MOST_BYTES))
  whole : (ts : List Token) → length bytes ≤ MOST_BYTES → Lexes 0 bytes ts None
      → IsLexed bytes (Ok (record { list = ts; length = length bytes }))
  refused : (ts : List Token) (r : Refusal) → length bytes ≤ MOST_BYTES → Lexes 0 bytes ts (Some r)
      → IsLexed bytes (Err r)

-- The same, computed

abbrev pub Lexed : Type 0
Lexed = Result (List Token) Refusal

abbrev pub with_front : List Token → Lexed → Lexed
with_front ts (Ok us) = Ok (ts ++ us)
with_front ts (Err r) = Err r

-- by what stands at a place, where go n gives the tokens after n bytes
abbrev pub by_front : Front → (at : ℕ) → (go : ℕ → Lexed) → Lexed
by_front (Take k n) at go = with_front (record { kind = k; start = at; end = at + n } ∷ []) (go n)
by_front (Pass n) at go = go n
by_front (Refuse e i) at go = Err (e, at + i)

-- the tokens of bytes that begin at a place, where the first `passed` bytes are passed over
abbrev pub tokens_from : (passed at : ℕ) → List ℕ → Lexed
tokens_from passed at [] = Ok []
tokens_from zero at (b ∷ bs) = by_front (front (b ∷ bs)) at (λ n. tokens_from (n - 1) (at + 1) bs)
tokens_from (suc passed) at (b ∷ bs) = tokens_from passed (at + 1) bs

abbrev pub with_length : (length : ℕ) → Lexed → Result Tokens Refusal
with_length n (Ok ts) = Ok (record { list = ts; length = n })
with_length n (Err r) = Err r

-- the result of a program (`IsLexed`)
unfoldable pub tokens : List ℕ → Result Tokens Refusal
tokens bytes =
    if nat_lt MOST_BYTES (length bytes) then Err (E.TooLong, MOST_BYTES)
    else with_length (length bytes) (tokens_from 0 0 bytes)

-- How the lexer finds what stands at the front: each length by one walk over the bytes.
use Rattle.std.specs.Prelude.{ℕ, suc, ◌+◌, ◌-◌, ◌==◌, Bool, false, List, [], ◌∷◌, take, Option, Some, None, option_map, Result, Ok, Err, if◌then◌else◌}
use Rattle.spl_value.specs.declared.types.IntKind.{IntKind}
use Rattle.spl_value.specs.declared.types.IntKind.TheVariants.{I8, I16, I32, I64, U8, U16, U32, U64}
use Rattle.spl_tree.specs.declared.symbol.Symbol.{Symbol}
use Rattle.spl_tree.specs.declared.token.TokenKind.TheVariants as T
use Rattle.spl_tree.specs.declared.token.LexicalError.TheVariants as E
use Rattle.spl_tree.specs.Words.{symbol_of}
use Rattle.spl_tree.specs.Tokens.{Front, Take, Pass, Refuse, as_front, text_kind, unescaped}
use Rattle.spl_lexer.specs.declared.front.Scanned.{Scanned}
use Rattle.spl_lexer.specs.declared.front.Scanned.TheVariants as A
use Rattle.spl_lexer.specs.declared.texts.Unescaped.{Unescaped}
use Rattle.spl_lexer.specs.declared.texts.Unescaped.TheVariants as U

-- what the lexer found, as the definition's front
abbrev pub front_of : Scanned → Front
front_of (A.Token k n) = Take k n
front_of (A.Gap n) = Pass n
front_of (A.Refused e at) = Refuse e at

-- what the lexer made of the bytes between quotes
abbrev pub unescaped_of : Unescaped → Result (List ℕ) ℕ
unescaped_of (U.Bytes text) = Ok text
unescaped_of (U.BadEscape at) = Err at

-- how many bytes there are up to the first quote that no backslash makes a byte of the text, and
-- with it; none where a line feed or the end comes first
abbrev pub text_length : (quote : ℕ) → (escaped : Bool) → List ℕ → Option ℕ
text_length quote escaped [] = None
text_length quote escaped (b ∷ bs) =
    if b == 10 then None
    else (if escaped then option_map suc (text_length quote false bs)
    else (if b == quote then Some 1
    else option_map suc (text_length quote (b == 92) bs)))

-- the kind that the letter at the front says, and the number of letters, by the kind of each width
abbrev pub width_ahead : (tiny small middle wide : IntKind) → List ℕ → IntKind × ℕ
width_ahead tiny small middle wide [] = (middle, 0)
width_ahead tiny small middle wide (b ∷ bs) =
    if b == 98 then (tiny, 1)
    else (if b == 104 then (small, 1)
    else (if b == 119 then (middle, 1)
    else (if b == 108 then (wide, 1)
    else (middle, 0))))

abbrev pub one_more : IntKind × ℕ → IntKind × ℕ
one_more found = (found.0, found.1 + 1)

-- the kind that the longest suffix at the front says, and its length
abbrev pub suffix_ahead : List ℕ → IntKind × ℕ
suffix_ahead [] = (I32, 0)
suffix_ahead (b ∷ bs) =
    if b == 115 then one_more (width_ahead I8 I16 I32 I64 bs)
    else (if b == 117 then one_more (width_ahead U8 U16 U32 U64 bs)
    else width_ahead I8 I16 I32 I64 (b ∷ bs))

-- the text after a quote, by its length
abbrev pub text_ahead : List ℕ → Option ℕ → Front
text_ahead bs None = Refuse E.OpenText 0
text_ahead bs (Some n) = as_front (n + 1) (text_kind (unescaped 1 (take (n - 1) bs)))

-- a symbol of one byte, or a byte that begins no token
abbrev pub single_ahead : Option Symbol → Front
single_ahead None = Refuse E.BadByte 0
single_ahead (Some s) = Take (T.Symbol s) 1

-- a symbol of two bytes, or else one of one byte
abbrev pub symbol_ahead : List ℕ → Option Symbol → Front
symbol_ahead bs None = single_ahead (symbol_of (take 1 bs))
symbol_ahead bs (Some s) = Take (T.Symbol s) 2

-- the symbol that the first two bytes are
abbrev pub double_of : List ℕ → Option Symbol
double_of [] = None
double_of (b ∷ []) = None
double_of (b ∷ c ∷ bs) = symbol_of (b ∷ c ∷ [])

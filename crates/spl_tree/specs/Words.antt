-- The texts of symbols and of reserved words.
use Rattle.std.specs.Prelude.{ℕ, List, [], ◌∷◌, Option, find, codes}
use Rattle.std.specs.Str.{bytes_eq}
use Rattle.spl_value.specs.declared.types.IntKind.{IntKind}
use Rattle.spl_value.specs.declared.types.IntKind.TheVariants.{I8, I16, I32, I64, U8, U16, U32, U64}
use Rattle.spl_tree.specs.declared.keyword.TheConstants.{KEYWORDS}
use Rattle.spl_tree.specs.declared.keyword.Keyword.{Keyword}
use Rattle.spl_tree.specs.declared.keyword.Keyword.TheVariants as K
use Rattle.spl_tree.specs.declared.keyword.LeftOut.{LeftOut}
use Rattle.spl_tree.specs.declared.keyword.LeftOut.TheVariants as L
use Rattle.spl_tree.specs.declared.symbol.Symbol.{Symbol}
use Rattle.spl_tree.specs.declared.symbol.Symbol.TheVariants as S

abbrev pub symbol_text : Symbol → List ℕ
symbol_text S.LeftParen = codes "("
symbol_text S.RightParen = codes ")"
symbol_text S.LeftBracket = codes "["
symbol_text S.RightBracket = codes "]"
symbol_text S.LeftBrace = codes "{"
symbol_text S.RightBrace = codes "}"
symbol_text S.Comma = codes ","
symbol_text S.Semicolon = codes ";"
symbol_text S.Colon = codes ":"
symbol_text S.Dot = codes "."
symbol_text S.Assign = codes "="
symbol_text S.Equal = codes "=="
symbol_text S.NotEqual = codes "!="
symbol_text S.Less = codes "<"
symbol_text S.LessOrEqual = codes "<="
symbol_text S.Greater = codes ">"
symbol_text S.GreaterOrEqual = codes ">="
symbol_text S.Plus = codes "+"
symbol_text S.Minus = codes "-"
symbol_text S.Star = codes "*"
symbol_text S.Slash = codes "/"
symbol_text S.Percent = codes "%"
symbol_text S.Exclamation = codes "!"
symbol_text S.Tilde = codes "~"
symbol_text S.Ampersand = codes "&"
symbol_text S.DoubleAmpersand = codes "&&"
symbol_text S.Caret = codes "^"
symbol_text S.Pipe = codes "|"
symbol_text S.DoublePipe = codes "||"
symbol_text S.Question = codes "?"
symbol_text S.PlusAssign = codes "+="
symbol_text S.MinusAssign = codes "-="
symbol_text S.StarAssign = codes "*="
symbol_text S.SlashAssign = codes "/="
symbol_text S.PercentAssign = codes "%="

abbrev pub symbols : List Symbol
symbols =
    S.LeftParen ∷ S.RightParen ∷ S.LeftBracket ∷ S.RightBracket ∷ S.LeftBrace ∷ S.RightBrace ∷
    S.Comma ∷ S.Semicolon ∷ S.Colon ∷ S.Dot ∷ S.Assign ∷ S.Equal ∷ S.NotEqual ∷ S.Less ∷
    S.LessOrEqual ∷ S.Greater ∷ S.GreaterOrEqual ∷ S.Plus ∷ S.Minus ∷ S.Star ∷ S.Slash ∷
    S.Percent ∷ S.Exclamation ∷ S.Tilde ∷ S.Ampersand ∷ S.DoubleAmpersand
    ∷ S.Caret ∷ S.Pipe ∷ S.DoublePipe ∷ S.Question ∷
    S.PlusAssign ∷ S.MinusAssign ∷ S.StarAssign ∷ S.SlashAssign ∷ S.PercentAssign ∷ []

-- the symbol that these bytes, all of them, are
abbrev pub symbol_of : List ℕ → Option Symbol
symbol_of text = find (λ s. bytes_eq (symbol_text s) text) symbols

abbrev pub int_word : IntKind → List ℕ
int_word I8 = codes "int8"
int_word I16 = codes "int16"
int_word I32 = codes "int32"
int_word I64 = codes "int64"
int_word U8 = codes "uint8"
int_word U16 = codes "uint16"
int_word U32 = codes "uint32"
int_word U64 = codes "uint64"

abbrev pub left_out_word : LeftOut → List ℕ
left_out_word L.Float32 = codes "float32"
left_out_word L.Float64 = codes "float64"
left_out_word L.Decimal32 = codes "decimal32"
left_out_word L.Decimal64 = codes "decimal64"
left_out_word L.Decimal128 = codes "decimal128"
left_out_word L.Complex32 = codes "complex32"
left_out_word L.Complex64 = codes "complex64"
left_out_word L.Timestamp = codes "timestamp"
left_out_word L.Ustring = codes "ustring"
left_out_word L.Blob = codes "blob"
left_out_word L.Xml = codes "xml"
left_out_word L.Enum = codes "enum"
left_out_word L.Optional = codes "optional"
left_out_word L.Set = codes "set"

abbrev pub keyword_word : Keyword → List ℕ
keyword_word K.Namespace = codes "namespace"
keyword_word K.Type = codes "type"
keyword_word K.Composite = codes "composite"
keyword_word K.Public = codes "public"
keyword_word K.Output = codes "output"
keyword_word K.Input = codes "input"
keyword_word K.Param = codes "param"
keyword_word K.Expression = codes "expression"
keyword_word K.Graph = codes "graph"
keyword_word K.Config = codes "config"
keyword_word K.Logic = codes "logic"
keyword_word K.State = codes "state"
keyword_word K.OnTuple = codes "onTuple"
keyword_word K.OnPunct = codes "onPunct"
keyword_word K.Window = codes "window"
keyword_word K.Stream = codes "stream"
keyword_word K.As = codes "as"
keyword_word K.List = codes "list"
keyword_word K.Map = codes "map"
keyword_word K.Tuple = codes "tuple"
keyword_word K.Boolean = codes "boolean"
keyword_word K.Rstring = codes "rstring"
keyword_word (K.Int kind) = int_word kind
keyword_word K.Void = codes "void"
keyword_word K.Mutable = codes "mutable"
keyword_word K.If = codes "if"
keyword_word K.Else = codes "else"
keyword_word K.While = codes "while"
keyword_word K.For = codes "for"
keyword_word K.In = codes "in"
keyword_word K.Break = codes "break"
keyword_word K.Continue = codes "continue"
keyword_word K.Return = codes "return"
keyword_word K.Submit = codes "submit"
keyword_word K.True = codes "true"
keyword_word K.False = codes "false"
keyword_word (K.LeftOut kind) = left_out_word kind

-- the reserved word that these bytes, all of them, are
abbrev pub keyword_of : List ℕ → Option Keyword
keyword_of word = find (λ k. bytes_eq (keyword_word k) word) KEYWORDS

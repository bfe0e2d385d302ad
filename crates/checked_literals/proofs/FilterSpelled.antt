-- How the tokens of the first program spell it.
use Rattle.std.specs.Prelude.{◌≡◌, ◌+◌, ℕ, List, [], ◌∷◌, ◌++◌, None, codes}
use Rattle.std.proofs.Common.{ap, refl}
use Rattle.spl_value.specs.declared.types.IntKind.TheVariants as N
use Rattle.spl_tree.specs.declared.expression.BinaryOperator.TheVariants as B
use Rattle.spl_tree.specs.declared.expression.ExprKind.TheVariants as X
use Rattle.spl_tree.specs.declared.keyword.Keyword.{Keyword}
use Rattle.spl_tree.specs.declared.keyword.Keyword.TheVariants as K
use Rattle.spl_tree.specs.declared.symbol.Symbol.{Symbol}
use Rattle.spl_tree.specs.declared.symbol.Symbol.TheVariants as S
use Rattle.spl_tree.specs.declared.token.Number.{Number}
use Rattle.spl_tree.specs.declared.token.Token.{Token}
use Rattle.spl_tree.specs.declared.token.TokenKind.{TokenKind}
use Rattle.spl_tree.specs.declared.token.TokenKind.TheVariants as T
use Rattle.spl_tree.specs.declared.unit.Parameter.{Parameter}
use Rattle.spl_tree.specs.Trees.{Expr, placed}
use Rattle.spl_tree.specs.spellings.Grammar.{At, Primary, Spells, plain, tighter, unary, operand, primary, name, literal, number, text, binary, first_item}
use Rattle.spl_tree.proofs.UnitSpellings.{named}
use Rattle.spl_tree.specs.Operators.{binary_of}
use Rattle.spl_tree.specs.spellings.Phrases as R
use Rattle.spl_tree.specs.spellings.StatementGrammar as Q
use Rattle.spl_tree.specs.spellings.TypeGrammar as Y
use Rattle.spl_tree.specs.spellings.UnitGrammar as U
use Rattle.checked_literals.specs.examples.Filtered.{condition, filter, filtered, sink, source}
use Rattle.checked_literals.specs.examples.Shapes.{attribute_at, file_parameters, int64_at, output_of, parameter_at, port_at, with_parameters}

-- ---- tokens

-- a token of a kind from the byte s on, of `length` bytes
abbrev token : TokenKind → ℕ → ℕ → Token
token kind s length = record { kind = kind; start = s; end = s + length }

abbrev word : Keyword → ℕ → ℕ → Token
word k s length = token (T.Keyword k) s length

abbrev sign : Symbol → ℕ → Token
sign x s = token (T.Symbol x) s 1

-- ---- expressions

at_two : (e : Expr) (a : List Token) → Primary e a → At 2 e a
at_two e a p = tighter 1 _ _ (tighter 0 _ _ (unary _ _ (operand e a (primary e a p))))

spells : (e : Expr) (a : List Token) → At 3 e a → Spells e a
spells e a p = plain _ _ (tighter 8 _ _ (tighter 7 _ _ (tighter 6 _ _ (tighter 5 _ _ (tighter 4 _ _ (tighter 3 _ _ p))))))

text_alone : (t : Token) (bytes : List ℕ) → t.kind ≡ T.Text bytes → Spells (placed t.start (X.Text bytes)) (t ∷ [])
text_alone t bytes e = spells _ _ (tighter 2 _ _ (at_two _ _ (literal t (X.Text bytes) (text t bytes e))))

-- a name, `>` and a number
greater : (t s u : Token) (n : List ℕ) (k : Number) → t.kind ≡ T.Word n → s.kind ≡ T.Symbol S.Greater → u.kind ≡ T.Number k
    → Spells (placed t.start (X.Binary B.Greater (placed t.start (X.Name n)) (placed u.start (X.Number k)))) (t ∷ s ∷ u ∷ [])
greater t s u n k of_name of_sign of_number =
    spells _ _ (binary 2 _ _ B.Greater s (t ∷ []) (u ∷ []) (tighter 2 _ _ (at_two _ _ (name t n of_name))) (ap binary_of of_sign) refl
    (at_two _ _ (literal u (X.Number k) (number u k of_number))))

-- ---- parts

abbrev word_token : List ℕ → ℕ → ℕ → Token
word_token n s length = token (T.Word n) s length

-- int64 price
abbrev price : ℕ → ℕ → List Token
price s at = word (K.Int N.I64) s 5 ∷ word_token (codes "price") at 5 ∷ []

-- stream<int64 price>
abbrev stream : ℕ → List Token
stream s = word K.Stream s 6 ∷ sign S.Less (s + 6) ∷ (price (s + 7) (s + 13) ++ sign S.Greater (s + 18) ∷ [])

spells_stream : (s : ℕ) (n : List ℕ) → U.SpellsOutputStream (output_of (s + 7) (attribute_at (int64_at (s + 7)) (s + 13) (codes "price") ∷ []) (s + 20) n)
    (stream s ++ word_token n (s + 20) 1 ∷ [])
spells_stream s n =
    U.output _ (word_token n (s + 20) 1) n (stream s)
    (U.stream (word K.Stream s 6) (sign S.Less (s + 6)) (sign S.Greater (s + 18)) _ (price (s + 7) (s + 13)) refl refl
    (Y.attributes _ _ (price (s + 7) (s + 13))
    (Y.first_attribute _ (word_token (codes "price") (s + 13) 5) (codes "price") (word (K.Int N.I64) (s + 7) 5 ∷ []) (Y.int (word (K.Int N.I64) (s + 7) 5) N.I64 refl) refl))
    refl)
    refl

spells_port : (s : ℕ) (n : List ℕ) → R.Listed S.Semicolon U.SpellsInput (port_at s n ∷ []) (word_token n s 1 ∷ [])
spells_port s n =
    R.some _ _ (R.first _ _ (U.input _ None (word_token n s 1 ∷ []) [] (R.first _ _ (U.name (word_token n s 1) n refl)) U.no_alias))

-- a parameter with one value
spells_parameter : (n : List ℕ) (s length colon semicolon : ℕ) (e : Expr) (a : List Token) → Spells e a
    → U.SpellsParameter (parameter_at s n e) (word_token n s length ∷ sign S.Colon colon ∷ (a ++ sign S.Semicolon semicolon ∷ []))
spells_parameter n s length colon semicolon e a value =
    U.parameter (word_token n s length) (sign S.Colon colon) (sign S.Semicolon semicolon) n _ a refl refl (first_item _ _ value) refl

-- parameters alone between braces
spells_clauses : (s param end : ℕ) (ps : List Parameter) (a : List Token) → R.Row U.SpellsParameter ps a
    → U.SpellsEnd (with_parameters ps) (sign S.LeftBrace s ∷ ([] ++ ([] ++ ((word K.Param param 5 ∷ a) ++ ([] ++ []))) ++ sign S.RightBrace end ∷ []))
spells_clauses s param end ps a row =
    U.in_braces (sign S.LeftBrace s) (sign S.RightBrace end) _ _ refl
    (U.clauses None None ps None [] [] [] (word K.Param param 5 ∷ a) [] [] U.no_logic U.absent (U.clause (word K.Param param 5) ps a refl row) U.absent U.no_clause)
    refl

-- file: ".."; format: csv;
abbrev file_tokens : ℕ → List ℕ → List Token
file_tokens s bytes = word_token (codes "file") (s + 8) 4 ∷ sign S.Colon (s + 12) ∷ token (T.Text bytes) (s + 14) 7 ∷ sign S.Semicolon (s + 21) ∷ []

abbrev format_tokens : ℕ → List Token
format_tokens s = word_token (codes "format") (s + 23) 6 ∷ sign S.Colon (s + 29) ∷ word_token (codes "csv") (s + 31) 3 ∷ sign S.Semicolon (s + 34) ∷ []

spells_file : (s : ℕ) (bytes : List ℕ) → R.Row U.SpellsParameter (file_parameters (s + 8) (s + 14) bytes (s + 23) (s + 31)) (file_tokens s bytes ++ format_tokens s)
spells_file s bytes =
    R.more _ _ (file_tokens s bytes) (format_tokens s)
    (R.more [] _ [] (file_tokens s bytes) R.none
    (spells_parameter (codes "file") (s + 8) 4 (s + 12) (s + 21) _ (token (T.Text bytes) (s + 14) 7 ∷ []) (text_alone (token (T.Text bytes) (s + 14) 7) bytes refl)))
    (spells_parameter (codes "format") (s + 23) 6 (s + 29) (s + 34) _ (word_token (codes "csv") (s + 31) 3 ∷ []) (named (word_token (codes "csv") (s + 31) 3) (codes "csv") refl))

-- { param file: ".."; format: csv; }
abbrev file_clauses : ℕ → List ℕ → List Token
file_clauses s bytes = sign S.LeftBrace s ∷ ((word K.Param (s + 2) 5 ∷ (file_tokens s bytes ++ format_tokens s)) ++ sign S.RightBrace (s + 36) ∷ [])

-- ---- invocations

abbrev source_tokens : List Token
source_tokens =
    (stream 29 ++ word_token (codes "T") 49 1 ∷ [])
    ++ sign S.Assign 51 ∷ word_token (codes "FileSource") 53 10 ∷ sign S.LeftParen 63 ∷ ([] ++ sign S.RightParen 64 ∷ file_clauses 66 (codes "t.csv"))

spells_source : U.SpellsInvocation source source_tokens
spells_source =
    U.invocation 29 _ None (sign S.Assign 51) (word_token (codes "FileSource") 53 10) (sign S.LeftParen 63) (sign S.RightParen 64) (codes "FileSource") [] _
    (stream 29 ++ word_token (codes "T") 49 1 ∷ []) [] (file_clauses 66 (codes "t.csv"))
    (U.one_stream _ None (stream 29 ++ word_token (codes "T") 49 1 ∷ []) [] (spells_stream 29 (codes "T")) U.no_alias)
    (Q.begins (word K.Stream 29 6) _) refl refl refl R.empty refl (spells_clauses 66 68 102 _ _ (spells_file 66 (codes "t.csv")))

-- filter: price > 10l;
abbrev ten : Number
ten = record { kind = N.I64; value = 10 }

abbrev condition_tokens : List Token
condition_tokens = word_token (codes "price") 158 5 ∷ sign S.Greater 164 ∷ token (T.Number ten) 166 3 ∷ []

abbrev filter_tokens : List Token
filter_tokens =
    (stream 108 ++ word_token (codes "B") 128 1 ∷ [])
    ++ sign S.Assign 130 ∷ word_token (codes "Filter") 132 6 ∷ sign S.LeftParen 138 ∷ (word_token (codes "T") 139 1 ∷ []) ++ sign S.RightParen 140 ∷ sign S.LeftBrace 142
    ∷ ((word K.Param 144 5 ∷ word_token (codes "filter") 150 6 ∷ sign S.Colon 156 ∷ (condition_tokens ++ sign S.Semicolon 169 ∷ [])) ++ sign S.RightBrace 171 ∷ [])

spells_filter : U.SpellsInvocation filter filter_tokens
spells_filter =
    U.invocation 108 _ None (sign S.Assign 130) (word_token (codes "Filter") 132 6) (sign S.LeftParen 138) (sign S.RightParen 140) (codes "Filter") _ _
    (stream 108 ++ word_token (codes "B") 128 1 ∷ []) (word_token (codes "T") 139 1 ∷ []) _
    (U.one_stream _ None (stream 108 ++ word_token (codes "B") 128 1 ∷ []) [] (spells_stream 108 (codes "B")) U.no_alias)
    (Q.begins (word K.Stream 108 6) _) refl refl refl (spells_port 139 (codes "T")) refl
    (spells_clauses 142 144 171 _ _ (R.more [] _ [] _ R.none
    (spells_parameter (codes "filter") 150 6 156 169 condition condition_tokens
    (greater (word_token (codes "price") 158 5) (sign S.Greater 164) (token (T.Number ten) 166 3) (codes "price") ten refl refl refl))))

abbrev alias_tokens : List Token
alias_tokens = word K.As 180 2 ∷ word_token (codes "Out") 183 3 ∷ []

abbrev sink_tokens : List Token
sink_tokens =
    (sign S.LeftParen 177 ∷ sign S.RightParen 178 ∷ alias_tokens)
    ++ sign S.Assign 187 ∷ word_token (codes "FileSink") 189 8 ∷ sign S.LeftParen 197
    ∷ ((word_token (codes "B") 198 1 ∷ []) ++ sign S.RightParen 199 ∷ file_clauses 201 (codes "o.csv"))

spells_sink : U.SpellsInvocation sink sink_tokens
spells_sink =
    U.invocation 177 [] _ (sign S.Assign 187) (word_token (codes "FileSink") 189 8) (sign S.LeftParen 197) (sign S.RightParen 199) (codes "FileSink") _ _
    (sign S.LeftParen 177 ∷ sign S.RightParen 178 ∷ alias_tokens) (word_token (codes "B") 198 1 ∷ []) (file_clauses 201 (codes "o.csv"))
    (U.no_stream (sign S.LeftParen 177) (sign S.RightParen 178) _ alias_tokens refl refl (U.alias (word K.As 180 2) (word_token (codes "Out") 183 3) (codes "Out") refl refl))
    (Q.begins (sign S.LeftParen 177) _) refl refl refl (spells_port 198 (codes "B")) refl (spells_clauses 201 203 237 _ _ (spells_file 201 (codes "o.csv")))

-- ---- the whole

abbrev graph : List Token
graph = source_tokens ++ filter_tokens ++ sink_tokens

pub spells_filtered : U.SpellsUnit filtered (word K.Composite 0 9 ∷ word_token (codes "Main") 10 4 ∷ sign S.LeftBrace 15 ∷ ((word K.Graph 19 5 ∷ graph) ++ sign S.RightBrace 239 ∷ []))
spells_filtered =
    U.unit _ [] _ U.no_namespace (R.more [] _ [] _ R.none (U.a_composite _ _
    (U.composite (word K.Composite 0 9) (word_token (codes "Main") 10 4) (sign S.LeftBrace 15) (sign S.RightBrace 239) (codes "Main") [] [] [] [] _ [] [] [] [] []
    (word K.Graph 19 5 ∷ graph) []
    U.not_public refl refl U.no_ports refl U.no_clause U.no_clause
    (U.clause (word K.Graph 19 5) _ graph refl
    (R.more _ _ (source_tokens ++ filter_tokens) sink_tokens (R.more _ _ source_tokens filter_tokens (R.more [] _ [] source_tokens R.none spells_source) spells_filter) spells_sink))
    U.no_clause refl)))

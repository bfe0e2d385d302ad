-- The value at the front of a text, and what is behind it. No blank stands before it.
use Rattle.std.specs.Prelude.{◌≡◌, ◌≤◌, ◌==◌, zero, suc, ℕ, Bool, true, false, codes, List, [], ◌∷◌, ◌++◌, length, take, drop, Option, Some, None, option_map, if◌then◌else◌}
use Rattle.std.specs.Option.{option_and_then, option_map_or}
use Rattle.std.specs.List.{prefix_len}
use Rattle.spl_value.specs.declared.types.IntKind.{IntKind}
use Rattle.spl_value.specs.declared.types.Named.{Named}
use Rattle.spl_value.specs.declared.types.SplType.{SplType}
use Rattle.spl_value.specs.declared.types.SplType.TheOpen as T
use Rattle.spl_value.specs.declared.types.SplType.TheOpen.{SplType-F}
use Rattle.spl_value.specs.declared.types.SplType.TheFolds.{fold-SplType}
use Rattle.spl_value.specs.declared.types.SplType.TheViews.{out-SplType}
use Rattle.spl_value.specs.declared.value.Value.{Value}
use Rattle.spl_value.specs.declared.value.Value.TheVariants as V
use Rattle.spl_value.specs.Decimal.{integer_of}
use Rattle.spl_value.specs.Pairs.{pairs_put}
use Rattle.txt_format.specs.declared.reading.TxtRow.{TxtRow}
use Rattle.txt_format.specs.declared.reading.TxtRow.TheVariants as R
use Rattle.txt_format.specs.declared.bytes.Separator.{Separator}
use Rattle.txt_format.specs.declared.bytes.Separator.TheVariants as B
use Rattle.txt_format.specs.steps.Bytes.{past_blanks, past_byte, past_mark, past_name, is_part}

-- what was read, as something else
abbrev pub as_other : {A B : Type 0} → (A → B) → Option (A × List ℕ) → Option (B × List ℕ)
as_other f = option_map (λ r. (f r.0, r.1))

-- ---- integers, booleans, texts

abbrev pub read_int : IntKind → List ℕ → Option (Value × List ℕ)
read_int k bytes = option_map (λ n. (V.Int n, drop (prefix_len is_part bytes) bytes)) (integer_of k (take (prefix_len is_part bytes) bytes))

abbrev pub read_truth : List ℕ → Option (Value × List ℕ)
read_truth bytes =
    option_map_or (λ behind. Some (V.Bool true, behind))
    (past_name (codes "true") bytes)
    (option_map_or (λ behind. Some (V.Bool false, behind)) (past_name (codes "false") bytes) None)

-- what a byte behind a backslash stands for
abbrev pub meant : ℕ → Option ℕ
meant c =
    if c == 34 then Some 34
    else if c == 39 then Some 39
    else if c == 92 then Some 92
    else if c == 110 then Some 10
    else if c == 116 then Some 9
    else if c == 114 then Some 13
    else None

-- the bytes of a text up to its closing quote, behind those read so far, of which the last may be a backslash
abbrev pub read_inside : Bool → List ℕ → List ℕ → Option (List ℕ × List ℕ)
read_inside slash read [] = None
read_inside true read (b ∷ bytes) = option_and_then (λ m. read_inside false (read ++ m ∷ []) bytes) (meant b)
read_inside false read (b ∷ bytes) =
    if b == 34 then Some (read, bytes)
    else if b == 92 then read_inside true read bytes
    else if b == 10 then None
    else read_inside false (read ++ b ∷ []) bytes

abbrev pub read_text : List ℕ → Option (Value × List ℕ)
read_text bytes = option_and_then (λ behind. as_other V.Text (read_inside false [] behind)) (past_byte 34 bytes)

-- ---- lists, maps, tuples

-- what is behind a comma, with blanks around it, or behind the closing bracket, and whether it is a comma
abbrev pub past_separator : ℕ → List ℕ → Option (Bool × List ℕ)
past_separator close [] = None
past_separator close (b ∷ bytes) = if b == 44 then Some (true, past_blanks bytes) else if b == close then Some (false, bytes) else None

-- elements, at most n of them, up to the closing bracket, added to what is there
abbrev pub read_items : {A S : Type 0} → (List ℕ → Option (A × List ℕ)) → (S → A → S) → ℕ → ℕ → S → List ℕ → Option (S × List ℕ)
read_items f add close zero s bytes = None
read_items f add close (suc n) s bytes =
    option_and_then
    (λ r. option_and_then (λ q. if q.0 then read_items f add close n (add s r.0) q.1 else Some (add s r.0, q.1)) (past_separator close (past_blanks r.1)))
    (f bytes)

-- behind the opening bracket: the closing one, or elements
abbrev pub read_opened : {A S : Type 0} → (List ℕ → Option (A × List ℕ)) → (S → A → S) → ℕ → S → List ℕ → Option (S × List ℕ)
read_opened f add close s bytes = option_map_or (λ behind. Some (s, behind)) (past_byte close bytes) (read_items f add close (length bytes) s bytes)

-- what was found behind an element, and what is behind that
abbrev pub IsSeparator : Option (Bool × List ℕ) → List ℕ → Separator → Type 0
IsSeparator read line (B.Comma at) = (at ≤ length line) × (read ≡ Some (true, drop at line))
IsSeparator read line (B.Close at) = (at ≤ length line) × (read ≡ Some (false, drop at line))
IsSeparator read line B.Neither = read ≡ None

abbrev pub push : List Value → Value → List Value
push vs v = vs ++ v ∷ []

abbrev pub put : List (Value × Value) → Value × Value → List (Value × Value)
put ps p = pairs_put ps p.0 p.1

abbrev pub push_pair : List Value → Value × Value → List Value
push_pair vs p = push (push vs p.0) p.1

-- a key and its value
abbrev pub IsPairOf : List Value → Type 0
IsPairOf vs = (p : Value × Value) × (vs ≡ push_pair [] p)

-- the two are put, and no more there
abbrev pub IsPut : List (Value × Value) → List Value → List (Value × Value) → List Value → Type 0
IsPut pairs two now left = (left ≡ []) × ((p : Value × Value) → two ≡ push_pair [] p → now ≡ put pairs p)

-- a pair of a map
abbrev pub read_pair : (List ℕ → Option (Value × List ℕ)) → (List ℕ → Option (Value × List ℕ)) → List ℕ → Option ((Value × Value) × List ℕ)
read_pair key value bytes =
    option_and_then (λ r. option_and_then (λ behind. as_other (λ v. (r.0, v)) (value behind)) (past_mark 58 r.1)) (key bytes)

-- the text at the value of an attribute: a comma, unless the attribute is the first, its name and `=` come before it
abbrev pub past_equals : Bool → List ℕ → List ℕ → Option (List ℕ)
past_equals later name bytes =
    option_and_then (λ behind. option_and_then (past_mark 61) (past_name name behind)) (if later then past_mark 44 bytes else Some (past_blanks bytes))

-- the attributes of a schema, and the closing bracket
abbrev pub read_fields : {A : Type 0} → (A → List ℕ → Option (Value × List ℕ)) → Bool → List (Named A) → List Value → List ℕ → Option (List Value × List ℕ)
read_fields f later [] vs bytes = option_map (λ behind. (vs, behind)) (past_byte 125 (past_blanks bytes))
read_fields f later (a ∷ schema) vs bytes =
    option_and_then (λ behind. option_and_then (λ r. read_fields f true schema (push vs r.0) r.1) (f a.kind behind)) (past_equals later a.name bytes)

abbrev pub read_list : (List ℕ → Option (Value × List ℕ)) → List ℕ → Option (Value × List ℕ)
read_list element bytes =
    option_and_then (λ behind. as_other V.List (read_opened element push 93 [] (past_blanks behind))) (past_byte 91 bytes)

abbrev pub read_map : (List ℕ → Option ((Value × Value) × List ℕ)) → List ℕ → Option (Value × List ℕ)
read_map pair bytes =
    option_and_then (λ behind. as_other V.Map (read_opened pair put 125 [] (past_blanks behind))) (past_byte 123 bytes)

abbrev pub read_tuple : {A : Type 0} → (A → List ℕ → Option (Value × List ℕ)) → List (Named A) → List ℕ → Option (Value × List ℕ)
read_tuple f schema bytes = option_and_then (λ behind. as_other V.Tuple (read_fields f false schema [] behind)) (past_byte 123 bytes)

-- ---- any value

-- a value of a type, whose parts f reads
abbrev pub level_read : {A : Type 0} → (A → List ℕ → Option (Value × List ℕ)) → SplType-F A → List ℕ → Option (Value × List ℕ)
level_read f (T.Int k) bytes = read_int k bytes
level_read f T.Bool bytes = read_truth bytes
level_read f T.Text bytes = read_text bytes
level_read f (T.List t) bytes = read_list (f t) bytes
level_read f (T.Map k t) bytes = read_map (read_pair (f k) (f t)) bytes
level_read f (T.Tuple schema) bytes = read_tuple f schema bytes

abbrev pub read_value : SplType → List ℕ → Option (Value × List ℕ)
read_value = fold-SplType (List ℕ → Option (Value × List ℕ)) (level_read (λ g bytes. g bytes))

-- a pair of a map type
abbrev pub level_pair : SplType-F SplType → List ℕ → Option ((Value × Value) × List ℕ)
level_pair (T.Map k t) bytes = read_pair (read_value k) (read_value t) bytes
level_pair t bytes = None

abbrev pub read_pair_of : SplType → List ℕ → Option ((Value × Value) × List ℕ)
read_pair_of t = level_pair (out-SplType t)

-- ---- a line

-- nothing but blanks is behind the tuple
abbrev pub ended_row : Option (List Value × List ℕ) → List ℕ → TxtRow
ended_row None rest = R.Bad
ended_row (Some (vs, behind)) [] = R.Row vs
ended_row (Some (vs, behind)) (b ∷ bytes) = R.Bad

abbrev pub tuple_row : Option (List Value × List ℕ) → TxtRow
tuple_row None = R.Bad
tuple_row (Some r) = ended_row (Some r) (past_blanks r.1)

-- what a line without the blanks at its front gives
abbrev pub begun_row : List (Named SplType) → List ℕ → TxtRow
begun_row schema [] = R.Empty
begun_row schema (b ∷ bytes) = option_map_or (λ behind. tuple_row (read_fields read_value false schema [] behind)) (past_byte 123 (b ∷ bytes)) R.Bad

-- what a line gives
abbrev pub read_line : List (Named SplType) → List ℕ → TxtRow
read_line schema line = begun_row schema (past_blanks line)

-- The rows of a file by its lines.
use Rattle.std.proofs.Common.{ℕ, ◌+◌, ◌-◌, ◌≤◌, ◌==◌, Bool, true, false, cond, ◌&&◌, ◌||◌, List, [], ◌∷◌, ◌++◌, ◌≡◌, refl, sym, ap, ◌∙◌, append_assoc, map, length, None, arith}
use Rattle.std.specs.List.{All, cons_option, count_by, filter_map, flat_map, list_any, onto_first}
use Rattle.std.proofs.lemmas.Bool.{cond-false, le-ltb, or_parts}
use Rattle.std.proofs.lemmas.List.Elements.{All-head, All-tail}
use Rattle.std.proofs.lemmas.List.Sums.{sum_by-cons}
use Rattle.spl_value.specs.Script.{End, Failed}
use Rattle.spl_value.specs.declared.item.Item.{Item}
use Rattle.spl_value.specs.declared.item.Item.TheVariants as I
use Rattle.spl_value.specs.declared.item.FaultKind.TheVariants as K
use Rattle.spl_value.specs.declared.value.Value.{Value}
use Rattle.stream_model.specs.Rows.{Setting, Given, Row, Nothing, Bad, line_gives, line_items, checked_items, too_long, last_items, items_from, closing, source_fault}
use Rattle.stream_model.specs.parts.Rows.{pieces}
use Rattle.stream_model.proofs.parts.Rows.{cut_short}
use Rattle.stream_model.specs.Laws.{but_last, unless_empty, but_empty_last, row_of, is_bad, tuples, any_bad, PiecesLaw, RowsLaw, FailedRowsLaw}

abbrev is_feed : ℕ → Bool
is_feed b = b == 10

piece-plain : (line rest : List ℕ) → list_any is_feed line ≡ false → pieces (line ++ 10 ∷ rest) ≡ line ∷ pieces rest
piece-plain [] rest h = refl
piece-plain (b ∷ line) rest h =
    let parts = or_parts (is_feed b) (list_any is_feed line) h in
    cond-false (b == 10) ([] ∷ pieces (line ++ 10 ∷ rest)) (onto_first b (pieces (line ++ 10 ∷ rest))) parts.0
    ∙ ap (onto_first b) (piece-plain line rest parts.1)

piece-last : (line : List ℕ) → list_any is_feed line ≡ false → pieces line ≡ line ∷ []
piece-last [] h = refl
piece-last (b ∷ line) h =
    let parts = or_parts (is_feed b) (list_any is_feed line) h in
    cond-false (b == 10) ([] ∷ pieces line) (onto_first b (pieces line)) parts.0 ∙ ap (onto_first b) (piece-last line parts.1)

pub pieces_law : PiecesLaw
pieces_law [] last h = piece-last last (All-head (λ line. list_any is_feed line ≡ false) last [] h)
pieces_law (line ∷ lines) last h =
    ap pieces (append_assoc (line ++ 10 ∷ []) (flat_map (λ line. line ++ 10 ∷ []) lines) last ∙ append_assoc line (10 ∷ []) (flat_map (λ line. line ++ 10 ∷ []) lines ++ last))
    ∙ piece-plain line (flat_map (λ line. line ++ 10 ∷ []) lines ++ last) (All-head (λ line. list_any is_feed line ≡ false) line (lines ++ last ∷ []) h)
    ∙ ap (λ (all : List (List ℕ)). line ∷ all) (pieces_law lines last (All-tail (λ line. list_any is_feed line ≡ false) line (lines ++ last ∷ []) h))

-- the bytes of the pieces, with a line feed for each
abbrev full : List (List ℕ) → ℕ
full [] = 0
full (piece ∷ rest) = (length piece + 1) + full rest

onto_first-full : (b n : ℕ) (ps : List (List ℕ)) → full ps ≡ n + 1 → full (onto_first b ps) ≡ (n + 1) + 1
onto_first-full b n [] h = absurd (omega arith)
onto_first-full b n (piece ∷ ps) h = omega arith

pieces-full : (bytes : List ℕ) → full (pieces bytes) ≡ length bytes + 1
pieces-full [] = refl
pieces-full (b ∷ bytes) = go (b == 10) (pieces-full bytes)
  where
    go : (feed : Bool) → full (pieces bytes) ≡ length bytes + 1 → full (cond feed ([] ∷ pieces bytes) (onto_first b (pieces bytes))) ≡ length (b ∷ bytes) + 1
    go true h = omega arith
    go false h = let e = onto_first-full b (length bytes) (pieces bytes) h in omega arith

onto_first-count : (b n : ℕ) (ps : List (List ℕ)) → length ps ≡ n + 1 → length (onto_first b ps) ≡ n + 1
onto_first-count b n [] h = absurd (omega arith)
onto_first-count b n (piece ∷ ps) h = h

pieces-count : (bytes : List ℕ) → length (pieces bytes) ≡ count_by is_feed bytes + 1
pieces-count [] = refl
pieces-count (b ∷ bytes) = go (b == 10) (pieces-count bytes) ∙ ap (λ n. n + 1) (sym (sum_by-cons (λ x. cond (is_feed x) 1 0) b bytes))
  where
    go : (feed : Bool) → length (pieces bytes) ≡ count_by is_feed bytes + 1
        → length (cond feed ([] ∷ pieces bytes) (onto_first b (pieces bytes))) ≡ (cond feed 1 0 + count_by is_feed bytes) + 1
    go true h = omega arith
    go false h = let e = onto_first-count b (count_by is_feed bytes) (pieces bytes) h in omega arith

not_long : (len size left : ℕ) → len ≤ 65536 → size ≤ left → too_long len size left ≡ None
not_long len size left short fits = rw (le-ltb 65536 len short, le-ltb left size fits) refl

any_bad-parts : (strict first rest : Bool) → (strict && (first || rest)) ≡ false → ((strict && first) ≡ false) × ((strict && rest) ≡ false)
any_bad-parts true first rest h = or_parts first rest h
any_bad-parts false first rest h = (refl, refl)

line_items-row : (o : Setting) (line : ℕ) (given : Given) (others : List (List Value)) (rest : List Item) → (o.strict && is_bad given) ≡ false
    → line_items o line given (map I.Tuple others ++ rest) ≡ map I.Tuple (cons_option (row_of given) others) ++ rest
line_items-row o line (Row values) others rest h = refl
line_items-row o line Nothing others rest h = refl
line_items-row o line Bad others rest h = go o.strict h
  where
    go : (strict : Bool) → (strict && true) ≡ false → cond strict (source_fault o K.BadRow line ∷ []) (map I.Tuple others ++ rest) ≡ map I.Tuple others ++ rest
    go true h = absurd (cc)
    go false h = refl

-- a line that isn't too long gives its row in front of the others
checked_items-row : (o : Setting) (line size left : ℕ) (bytes : List ℕ) (others : List (List ℕ)) (more rest : List Item)
    → length bytes ≤ 65536 → size ≤ left → (o.strict && is_bad (line_gives o.schema bytes)) ≡ false → more ≡ tuples o others ++ rest
    → checked_items o line (too_long (length bytes) size left) bytes more ≡ tuples o (bytes ∷ others) ++ rest
checked_items-row o line size left bytes others more rest short fits good e =
    ap (λ fault. checked_items o line fault bytes more) (not_long (length bytes) size left short fits)
    ∙ ap (line_items o line (line_gives o.schema bytes)) e
    ∙ line_items-row o line (line_gives o.schema bytes) (filter_map (λ line. row_of (line_gives o.schema line)) others) rest good

abbrev IsShort : List ℕ → Type 0
IsShort piece = length piece ≤ 65536

abbrev is_bad_line : Setting → List ℕ → Bool
is_bad_line o line = is_bad (line_gives o.schema line)

last-row : (o : Setting) (line left : ℕ) (piece : List ℕ) → IsShort piece → length piece ≤ left → any_bad o (unless_empty piece) ≡ false
    → last_items o End line left piece ≡ tuples o (unless_empty piece) ++ closing
last-row o line left [] short fits good = refl
last-row o line left (b ∷ bytes) short fits good =
    checked_items-row o line (length (b ∷ bytes)) left (b ∷ bytes) [] closing closing short fits
    (any_bad-parts o.strict (is_bad_line o (b ∷ bytes)) false good).0 refl

rows_from : (o : Setting) (line left : ℕ) (piece : List ℕ) (rest : List (List ℕ)) → All IsShort (piece ∷ rest) → full (piece ∷ rest) ≤ left + 1
    → any_bad o (but_empty_last (piece ∷ rest)) ≡ false
    → items_from o End line left (piece ∷ rest) ≡ tuples o (but_empty_last (piece ∷ rest)) ++ closing
rows_from o line left piece [] short fits good =
    last-row o line left piece (All-head IsShort piece [] short) (omega arith) good
rows_from o line left piece (next ∷ rest) short fits good =
    let parts = any_bad-parts o.strict (is_bad_line o piece) (list_any (is_bad_line o) (but_empty_last (next ∷ rest))) good in
    checked_items-row o line (length piece + 1) left piece (but_empty_last (next ∷ rest))
    (items_from o End (line + 1) (left - (length piece + 1)) (next ∷ rest)) closing
    (All-head IsShort piece (next ∷ rest) short) (omega arith) parts.0
    (rows_from o (line + 1) (left - (length piece + 1)) next rest (All-tail IsShort piece (next ∷ rest) short) (omega arith) parts.1)

failed_from : (o : Setting) (line left at : ℕ) (piece : List ℕ) (rest : List (List ℕ)) → All IsShort (piece ∷ rest) → full (piece ∷ rest) ≤ left + 1
    → any_bad o (but_last (piece ∷ rest)) ≡ false → at + 1 ≡ line + length (piece ∷ rest)
    → items_from o Failed line left (piece ∷ rest) ≡ tuples o (but_last (piece ∷ rest)) ++ source_fault o K.ReadFailed at ∷ []
failed_from o line left at piece [] short fits good e =
    let same : line ≡ at = omega arith in
    ap (cut_short o line) (not_long (length piece) (length piece) left (All-head IsShort piece [] short) (omega arith))
    ∙ ap (λ n. source_fault o K.ReadFailed n ∷ []) same
failed_from o line left at piece (next ∷ rest) short fits good e =
    let parts = any_bad-parts o.strict (is_bad_line o piece) (list_any (is_bad_line o) (but_last (next ∷ rest))) good in
    checked_items-row o line (length piece + 1) left piece (but_last (next ∷ rest))
    (items_from o Failed (line + 1) (left - (length piece + 1)) (next ∷ rest)) (source_fault o K.ReadFailed at ∷ [])
    (All-head IsShort piece (next ∷ rest) short) (omega arith) parts.0
    (failed_from o (line + 1) (left - (length piece + 1)) at next rest (All-tail IsShort piece (next ∷ rest) short) (omega arith) parts.1 (omega arith))

-- what holds of each list of pieces that isn't empty holds of a file's
rows_some : (o : Setting) (ps : List (List ℕ)) (n : ℕ) → full ps ≡ n + 1 → n ≤ o.limit → All IsShort ps → any_bad o (but_empty_last ps) ≡ false
    → items_from o End 1 o.limit ps ≡ tuples o (but_empty_last ps) ++ closing
rows_some o [] n size fits short good = absurd (omega arith)
rows_some o (piece ∷ rest) n size fits short good = rows_from o 1 o.limit piece rest short (omega arith) good

failed_some : (o : Setting) (ps : List (List ℕ)) (n feeds : ℕ) → full ps ≡ n + 1 → length ps ≡ feeds + 1 → n ≤ o.limit → All IsShort ps → any_bad o (but_last ps) ≡ false
    → items_from o Failed 1 o.limit ps ≡ tuples o (but_last ps) ++ source_fault o K.ReadFailed (1 + feeds) ∷ []
failed_some o [] n feeds size count fits short good = absurd (omega arith)
failed_some o (piece ∷ rest) n feeds size count fits short good = failed_from o 1 o.limit (1 + feeds) piece rest short (omega arith) good (omega arith)

pub file_rows_law : RowsLaw
file_rows_law o bytes within good = rows_some o (pieces bytes) (length bytes) (pieces-full bytes) within.file within.each good

pub failed_rows_law : FailedRowsLaw
failed_rows_law o bytes within good =
    failed_some o (pieces bytes) (length bytes) (count_by is_feed bytes) (pieces-full bytes) (pieces-count bytes) within.file within.each good

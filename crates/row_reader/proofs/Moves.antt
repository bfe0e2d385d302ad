-- Steps of reading a source, over the parts of its state.
use Rattle.std.proofs.Common.{◌≡◌, ◌==◌, ◌++◌, ◌∷◌, ◌∙◌, ◌≤◌, ◌<◌, ◌+◌, ◌-◌, [], ℕ, List, Bool, Some, None, refl, sym, ap, false, suc, zero, length, take, drop, append_assoc, length-append, arith, inl, inr, add-one, drop-cons, length-take-le, length-take}
use Rattle.std.specs.List.{list_any, onto_first}
use Rattle.std.proofs.lemmas.List.{append-nil, take-append-drop, drop-take, drop-drop}
use Rattle.std.proofs.lemmas.List.Folds.{list_any-append}
use Rattle.std.proofs.lemmas.Bool.{cases_Bool, or_parts}
use Rattle.std.proofs.lemmas.Bool.Decides.{nat_tests}
use Rattle.spl_value.specs.Script.{Ending, End, Failed}
use Rattle.spl_value.specs.declared.item.FaultKind.{FaultKind}
use Rattle.stream_model.specs.Rows.{Setting, checked_items, closing, items_from, last_items, line_gives, line_items, source_fault, too_long}
use Rattle.stream_model.specs.parts.Rows.{pieces}
use Rattle.row_reader.specs.steps.Finding.{IsFirstAt}

abbrev pub is_feed : ℕ → Bool
is_feed b = b == 10

-- bytes at the front of the first piece
abbrev pub onto_front : List ℕ → List (List ℕ) → List (List ℕ)
onto_front x [] = x ∷ []
onto_front x (p ∷ ps) = (x ++ p) ∷ ps

front_byte : (b : ℕ) (x : List ℕ) (ps : List (List ℕ)) → onto_first b (onto_front x ps) ≡ onto_front (b ∷ x) ps
front_byte b x [] = refl
front_byte b x (p ∷ ps) = refl

some_piece : (y : List ℕ) → onto_front [] (pieces y) ≡ pieces y
some_piece [] = refl
some_piece (b ∷ bs) = elim (cases_Bool (b == 10)) [
  | inl feed ↦ rw feed refl
  | inr other ↦ rw other (front_front b (pieces bs))
] where
  front_front : (b : ℕ) (ps : List (List ℕ)) → onto_front [] (onto_first b ps) ≡ onto_first b ps
  front_front b [] = refl
  front_front b (p ∷ ps) = refl

-- bytes with no line feed stand in the first piece
pub pieces_front : (x y : List ℕ) → list_any is_feed x ≡ false → pieces (x ++ y) ≡ onto_front x (pieces y)
pieces_front [] y h = sym (some_piece y)
pieces_front (b ∷ x) y h = rw ((or_parts (b == 10) (list_any is_feed x) h).0) (ap (onto_first b) (pieces_front x y (or_parts (b == 10) (list_any is_feed x) h).1) ∙ front_byte b x (pieces y))

pub pieces_line : (x y : List ℕ) → list_any is_feed x ≡ false → pieces (x ++ (10 ∷ y)) ≡ x ∷ pieces y
pieces_line x y h = pieces_front x (10 ∷ y) h ∙ ap (λ (z : List ℕ). z ∷ pieces y) (append-nil x)

pub pieces_last : (x : List ℕ) → list_any is_feed x ≡ false → pieces (x ++ []) ≡ x ∷ []
pieces_last x h = pieces_front x [] h ∙ ap (λ (z : List ℕ). z ∷ []) (append-nil x)

-- a line that has more to it is too long as well, and in the same way
pub too_long_more : (c len size left : ℕ) (kind : FaultKind) → c ≤ len → len ≤ size → too_long c c left ≡ Some kind → too_long len size left ≡ Some kind
too_long_more c len size left kind a b e = grind (arith, nat_tests)

pub first_piece : (y : List ℕ) → (p : List ℕ) × (ps : List (List ℕ)) × (pieces y ≡ p ∷ ps)
first_piece y = from_front (pieces y) (some_piece y) where
  from_front : (z : List (List ℕ)) → onto_front [] z ≡ z → (p : List ℕ) × (ps : List (List ℕ)) × (z ≡ p ∷ ps)
  from_front [] e = absurd cc
  from_front (p ∷ ps) e = (p, ps, refl)

-- a line that a line feed ends
pub line_step : (o : Setting) (how : Ending) (line left : ℕ) (x y : List ℕ) → list_any is_feed x ≡ false
    → items_from o how line left (pieces (x ++ (10 ∷ y)))
    ≡ checked_items o line (too_long (length x) (length x + 1) left) x (items_from o how (line + 1) (left - (length x + 1)) (pieces y))
line_step o how line left x y h =
    let (p, ps, e) = first_piece y in
    rw (pieces_line x y h, e) refl

-- the bytes after the last line feed
pub last_step : (o : Setting) (how : Ending) (line left : ℕ) (x : List ℕ) → list_any is_feed x ≡ false
    → items_from o how line left (pieces (x ++ [])) ≡ last_items o how line left x
last_step o how line left x h = rw (pieces_last x h) refl

long_last : (o : Setting) (how : Ending) (line left : ℕ) (x p : List ℕ) (kind : FaultKind) → too_long (length x) (length x) left ≡ Some kind
    → last_items o how line left (x ++ p) ≡ source_fault o kind line ∷ []
long_last o Failed line left x p kind e = rw (too_long_more (length x) (length (x ++ p)) (length (x ++ p)) left kind (omega (arith, length-append x p)) (omega arith) e) refl
long_last o End line left [] p kind e = absurd (empty_short left kind e) where
  empty_short : (left : ℕ) (kind : FaultKind) → too_long 0 0 left ≡ Some kind → ⊥
  empty_short left kind e = grind (arith, nat_tests)
long_last o End line left (b ∷ x) p kind e = rw (too_long_more (length (b ∷ x)) (length (b ∷ (x ++ p))) (length (b ∷ (x ++ p))) left kind (omega (arith, length-append x p)) (omega arith) e) refl

-- a line that is too long already
pub long_step : (o : Setting) (how : Ending) (line left : ℕ) (x y : List ℕ) (kind : FaultKind) → list_any is_feed x ≡ false
    → too_long (length x) (length x) left ≡ Some kind → items_from o how line left (pieces (x ++ y)) ≡ source_fault o kind line ∷ []
long_step o how line left x y kind h e =
    let (p, ps, is) = first_piece y in
    rw (pieces_front x y h, is) (begun ps p) where
      begun : (ps : List (List ℕ)) (p : List ℕ) → items_from o how line left ((x ++ p) ∷ ps) ≡ source_fault o kind line ∷ []
      begun [] p = long_last o how line left x p kind e
      begun (q ∷ ps) p = rw (too_long_more (length x) (length (x ++ p)) (length (x ++ p) + 1) left kind (omega (arith, length-append x p)) (omega arith) e) refl

-- ---- the pieces

pub no_bytes : (at filled : ℕ) (piece : List ℕ) → filled ≡ 0 → take (filled - at) (drop at piece) ≡ []
no_bytes at filled piece f = let e : filled - at ≡ 0 = omega arith in rw e refl

pub last_empty : (o : Setting) (line left : ℕ) (carry : List ℕ) → length carry ≡ 0 → last_items o End line left carry ≡ closing
last_empty o line left [] e = refl
last_empty o line left (x ∷ xs) e = absurd (omega (arith, e))

pub last_some : (o : Setting) (line left : ℕ) (carry : List ℕ) → (length carry ≡ 0 → ⊥) → too_long (length carry) (length carry) left ≡ None
    → last_items o End line left carry ≡ line_items o line (line_gives o.schema carry) closing
last_some o line left [] n e = absurd (n refl)
last_some o line left (x ∷ xs) n e = rw e refl

-- the piece, cut at its first line feed
pub cut_at : (piece : List ℕ) (at filled i : ℕ) → IsFirstAt 10 (take (filled - at) (drop at piece)) i
    → take (filled - at) (drop at piece) ≡ take i (take (filled - at) (drop at piece)) ++ (10 ∷ take (filled - (at + i + 1)) (drop (at + i + 1) piece))
cut_at piece at filled i f =
    let d = take (filled - at) (drop at piece) in
    let lt : i < length d = f.within in
    let small : i < filled - at = omega (arith, length-take (filled - at) (drop at piece)) in
    let size : (i + 1) + (filled - (at + i + 1)) ≡ filled - at = omega arith in
    let same : at + (i + 1) ≡ at + i + 1 = omega arith in
    let rest : drop (i + 1) d ≡ take (filled - (at + i + 1)) (drop (at + i + 1) piece) =
    ap (λ (n : ℕ). drop (i + 1) (take n (drop at piece))) (sym size) ∙ drop-take (i + 1) (filled - (at + i + 1)) (drop at piece)
    ∙ ap (take (filled - (at + i + 1))) (drop-drop (i + 1) at piece) ∙ ap (λ (n : ℕ). take (filled - (at + i + 1)) (drop n piece)) same in
    let cons : drop i d ≡ 10 ∷ drop (i + 1) d = rw (add-one, drop-cons d i 0) (ap (λ (b : ℕ). b ∷ drop (suc i) d) f.here) in
    sym (take-append-drop i d) ∙ ap (λ (z : List ℕ). take i d ++ z) (cons ∙ ap (λ (z : List ℕ). 10 ∷ z) rest)

any_append : (xs ys : List ℕ) → list_any is_feed xs ≡ false → list_any is_feed ys ≡ false → list_any is_feed (xs ++ ys) ≡ false
any_append xs ys a b = list_any-append is_feed xs ys ∙ rw (a, b) refl

-- a line that is ended
pub come_line : (o : Setting) (how : Ending) (line left : ℕ) (carry piece bytes : List ℕ) (at filled i : ℕ) → list_any is_feed carry ≡ false → IsFirstAt 10 (take (filled - at) (drop at piece)) i
    → items_from o how line left (pieces ((carry ++ take (filled - at) (drop at piece)) ++ bytes))
    ≡ checked_items o line (too_long (length carry + i) (length carry + i + 1) left) (carry ++ take i (take (filled - at) (drop at piece)))
    (items_from o how (line + 1) (left - (length carry + i + 1)) (pieces (([] ++ take (filled - (at + i + 1)) (drop (at + i + 1) piece)) ++ bytes)))
come_line o how line left carry piece bytes at filled i h f =
    let d = take (filled - at) (drop at piece) in
    let x = carry ++ take i d in
    let y = take (filled - (at + i + 1)) (drop (at + i + 1) piece) ++ bytes in
    let within : i ≤ length d = omega (arith, f.within) in
    let size : length x ≡ length carry + i = length-append carry (take i d) ∙ ap (λ (n : ℕ). length carry + n) (length-take-le i d within) in
    let text : (carry ++ d) ++ bytes ≡ x ++ (10 ∷ y) =
    ap (λ (z : List ℕ). (carry ++ z) ++ bytes) (cut_at piece at filled i f) ∙ simp append_assoc in
    ap (λ (z : List ℕ). items_from o how line left (pieces z)) text
    ∙ line_step o how line left x y (any_append carry (take i d) h f.before)
    ∙ ap (λ (n : ℕ). checked_items o line (too_long n (n + 1) left) x (items_from o how (line + 1) (left - (n + 1)) (pieces y))) size

take_take : (i n : ℕ) (xs : List ℕ) → i ≤ n → take i (take n xs) ≡ take i xs
take_take zero n xs h = refl
take_take (suc i) zero xs h = absurd (omega arith)
take_take (suc i) (suc n) [] h = refl
take_take (suc i) (suc n) (x ∷ xs) h = ap (λ (z : List ℕ). x ∷ z) (take_take i n xs (omega arith))

pub cut_part : (piece : List ℕ) (at filled i : ℕ) → IsFirstAt 10 (take (filled - at) (drop at piece)) i → take (at + i - at) (drop at piece) ≡ take i (take (filled - at) (drop at piece))
cut_part piece at filled i f =
    let n : at + i - at ≡ i = omega arith in
    let small : i ≤ filled - at = omega (arith, f.within, length-take (filled - at) (drop at piece)) in
    ap (λ (k : ℕ). take k (drop at piece)) n ∙ sym (take_take i (filled - at) (drop at piece) small)

-- a size that isn't too long is left of the limit
pub fits_left : (len size left : ℕ) → too_long len size left ≡ None → size ≤ left
fits_left len size left e = grind (arith, nat_tests)

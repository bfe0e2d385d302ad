-- Steps of writing a row.
use Rattle.std.proofs.Common.{◌≡◌, ◌==◌, ◌++◌, ◌∷◌, ◌∙◌, ◌<◌, ◌≤◌, ◌+◌, [], ℕ, List, Bool, refl, sym, ap, true, false, length, take, get_or, append_assoc, length-append, arith, map, length-take-le, inl, inr}
use Rattle.std.specs.Prelude.{not}
use Rattle.std.proofs.lemmas.List.{append-nil, take_more, take_all, map-append, length-map}
use Rattle.spl_value.specs.declared.value.Value.{Value}
use Rattle.stream_model.specs.parts.Fields.{field_of}
use Rattle.std.proofs.lemmas.Bool.{cases_Bool, eqb-true}
use Rattle.csv.specs.Writing.{default_writer, escaped, field_text, fields_text, row_body, row_text, is_blank, next_sep}
use Rattle.csv.proofs.WriteFacts.{escaped-append, row-more}

pub escaped_none : escaped default_writer [] ≡ []
unfolding escaped
escaped_none = refl

escaped_quote : escaped default_writer (34 ∷ []) ≡ 34 ∷ 34 ∷ []
unfolding escaped
escaped_quote = refl

escaped_other : (b : ℕ) → (b == 34) ≡ false → escaped default_writer (b ∷ []) ≡ b ∷ []
unfolding escaped
escaped_other b e = rw e refl

-- one more byte between quotes
pub escape_quote : (xs : List ℕ) (i : ℕ) → i < length xs → get_or xs i 0 ≡ 34 → escaped default_writer (take (i + 1) xs) ≡ escaped default_writer (take i xs) ++ (34 ∷ 34 ∷ [])
escape_quote xs i h e = rw (take_more xs i 0 h, escaped-append default_writer (take i xs) (get_or xs i 0 ∷ []), e, escaped_quote) refl

pub escape_other : (xs : List ℕ) (i : ℕ) → i < length xs → (get_or xs i 0 == 34) ≡ false → escaped default_writer (take (i + 1) xs) ≡ escaped default_writer (take i xs) ++ (get_or xs i 0 ∷ [])
escape_other xs i h e = rw (take_more xs i 0 h, escaped-append default_writer (take i xs) (get_or xs i 0 ∷ []), escaped_other (get_or xs i 0) e) refl

-- a row is blank exactly where its fields show no byte
blank_is : (fields : List (List ℕ)) → is_blank default_writer fields ≡ (length (row_body default_writer fields) == 0)
unfolding is_blank fields_text
blank_is [] = refl
blank_is (f ∷ []) = ap (λ (z : List ℕ). length z == 0) (sym (append-nil (field_text default_writer f)))
blank_is (f ∷ g ∷ rest) = sym (not_none (length (field_text default_writer f ++ (44 ∷ (field_text default_writer g ++ fields_text default_writer rest))))
    (λ e. absurd (omega (arith, e, length-append (field_text default_writer f) (44 ∷ (field_text default_writer g ++ fields_text default_writer rest)))))) where
      not_none : (n : ℕ) → (n ≡ 0 → ⊥) → (n == 0) ≡ false
      not_none n h = elim (cases_Bool (n == 0)) [ inl same ↦ absurd (h (eqb-true n 0 same)) | inr other ↦ other ]

pub row_blank : (fields : List (List ℕ)) → (length (row_body default_writer fields) == 0) ≡ true → row_text default_writer fields ≡ (row_body default_writer fields ++ (34 ∷ 34 ∷ [])) ++ (10 ∷ [])
row_blank fields e = rw (blank_is fields, e) (sym (append_assoc (row_body default_writer fields) (34 ∷ 34 ∷ []) (10 ∷ [])))

pub row_shown : (fields : List (List ℕ)) → (length (row_body default_writer fields) == 0) ≡ false → row_text default_writer fields ≡ row_body default_writer fields ++ (10 ∷ [])
row_shown fields e = rw (blank_is fields, e) refl

pub quote_step : (base xs r r1 : List ℕ) (i : ℕ) → i < length xs → get_or xs i 0 ≡ 34 → r1 ≡ r ++ (34 ∷ []) → r ≡ base ++ escaped default_writer (take i xs)
    → r1 ++ (get_or xs i 0 ∷ []) ≡ base ++ escaped default_writer (take (i + 1) xs)
quote_step base xs r r1 i h e p q = rw (escape_quote xs i h e, e, p, q) (simp append_assoc)

pub other_step : (base xs r r1 : List ℕ) (i : ℕ) → i < length xs → (get_or xs i 0 == 34) ≡ false → r1 ≡ r → r ≡ base ++ escaped default_writer (take i xs)
    → r1 ++ (get_or xs i 0 ∷ []) ≡ base ++ escaped default_writer (take (i + 1) xs)
other_step base xs r r1 i h e p q = rw (escape_other xs i h e, p, q) (simp append_assoc)

-- the comma before a later field
abbrev pub sep : Bool → List ℕ
sep true = 44 ∷ []
sep false = []

sep_is : (i : ℕ) → sep (not (i == 0)) ≡ next_sep default_writer i
sep_is i = elim (cases_Bool (i == 0)) [ inl first ↦ rw first refl | inr later ↦ rw later refl ]

pub value_step : (tuple : List Value) (i : ℕ) (v : Value) (r r1 r2 : List ℕ) (later : Bool) → i < length tuple → v ≡ get_or tuple i v → later ≡ not (i == 0)
    → r ≡ row_body default_writer (map field_of (take i tuple)) → r1 ≡ r ++ sep later → r2 ≡ r1 ++ field_text default_writer (field_of v)
    → r2 ≡ row_body default_writer (map field_of (take (i + 1) tuple))
value_step tuple i v r r1 r2 later h is l e p q =
    let ys = map field_of (take i tuple) in
    let size : length ys ≡ i = length-map (take i tuple) field_of ∙ length-take-le i tuple (omega arith) in
    let fields : map field_of (take (i + 1) tuple) ≡ ys ++ (field_of v ∷ []) =
    ap (map field_of) (take_more tuple i v h) ∙ map-append field_of (take i tuple) (get_or tuple i v ∷ []) ∙ ap (λ (w : Value). ys ++ (field_of w ∷ [])) (sym is) in
    let body : row_body default_writer (map field_of (take (i + 1) tuple)) ≡ row_body default_writer ys ++ (next_sep default_writer i ++ field_text default_writer (field_of v)) =
    ap (row_body default_writer) fields ∙ row-more default_writer ys (field_of v) ∙ ap (λ (n : ℕ). row_body default_writer ys ++ (next_sep default_writer n ++ field_text default_writer (field_of v))) size in
    q ∙ ap (λ (z : List ℕ). z ++ field_text default_writer (field_of v)) (p ∙ (λ k. e k ++ (ap sep l ∙ sep_is i) k))
    ∙ append_assoc (row_body default_writer ys) (next_sep default_writer i) (field_text default_writer (field_of v)) ∙ sym body

pub later_is : (i : ℕ) → true ≡ not ((i + 1) == 0)
later_is i = elim (cases_Bool ((i + 1) == 0)) [ inl first ↦ absurd (let e : i + 1 ≡ 0 = eqb-true (i + 1) 0 first in omega (arith, e)) | inr later ↦ rw later refl ]

pub row_ends_blank : (tuple : List Value) (i : ℕ) (r r1 r2 : List ℕ) → length tuple ≤ i → r ≡ row_body default_writer (map field_of (take i tuple)) → (length r == 0) ≡ true
    → r1 ≡ r ++ (34 ∷ 34 ∷ []) → r2 ≡ r1 ++ (10 ∷ []) → r2 ≡ row_text default_writer (map field_of tuple)
row_ends_blank tuple i r r1 r2 h e b p q =
    let all : r ≡ row_body default_writer (map field_of tuple) = e ∙ ap (λ (t : List Value). row_body default_writer (map field_of t)) (take_all i tuple h) in
    q ∙ ap (λ (z : List ℕ). z ++ (10 ∷ [])) (p ∙ ap (λ (z : List ℕ). z ++ (34 ∷ 34 ∷ [])) all) ∙ sym (row_blank (map field_of tuple) (sym (ap (λ (z : List ℕ). length z == 0) all) ∙ b))

pub row_ends : (tuple : List Value) (i : ℕ) (r r1 r2 : List ℕ) → length tuple ≤ i → r ≡ row_body default_writer (map field_of (take i tuple)) → (length r == 0) ≡ false
    → r1 ≡ r → r2 ≡ r1 ++ (10 ∷ []) → r2 ≡ row_text default_writer (map field_of tuple)
row_ends tuple i r r1 r2 h e b p q =
    let all : r ≡ row_body default_writer (map field_of tuple) = e ∙ ap (λ (t : List Value). row_body default_writer (map field_of t)) (take_all i tuple h) in
    q ∙ ap (λ (z : List ℕ). z ++ (10 ∷ [])) (p ∙ all) ∙ sym (row_shown (map field_of tuple) (sym (ap (λ (z : List ℕ). length z == 0) all) ∙ b))

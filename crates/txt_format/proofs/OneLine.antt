-- The text of a tuple has no line feed.
use Rattle.std.specs.Prelude.{◌≡◌, ◌<◌, ◌^◌, ◌==◌, ◌||◌, ◌&&◌, not, suc, ℕ, ℤ, pos, negsuc, unsigned_abs, Bool, cond, true, false, IsTrue, List, [], ◌∷◌, ◌++◌, map}
use Rattle.std.specs.Fmt.{decimal, signed_decimal}
use Rattle.std.specs.List.{list_all, join_with_byte, AllByRecursion}
use Rattle.std.specs.Str.Parse.{AllDigits}
use Rattle.std.specs.Cmp.{first_so, second_so}
use Rattle.std.specs.Cmp.Derive.{both_true}
use Rattle.std.proofs.Common.{refl, sym, ap, subst, ◌∙◌, arith}
use Rattle.std.proofs.lemmas.Bool.{eqb-true, ne_eqb}
use Rattle.std.proofs.lemmas.Fmt.{decimal_is_IsNumeral_wide}
use Rattle.spl_value.specs.declared.types.IntKind.{IntKind}
use Rattle.spl_value.specs.declared.types.Named.{Named}
use Rattle.spl_value.specs.declared.types.SplType.{SplType}
use Rattle.spl_value.specs.declared.types.SplType.TheVariants as T
use Rattle.spl_value.specs.declared.value.Value.{Value}
use Rattle.spl_value.specs.Decimal.{is_digit}
use Rattle.spl_value.specs.Values.{fits, tuple_fits}
use Rattle.spl_value.proofs.FitsLaws.{bool_from_fits, int_from_fits, list_from_fits, map_from_fits, pair_fits, text_from_fits, tuple_from_fits}
use Rattle.spl_value.proofs.Induction.{type_ind}
use Rattle.spl_value.proofs.Widths.{within}
use Rattle.txt_format.specs.Escapes.{escaped, written}
use Rattle.txt_format.specs.TxtLaws.{OneLineLaw, has_no_feed, is_letter, is_word, names_are_words, schema_has_words}
use Rattle.txt_format.specs.TxtText.{attribute_texts, bracketed, pair_text, truth_text, value_text}
use Rattle.txt_format.proofs.TextLaws.{text_of_bool, text_of_int, text_of_list, text_of_map, text_of_text, text_of_tuple}
use Rattle.txt_format.proofs.Written.{first_digit, names_list, names_map, names_tuple}

abbrev NoFeed : List ℕ → Type 0
NoFeed bytes = has_no_feed bytes ≡ true

both : (xs ys : List ℕ) → NoFeed xs → NoFeed ys → NoFeed (xs ++ ys)
both [] ys h g = g
both (b ∷ bs) ys h g = both_true (first_so (not (b == 10)) (has_no_feed bs) h) (both bs ys (second_so (not (b == 10)) (has_no_feed bs) h) g)

joined : (pieces : List (List ℕ)) → AllByRecursion NoFeed pieces → NoFeed (join_with_byte 44 pieces)
joined [] h = refl
joined (p ∷ []) h = h.0
joined (p ∷ q ∷ ps) h = both p (44 ∷ join_with_byte 44 (q ∷ ps)) h.0 (joined (q ∷ ps) h.1)

in_brackets : (left right : ℕ) (pieces : List (List ℕ)) → not (left == 10) ≡ true → not (right == 10) ≡ true → AllByRecursion NoFeed pieces → NoFeed (bracketed left right pieces)
in_brackets left right pieces l r h = both_true l (both (join_with_byte 44 pieces) (right ∷ []) (joined pieces h) (both_true r refl))

-- ---- basic values

digits : (cs : List ℕ) → AllDigits 10 cs → NoFeed cs
digits [] h = refl
digits (c ∷ cs) h =
    let d = first_digit c cs h in
    let low = d.low in
    let no : (c == 10) ≡ false = ne_eqb c 10 (λ e. omega (arith, low, e)) in
    both_true (ap not no) (digits cs h.1)

integer : (z : ℤ) → unsigned_abs z < 10 ^ 64 → NoFeed (signed_decimal z)
integer (pos n) h = digits (decimal n) (decimal_is_IsNumeral_wide n h).0.1
integer (negsuc n) h = digits (decimal (suc n)) (decimal_is_IsNumeral_wide (suc n) h).0.1

truth : (b : Bool) → NoFeed (truth_text b)
truth true = refl
truth false = refl

one_byte : (b : ℕ) → NoFeed (written b)
one_byte b = by (b == 34) (b == 92) (b == 10) refl (b == 9) (b == 13)
  where
    by : (p q r : Bool) → (b == 10) ≡ r → (s t : Bool)
        → NoFeed (cond p (92 ∷ 34 ∷ []) (cond q (92 ∷ 92 ∷ []) (cond r (92 ∷ 110 ∷ []) (cond s (92 ∷ 116 ∷ []) (cond t (92 ∷ 114 ∷ []) (b ∷ []))))))
    by true q r e s t = refl
    by false true r e s t = refl
    by false false true e s t = refl
    by false false false e true t = refl
    by false false false e false true = refl
    by false false false e false false = both_true (ap not e) refl

bytes : (bs : List ℕ) → NoFeed (escaped bs)
bytes [] = refl
bytes (b ∷ bs) = both (written b) (escaped bs) (one_byte b) (bytes bs)

-- ---- names

letter : (b : ℕ) → is_letter b ≡ true → not (b == 10) ≡ true
letter b h = by (b == 10) refl
  where
    by : (x : Bool) → (b == 10) ≡ x → not x ≡ true
    by true e = absurd (let no : false ≡ true = ap is_letter (sym (eqb-true b 10 e)) ∙ h in cc no)
    by false e = refl

later_letter : (b : ℕ) → (is_letter b || is_digit b) ≡ true → not (b == 10) ≡ true
later_letter b h = by (b == 10) refl
  where
    by : (x : Bool) → (b == 10) ≡ x → not x ≡ true
    by true e = absurd (let no : false ≡ true = ap (λ c. is_letter c || is_digit c) (sym (eqb-true b 10 e)) ∙ h in cc no)
    by false e = refl

letters : (bs : List ℕ) → list_all (λ c. is_letter c || is_digit c) bs ≡ true → NoFeed bs
letters [] h = refl
letters (b ∷ bs) h =
    both_true (later_letter b (first_so (is_letter b || is_digit b) (list_all (λ c. is_letter c || is_digit c) bs) h))
    (letters bs (second_so (is_letter b || is_digit b) (list_all (λ c. is_letter c || is_digit c) bs) h))

word : (name : List ℕ) → is_word name ≡ true → NoFeed name
word [] h = refl
word (b ∷ bs) h =
    both_true (letter b (first_so (is_letter b) (list_all (λ c. is_letter c || is_digit c) bs) h))
    (letters bs (second_so (is_letter b) (list_all (λ c. is_letter c || is_digit c) bs) h))

-- ---- values

abbrev OneLine : SplType → Type 0
OneLine t = (v : Value) → IsTrue (names_are_words t) → IsTrue (fits t v) → NoFeed (value_text t v)

int_line : (k : IntKind) → OneLine (T.Int k)
int_line k v names fit =
    let is = int_from_fits k v fit in
    let w = within k is.0 is.2 in
    let small : unsigned_abs is.0 < 10 ^ 64 = omega (arith, w) in
    subst (λ z. NoFeed (value_text (T.Int k) z)) (sym is.1) (subst NoFeed (sym (text_of_int k is.0)) (integer is.0 small))

bool_line : OneLine T.Bool
bool_line v names fit = let is = bool_from_fits v fit in subst (λ z. NoFeed (value_text T.Bool z)) (sym is.1) (subst NoFeed (sym (text_of_bool is.0)) (truth is.0))

text_line : OneLine T.Text
text_line v names fit =
    let is = text_from_fits v fit in
    subst (λ z. NoFeed (value_text T.Text z)) (sym is.1) (subst NoFeed (sym (text_of_text is.0)) (both (escaped is.0) (34 ∷ []) (bytes is.0) refl))

elements_line : (t : SplType) → OneLine t → IsTrue (names_are_words t) → (vs : List Value) → list_all (fits t) vs ≡ true → AllByRecursion NoFeed (map (value_text t) vs)
elements_line t h names [] fit = tt
elements_line t h names (v ∷ vs) fit = (h v names (first_so (fits t v) (list_all (fits t) vs) fit), elements_line t h names vs (second_so (fits t v) (list_all (fits t) vs) fit))

list_line : (t : SplType) → OneLine t → OneLine (T.List t)
list_line t h v names fit =
    let is = list_from_fits t v fit in
    subst (λ z. NoFeed (value_text (T.List t) z)) (sym is.1)
    (subst NoFeed (sym (text_of_list t is.0)) (in_brackets 91 93 (map (value_text t) is.0) refl refl (elements_line t h (sym (names_list t) ∙ names) is.0 is.2)))

pairs_line : (k t : SplType) → OneLine k → OneLine t → IsTrue (names_are_words k) → IsTrue (names_are_words t) → (ps : List (Value × Value)) → list_all (pair_fits k t) ps ≡ true
    → AllByRecursion NoFeed (map (pair_text (value_text k) (value_text t)) ps)
pairs_line k t h g key_names names [] fit = tt
pairs_line k t h g key_names names (p ∷ ps) fit =
    let here = first_so (pair_fits k t p) (list_all (pair_fits k t) ps) fit in (
      both (value_text k p.0) (58 ∷ value_text t p.1) (h p.0 key_names (first_so (fits k p.0) (fits t p.1) here)) (g p.1 names (second_so (fits k p.0) (fits t p.1) here)),
      pairs_line k t h g key_names names ps (second_so (pair_fits k t p) (list_all (pair_fits k t) ps) fit),
    )

map_line : (k t : SplType) → OneLine k → OneLine t → OneLine (T.Map k t)
map_line k t h g v names fit =
    let is = map_from_fits k t v fit in
    let own = sym (names_map k t) ∙ names in
    subst (λ z. NoFeed (value_text (T.Map k t) z)) (sym is.1)
    (subst NoFeed (sym (text_of_map k t is.0)) (in_brackets 123 125 (map (pair_text (value_text k) (value_text t)) is.0) refl refl
    (pairs_line k t h g (first_so (names_are_words k) (names_are_words t) own) (second_so (names_are_words k) (names_are_words t) own) is.0 is.3)))

attributes_line : (schema : List (Named SplType)) → AllByRecursion (λ a. OneLine a.kind) schema → (vs : List Value) → schema_has_words schema ≡ true → tuple_fits schema vs ≡ true
    → AllByRecursion NoFeed (attribute_texts value_text schema vs)
attributes_line [] h vs names fit = tt
attributes_line (a ∷ schema) h [] names fit = tt
attributes_line (a ∷ schema) h (v ∷ vs) names fit =
    let here = first_so (is_word a.name && names_are_words a.kind) (schema_has_words schema) names in (
      both a.name (61 ∷ value_text a.kind v) (word a.name (first_so (is_word a.name) (names_are_words a.kind) here))
          (h.0 v (second_so (is_word a.name) (names_are_words a.kind) here) (first_so (fits a.kind v) (tuple_fits schema vs) fit)),
      attributes_line schema h.1 vs (second_so (is_word a.name && names_are_words a.kind) (schema_has_words schema) names) (second_so (fits a.kind v) (tuple_fits schema vs) fit),
    )

tuple_line : (schema : List (Named SplType)) → AllByRecursion (λ a. OneLine a.kind) schema → OneLine (T.Tuple schema)
tuple_line schema h v names fit =
    let is = tuple_from_fits schema v fit in
    subst (λ z. NoFeed (value_text (T.Tuple schema) z)) (sym is.1)
    (subst NoFeed (sym (text_of_tuple schema is.0)) (in_brackets 123 125 (attribute_texts value_text schema is.0) refl refl (attributes_line schema h is.0 (sym (names_tuple schema) ∙ names) is.2)))

all_lines : (t : SplType) → OneLine t
all_lines = type_ind OneLine (record { int = int_line; bool = bool_line; text = text_line; list = list_line; map_of = map_line; tuple = tuple_line })

each_line : (schema : List (Named SplType)) → AllByRecursion (λ a. OneLine a.kind) schema
each_line [] = tt
each_line (a ∷ schema) = (all_lines a.kind, each_line schema)

pub one_line : OneLineLaw
one_line schema vs names fit = in_brackets 123 125 (attribute_texts value_text schema vs) refl refl (attributes_line schema (each_line schema) vs names fit)

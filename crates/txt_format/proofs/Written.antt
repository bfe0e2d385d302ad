-- The text of a tuple that fits spells it.
use Rattle.std.specs.Prelude.{◌≡◌, ◌<◌, ◌≤◌, ◌+◌, ◌-◌, ◌*◌, ◌^◌, ◌==◌, ◌||◌, ◌&&◌, ◌⊎◌, not, nat_lt, suc, ℕ, ℤ, pos, negsuc, neg_ℤ, unsigned_abs, Bool, cond, true, false, IsTrue, List, [], ◌∷◌, ◌++◌, length, map, fold, Some, None, option_map}
use Rattle.std.specs.Fmt.{decimal, signed_decimal}
use Rattle.std.specs.List.{list_all, join_with_byte, AllByRecursion}
use Rattle.std.specs.Str.Parse.{AllDigits, digits_value_after}
use Rattle.std.specs.Char.{digit_value}
use Rattle.std.specs.Cmp.{first_so, second_so}
use Rattle.std.specs.Cmp.Derive.{both_true}
use Rattle.std.specs.declared.cmp.Ordering.{Ordering}
use Rattle.std.specs.declared.cmp.Ordering.TheVariants.{Less, Equal, Greater}
use Rattle.std.specs.Ordering.{is_lt}
use Rattle.std.specs.FinMap.Entries.{below_all, by_order}
use Rattle.std.proofs.Common.{refl, sym, ap, subst, ◌∙◌, append_assoc, arith, inl, inr}
use Rattle.std.proofs.lemmas.Bool.{cases_Bool, eqb-true, ne_eqb}
use Rattle.std.proofs.lemmas.Fmt.{decimal_is_IsNumeral_wide}
use Rattle.std.proofs.lemmas.List.{append-nil}
use Rattle.std.proofs.lemmas.Str.Parse.{digit_at}
use Rattle.spl_value.specs.declared.types.IntKind.{IntKind}
use Rattle.spl_value.specs.declared.types.Named.{Named}
use Rattle.spl_value.specs.declared.types.SplType.{SplType}
use Rattle.spl_value.specs.declared.types.SplType.TheVariants as T
use Rattle.spl_value.specs.declared.types.SplType.TheOpen as S
use Rattle.spl_value.specs.declared.types.SplType.TheOpen.{SplType-F}
use Rattle.spl_value.specs.declared.types.SplType.TheViews.{out-SplType}
use Rattle.spl_value.specs.declared.types.SplType.TheFolds.{fold_out-SplType, map-SplType}
use Rattle.spl_value.specs.declared.value.Value.{Value}
use Rattle.spl_value.specs.declared.value.Value.TheVariants as V
use Rattle.spl_value.specs.Decimal.{digit_step, in_kind, integer, integer_of, is_digit, natural}
use Rattle.spl_value.specs.Order.{value_cmp}
use Rattle.spl_value.specs.Pairs.{are_pairs, pairs_put}
use Rattle.spl_value.specs.Values.{fits, kind_holds, tuple_fits}
use Rattle.spl_value.proofs.FitsLaws.{bool_from_fits, int_from_fits, list_from_fits, map_from_fits, pair_fits, text_from_fits, tuple_from_fits}
use Rattle.spl_value.proofs.Induction.{type_ind}
use Rattle.spl_value.proofs.PairsLaws.{turned}
use Rattle.spl_value.proofs.Widths.{within}
use Rattle.txt_format.specs.Escapes.{Escapes, Means, escaped, written}
use Rattle.txt_format.specs.TxtLaws.{WrittenLaw, is_letter, is_word, level_named, names_are_words, schema_has_words}
use Rattle.txt_format.specs.TxtSpelling.{Inside, SpellAttributes, SpellElements, SpellPairs, Spells, SpellsValue, begins_blank, is_blank, put_all}
use Rattle.txt_format.specs.TxtText.{attribute_texts, pair_text, txt_text, value_text}
use Rattle.txt_format.proofs.TextLaws.{text_of_bool, text_of_int, text_of_list, text_of_map, text_of_text, text_of_tuple}

-- ---- integers

pub record IsDigit (c : ℕ) : Type 0 where
  pub low : 48 ≤ c
  pub high : c ≤ 57

pub first_digit : (c : ℕ) (cs : List ℕ) → AllDigits 10 (c ∷ cs) → IsDigit c
first_digit c cs h = let r = digit_at (c ∷ cs) 0 h (omega arith) in record { low = r.0; high = r.1 }

digit_so : (c : ℕ) → IsDigit c → is_digit c ≡ true
digit_so c d = let low = d.low in let high = d.high in grind arith

pub digits_so : (cs : List ℕ) → AllDigits 10 cs → list_all is_digit cs ≡ true
digits_so [] h = refl
digits_so (c ∷ cs) h = both_true (digit_so c (first_digit c cs h)) (digits_so cs h.1)

digit_worth : (c : ℕ) → IsDigit c → digit_value c ≡ c - 48
digit_worth c d =
    let low = d.low in
    let high = d.high in
    let above : nat_lt c 48 ≡ false = grind arith in
    let below : nat_lt c 58 ≡ true = grind arith in
    rw (above, below) refl

digits_worth : (n : ℕ) (cs : List ℕ) → AllDigits 10 cs → digits_value_after 10 n cs ≡ fold digit_step n cs
digits_worth n [] h = refl
digits_worth n (c ∷ cs) h =
    ap (λ d. digits_value_after 10 (n * 10 + d) cs) (digit_worth c (first_digit c cs h)) ∙ digits_worth (digit_step n c) cs h.1

natural_of_digits : (cs : List ℕ) (n : ℕ) → 0 < length cs → AllDigits 10 cs → digits_value_after 10 0 cs ≡ n → natural cs ≡ Some n
natural_of_digits [] n some h e = absurd (omega (arith, some))
natural_of_digits (c ∷ cs) n some h e =
    ap (λ x. cond x (Some (fold digit_step 0 (c ∷ cs))) None) (digits_so (c ∷ cs) h) ∙ ap Some (sym (digits_worth 0 (c ∷ cs) h) ∙ e)

natural_of_decimal : (n : ℕ) → n < 10 ^ 64 → natural (decimal n) ≡ Some n
natural_of_decimal n h = let is = decimal_is_IsNumeral_wide n h in natural_of_digits (decimal n) n is.0.0 is.0.1 is.1

integer_of_digits : (cs : List ℕ) (n : ℕ) → 0 < length cs → AllDigits 10 cs → natural cs ≡ Some n → integer cs ≡ Some (pos n)
integer_of_digits [] n some h e = absurd (omega (arith, some))
integer_of_digits (c ∷ cs) n some h e =
    let d = first_digit c cs h in
    let low = d.low in
    let no : (c == 45) ≡ false = ne_eqb c 45 (λ z. omega (arith, low, z)) in
    ap (λ x. cond x (option_map (λ m. neg_ℤ (pos m)) (natural cs)) (option_map pos (natural (c ∷ cs)))) no ∙ ap (option_map pos) e

integer_of_decimal : (z : ℤ) → unsigned_abs z < 10 ^ 64 → integer (signed_decimal z) ≡ Some z
integer_of_decimal (pos n) h = let is = decimal_is_IsNumeral_wide n h in integer_of_digits (decimal n) n is.0.0 is.0.1 (natural_of_decimal n h)
integer_of_decimal (negsuc n) h = ap (option_map (λ m. neg_ℤ (pos m))) (natural_of_decimal (suc n) h)

kind_of_decimal : (k : IntKind) (z : ℤ) → IsTrue (kind_holds k z) → integer_of k (signed_decimal z) ≡ Some z
kind_of_decimal k z h =
    let w = within k z h in
    let small : unsigned_abs z < 10 ^ 64 = omega (arith, w) in
    ap (in_kind k) (integer_of_decimal z small) ∙ ap (λ x. cond x (Some z) None) h

-- ---- texts

pub written_means : (b : ℕ) (bs cs : List ℕ) → Means bs cs → Means (written b ++ bs) (b ∷ cs)
written_means b bs cs m = by (b == 34) refl (b == 92) refl (b == 10) refl (b == 9) refl (b == 13) refl
  where
    is : (c d : ℕ) → Escapes c d → b ≡ d → Means (92 ∷ c ∷ bs) (b ∷ cs)
    is c d e i = subst (λ z. Means (92 ∷ c ∷ bs) (z ∷ cs)) (sym i) (Means.escape c d bs cs e m)

    by : (p : Bool) → (b == 34) ≡ p → (q : Bool) → (b == 92) ≡ q → (r : Bool) → (b == 10) ≡ r → (s : Bool) → (b == 9) ≡ s → (t : Bool) → (b == 13) ≡ t
        → Means (cond p (92 ∷ 34 ∷ []) (cond q (92 ∷ 92 ∷ []) (cond r (92 ∷ 110 ∷ []) (cond s (92 ∷ 116 ∷ []) (cond t (92 ∷ 114 ∷ []) (b ∷ []))))) ++ bs) (b ∷ cs)
    by true i q j r k s l t n = is 34 34 Escapes.double_quote (eqb-true b 34 i)
    by false i true j r k s l t n = is 92 92 Escapes.backslash (eqb-true b 92 j)
    by false i false j true k s l t n = is 110 10 Escapes.line_feed (eqb-true b 10 k)
    by false i false j false k true l t n = is 116 9 Escapes.tab (eqb-true b 9 l)
    by false i false j false k false l true n = is 114 13 Escapes.carriage_return (eqb-true b 13 n)
    by false i false j false k false l false n = Means.plain b bs cs (λ z. not (i z || (j z || k z))) m

escaped_means : (bytes : List ℕ) → Means (escaped bytes) bytes
escaped_means [] = Means.nothing
escaped_means (b ∷ bs) = written_means b (escaped bs) bs (escaped_means bs)

-- ---- maps

below_first : (k : Value) (ps : List (Value × Value)) (q : Value × Value) (rest : List (Value × Value)) → below_all value_cmp k (ps ++ q ∷ rest) ≡ true → value_cmp k q.0 ≡ Less
below_first k [] q rest h = less (value_cmp k q.0) (first_so (is_lt (value_cmp k q.0)) (below_all value_cmp k rest) h)
  where
    less : (o : Ordering) → is_lt o ≡ true → o ≡ Less
    less Less e = refl
    less Equal e = absurd (cc)
    less Greater e = absurd (cc)
below_first k (p ∷ ps) q rest h = below_first k ps q rest (second_so (is_lt (value_cmp k p.0)) (below_all value_cmp k (ps ++ q ∷ rest)) h)

-- a pair whose key is above the others' is put behind them
put_last : (ps : List (Value × Value)) (q : Value × Value) (rest : List (Value × Value)) → are_pairs (ps ++ q ∷ rest) ≡ true → pairs_put ps q.0 q.1 ≡ ps ++ q ∷ []
put_last [] q rest h = refl
put_last (p ∷ ps) q rest h =
    let above = turned p.0 q.0 Less (below_first p.0 ps q rest (first_so (below_all value_cmp p.0 (ps ++ q ∷ rest)) (are_pairs (ps ++ q ∷ rest)) h)) in
    ap (λ o. by_order o ((q.0, q.1) ∷ p ∷ ps) ((p.0, q.1) ∷ ps) (p ∷ pairs_put ps q.0 q.1)) above
    ∙ ap (λ z. p ∷ z) (put_last ps q rest (second_so (below_all value_cmp p.0 (ps ++ q ∷ rest)) (are_pairs (ps ++ q ∷ rest)) h))

put_behind : (ps qs : List (Value × Value)) → are_pairs (ps ++ qs) ≡ true → fold (λ rs p. pairs_put rs p.0 p.1) ps qs ≡ ps ++ qs
put_behind ps [] h = sym (append-nil ps)
put_behind ps (q ∷ qs) h =
    let whole = append_assoc ps (q ∷ []) qs in
    ap (λ z. fold (λ rs p. pairs_put rs p.0 p.1) z qs) (put_last ps q qs h)
    ∙ put_behind (ps ++ q ∷ []) qs (ap are_pairs whole ∙ h) ∙ whole

put_sorted : (ps : List (Value × Value)) → IsTrue (are_pairs ps) → put_all ps ≡ ps
put_sorted ps h = put_behind [] ps h

-- ---- names

names_at : (t : SplType) (x : SplType-F SplType) → out-SplType t ≡ x → names_are_words t ≡ level_named (map-SplType SplType Bool names_are_words x)
names_at t x p = fold_out-SplType Bool level_named t ∙ ap (λ z. level_named (map-SplType SplType Bool names_are_words z)) p

pub names_list : (t : SplType) → names_are_words (T.List t) ≡ names_are_words t
names_list t = names_at (T.List t) (S.List t) (T.outs-List t)

pub names_map : (k t : SplType) → names_are_words (T.Map k t) ≡ (names_are_words k && names_are_words t)
names_map k t = names_at (T.Map k t) (S.Map k t) (T.outs-Map k t)

pub names_tuple : (schema : List (Named SplType)) → names_are_words (T.Tuple schema) ≡ schema_has_words schema
names_tuple schema = names_at (T.Tuple schema) (S.Tuple schema) (T.outs-Tuple schema) ∙ each schema
  where
    each : (schema : List (Named SplType)) → list_all {X = Named Bool} (λ a. is_word a.name && a.kind) (map {A = Named SplType} (λ a. record { name = a.name; kind = names_are_words a.kind }) schema) ≡ schema_has_words schema
    each [] = refl
    each (a ∷ schema) = ap (λ z. (is_word a.name && names_are_words a.kind) && z) (each schema)

letter_begins : (b : ℕ) → is_letter b ≡ true → is_blank b ≡ false
letter_begins b h = by (cases_Bool (b == 32)) (cases_Bool (b == 9)) (cases_Bool (b == 13))
  where
    no : (c : ℕ) → b ≡ c → is_letter c ≡ false → is_blank b ≡ false
    no c e f = absurd (let bad : false ≡ true = sym f ∙ ap is_letter (sym e) ∙ h in cc bad)

    by : ((b == 32) ≡ true) ⊎ ((b == 32) ≡ false) → ((b == 9) ≡ true) ⊎ ((b == 9) ≡ false) → ((b == 13) ≡ true) ⊎ ((b == 13) ≡ false) → is_blank b ≡ false
    by (inl e) y z = no 32 (eqb-true b 32 e) refl
    by (inr e) (inl f) z = no 9 (eqb-true b 9 f) refl
    by (inr e) (inr f) (inl g) = no 13 (eqb-true b 13 g) refl
    by (inr e) (inr f) (inr g) = λ i. e i || (f i || g i)

word_begins : (name : List ℕ) → is_word name ≡ true → begins_blank name ≡ false
word_begins [] h = refl
word_begins (b ∷ bs) h = letter_begins b (first_so (is_letter b) (list_all (λ c. is_letter c || is_digit c) bs) h)

-- ---- values

inside_of : (pieces : List (List ℕ)) → Inside pieces (join_with_byte 44 pieces)
inside_of [] = Inside.nothing [] refl
inside_of (p ∷ ps) = Inside.pieces p ps

-- without blanks around it
alone : (t : SplType) (bytes : List ℕ) (v : Value) → SpellsValue t bytes v → Spells t bytes v
alone t bytes v s = subst (λ z. Spells t z v) (append-nil bytes) (Spells.between t [] bytes [] v refl s refl)

abbrev Spelled : SplType → Type 0
Spelled t = (v : Value) → IsTrue (names_are_words t) → IsTrue (fits t v) → SpellsValue t (value_text t v) v

int_spelled : (k : IntKind) → Spelled (T.Int k)
int_spelled k v names fit =
    let is = int_from_fits k v fit in
    subst (λ z. SpellsValue (T.Int k) (value_text (T.Int k) z) z) (sym is.1)
    (subst (λ z. SpellsValue (T.Int k) z (V.Int is.0)) (sym (text_of_int k is.0)) (SpellsValue.integer k (signed_decimal is.0) is.0 (kind_of_decimal k is.0 is.2)))

bool_spelled : Spelled T.Bool
bool_spelled v names fit =
    let is = bool_from_fits v fit in
    subst (λ z. SpellsValue T.Bool (value_text T.Bool z) z) (sym is.1) (by is.0)
  where
    by : (b : Bool) → SpellsValue T.Bool (value_text T.Bool (V.Bool b)) (V.Bool b)
    by true = subst (λ z. SpellsValue T.Bool z (V.Bool true)) (sym (text_of_bool true)) SpellsValue.yes
    by false = subst (λ z. SpellsValue T.Bool z (V.Bool false)) (sym (text_of_bool false)) SpellsValue.no

text_spelled : Spelled T.Text
text_spelled v names fit =
    let is = text_from_fits v fit in
    subst (λ z. SpellsValue T.Text (value_text T.Text z) z) (sym is.1)
    (subst (λ z. SpellsValue T.Text z (V.Text is.0)) (sym (text_of_text is.0)) (SpellsValue.text (escaped is.0) is.0 (escaped_means is.0)))

elements_spelled : (t : SplType) → Spelled t → IsTrue (names_are_words t) → (vs : List Value) → list_all (fits t) vs ≡ true → SpellElements t (map (value_text t) vs) vs
elements_spelled t h names [] fit = SpellElements.no_element t
elements_spelled t h names (v ∷ vs) fit =
    SpellElements.element t (value_text t v) v (map (value_text t) vs) vs (alone t (value_text t v) v (h v names (first_so (fits t v) (list_all (fits t) vs) fit)))
    (elements_spelled t h names vs (second_so (fits t v) (list_all (fits t) vs) fit))

list_spelled : (t : SplType) → Spelled t → Spelled (T.List t)
list_spelled t h v names fit =
    let is = list_from_fits t v fit in
    let pieces = map (value_text t) is.0 in
    subst (λ z. SpellsValue (T.List t) (value_text (T.List t) z) z) (sym is.1)
    (subst (λ z. SpellsValue (T.List t) z (V.List is.0)) (sym (text_of_list t is.0))
    (SpellsValue.list t pieces (join_with_byte 44 pieces) is.0 (elements_spelled t h (sym (names_list t) ∙ names) is.0 is.2) (inside_of pieces)))

pairs_spelled : (k t : SplType) → Spelled k → Spelled t → IsTrue (names_are_words k) → IsTrue (names_are_words t) → (ps : List (Value × Value)) → list_all (pair_fits k t) ps ≡ true
    → SpellPairs k t (map (pair_text (value_text k) (value_text t)) ps) ps
pairs_spelled k t h g names_key names [] fit = SpellPairs.no_pair k t
pairs_spelled k t h g names_key names (p ∷ ps) fit =
    let here = first_so (pair_fits k t p) (list_all (pair_fits k t) ps) fit in
    SpellPairs.pair k t (value_text k p.0) (value_text t p.1) p.0 p.1 (map (pair_text (value_text k) (value_text t)) ps) ps
    (alone k (value_text k p.0) p.0 (h p.0 names_key (first_so (fits k p.0) (fits t p.1) here)))
    (alone t (value_text t p.1) p.1 (g p.1 names (second_so (fits k p.0) (fits t p.1) here)))
    (pairs_spelled k t h g names_key names ps (second_so (pair_fits k t p) (list_all (pair_fits k t) ps) fit))

map_spelled : (k t : SplType) → Spelled k → Spelled t → Spelled (T.Map k t)
map_spelled k t h g v names fit =
    let is = map_from_fits k t v fit in
    let pieces = map (pair_text (value_text k) (value_text t)) is.0 in
    let both = sym (names_map k t) ∙ names in
    let own = SpellsValue.map_of k t pieces (join_with_byte 44 pieces) is.0
    (pairs_spelled k t h g (first_so (names_are_words k) (names_are_words t) both) (second_so (names_are_words k) (names_are_words t) both) is.0 is.3) (inside_of pieces) in
    subst (λ z. SpellsValue (T.Map k t) (value_text (T.Map k t) z) z) (sym is.1)
    (subst (λ z. SpellsValue (T.Map k t) z (V.Map is.0)) (sym (text_of_map k t is.0))
    (subst (λ z. SpellsValue (T.Map k t) (123 ∷ (join_with_byte 44 pieces ++ 125 ∷ [])) (V.Map z)) (put_sorted is.0 is.2) own))

attributes_spelled : (schema : List (Named SplType)) → AllByRecursion (λ a. Spelled a.kind) schema → (vs : List Value) → schema_has_words schema ≡ true → tuple_fits schema vs ≡ true
    → SpellAttributes schema (attribute_texts value_text schema vs) vs
attributes_spelled [] h [] names fit = SpellAttributes.no_attribute
attributes_spelled [] h (v ∷ vs) names fit = absurd (cc)
attributes_spelled (a ∷ schema) h [] names fit = absurd (cc)
attributes_spelled (a ∷ schema) h (v ∷ vs) names fit =
    let here = first_so (is_word a.name && names_are_words a.kind) (schema_has_words schema) names in
    SpellAttributes.attribute a schema [] [] (value_text a.kind v) v (attribute_texts value_text schema vs) vs
    (word_begins a.name (first_so (is_word a.name) (names_are_words a.kind) here)) refl refl
    (alone a.kind (value_text a.kind v) v (h.0 v (second_so (is_word a.name) (names_are_words a.kind) here) (first_so (fits a.kind v) (tuple_fits schema vs) fit)))
    (attributes_spelled schema h.1 vs (second_so (is_word a.name && names_are_words a.kind) (schema_has_words schema) names) (second_so (fits a.kind v) (tuple_fits schema vs) fit))

fields_spelled : (schema : List (Named SplType)) → AllByRecursion (λ a. Spelled a.kind) schema → (vs : List Value) → schema_has_words schema ≡ true → tuple_fits schema vs ≡ true
    → SpellsValue (T.Tuple schema) (txt_text schema vs) (V.Tuple vs)
fields_spelled schema h vs names fit =
    let pieces = attribute_texts value_text schema vs in
    SpellsValue.tuple schema pieces (join_with_byte 44 pieces) vs (attributes_spelled schema h vs names fit) (inside_of pieces)

tuple_spelled : (schema : List (Named SplType)) → AllByRecursion (λ a. Spelled a.kind) schema → Spelled (T.Tuple schema)
tuple_spelled schema h v names fit =
    let is = tuple_from_fits schema v fit in
    subst (λ z. SpellsValue (T.Tuple schema) (value_text (T.Tuple schema) z) z) (sym is.1)
    (subst (λ z. SpellsValue (T.Tuple schema) z (V.Tuple is.0)) (sym (text_of_tuple schema is.0)) (fields_spelled schema h is.0 (sym (names_tuple schema) ∙ names) is.2))

all_spelled : (t : SplType) → Spelled t
all_spelled = type_ind Spelled (record { int = int_spelled; bool = bool_spelled; text = text_spelled; list = list_spelled; map_of = map_spelled; tuple = tuple_spelled })

each_spelled : (schema : List (Named SplType)) → AllByRecursion (λ a. Spelled a.kind) schema
each_spelled [] = tt
each_spelled (a ∷ schema) = (all_spelled a.kind, each_spelled schema)

pub written_spells : WrittenLaw
written_spells schema vs names fit = alone (T.Tuple schema) (txt_text schema vs) (V.Tuple vs) (fields_spelled schema (each_spelled schema) vs names fit)

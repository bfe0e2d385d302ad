-- The built-in calls, by an equation for each shape of arguments; and the proofs of their laws.
use Rattle.std.specs.Prelude.{◌≡◌, ◌≢◌, ℕ, suc, ◌<ℤ◌, T, take, drop, ◌-◌, ◌*◌, ◌<◌, ◌≤◌, min, ℤ, ◌+ℤ◌, ◌*ℤ◌, pos, negsuc, nat_abs, nat_lt, Bool, true, false, ◌&&◌, IsTrue, if◌then◌else◌, List, [], ◌∷◌, ◌++◌, length}
use Rattle.std.specs.List.{list_all}
use Rattle.std.specs.declared.cmp.Ordering.{Ordering}
use Rattle.std.specs.declared.cmp.Ordering.TheVariants.{Less, Equal, Greater}
use Rattle.std.specs.Ordering.{is_gt}
use Rattle.std.proofs.Common.{refl, sym, ap, subst, ◌∙◌, inl, inr, arith, append_assoc}
use Rattle.std.proofs.lemmas.Bool.{ltb-true, ltb-false, lt-ltb}
use Rattle.std.proofs.lemmas.Int.{ints}
use Rattle.std.proofs.lemmas.List.{take-append-drop, length-take, length-take-le, length-drop}
use Rattle.std.proofs.lemmas.List.Folds.{list_all-append}
use Rattle.spl_value.specs.declared.item.Evaluated.{Evaluated}
use Rattle.spl_value.specs.declared.item.Evaluated.TheVariants as E
use Rattle.spl_value.specs.declared.item.FaultKind.TheVariants.{Index}
use Rattle.spl_value.specs.declared.types.IntKind.{IntKind}
use Rattle.spl_value.specs.declared.types.IntKind.TheVariants.{I8, I16, I32, I64, U8, U16, U32, U64}
use Rattle.spl_value.specs.declared.types.SplType.{SplType}
use Rattle.spl_value.specs.declared.types.SplType.TheVariants as S
use Rattle.spl_value.specs.declared.value.Value.{Value}
use Rattle.spl_value.specs.declared.value.Value.TheVariants as V
use Rattle.spl_value.specs.declared.value.Value.TheOpen as O
use Rattle.spl_value.specs.declared.value.Value.TheViews.{out-Value}
use Rattle.spl_value.proofs.FitsLaws.{fits_int, fits_bool, fits_text, fits_list, fits_map, int_from_fits, text_from_fits, list_from_fits, map_from_fits, without_fits}
use Rattle.spl_value.specs.Order.{value_cmp}
use Rattle.spl_value.proofs.OrderLaws.{value_cmp-itself}
use Rattle.spl_value.proofs.PairsLaws.{turned}
use Rattle.spl_value.specs.Pairs.{pairs_contain, pairs_without}
use Rattle.spl_value.specs.Values.{fits, modulus, top}
use Rattle.spl_value.specs.Wrap.{wrapped}
use Rattle.spl_value.proofs.WrapLaws.{sizes, wrapped_belongs, wrapped_kept, one_wrapped}
use Rattle.spl_value.specs.Calls.{CallOutcome, Gives, Faults, Unfit, count_value, length_at, length_of, size_at, size_of, has_at, has_key, append_at, append_of, remove_at, remove_of, clear_at, clear_of, abs_at, abs_of, are_alike, lesser, greater, min_of, max_of, part_of, substring_at, substring_of, IsOrdered, FitOrdered, Exactly, Answers, GivesOf, GivesOrIndex}
use Rattle.spl_value.specs.CallsLaws.{AbsLaw, AppendLaw, ClearLaw, CountLaw, DistanceLaw, GreatestLaw, HasLaw, IndexLaw, IsGreatest, IsLeast, IsOutside, IsPart, LeastLaw, LeastNumberLaw, LengthLaw, MaxLaw, MinLaw, PartLaw, RemoveLaw, SizeLaw, SubstringLaw}

-- ---- shape by shape

pub length_of_text : (bytes : List ℕ) → length_of (V.Text bytes) ≡ Gives (count_value (length bytes))
length_of_text bytes = ap length_at (V.outs-Text bytes)

pub size_of_list : (values : List Value) → size_of (V.List values) ≡ Gives (count_value (length values))
size_of_list values = ap size_at (V.outs-List values)

pub size_of_map : (pairs : List (Value × Value)) → size_of (V.Map pairs) ≡ Gives (count_value (length pairs))
size_of_map pairs = ap size_at (V.outs-Map pairs)

pub has_key_map : (pairs : List (Value × Value)) (key : Value) → has_key (V.Map pairs) key ≡ Gives (V.Bool (pairs_contain pairs key))
has_key_map pairs key = ap (λ x. has_at x key) (V.outs-Map pairs)

pub append_of_list : (values : List Value) (v : Value) → append_of (V.List values) v ≡ Gives (V.List (values ++ v ∷ []))
append_of_list values v = ap (λ x. append_at x v) (V.outs-List values)

pub remove_of_map : (pairs : List (Value × Value)) (key : Value) → remove_of (V.Map pairs) key ≡ Gives (V.Map (pairs_without pairs key))
remove_of_map pairs key = ap (λ x. remove_at x key) (V.outs-Map pairs)

pub clear_of_list : (values : List Value) → clear_of (V.List values) ≡ Gives (V.List [])
clear_of_list values = ap clear_at (V.outs-List values)

pub clear_of_map : (pairs : List (Value × Value)) → clear_of (V.Map pairs) ≡ Gives (V.Map [])
clear_of_map pairs = ap clear_at (V.outs-Map pairs)

pub abs_of_int : (kind : IntKind) (n : ℤ) → abs_of kind (V.Int n) ≡ Gives (V.Int (wrapped kind (pos (nat_abs n))))
abs_of_int kind n = ap (abs_at kind) (V.outs-Int n)

pub alike_ints : (n m : ℤ) → are_alike (out-Value (V.Int n)) (out-Value (V.Int m)) ≡ true
alike_ints n m = λ i. are_alike (V.outs-Int n i) (V.outs-Int m i)

pub alike_texts : (xs ys : List ℕ) → are_alike (out-Value (V.Text xs)) (out-Value (V.Text ys)) ≡ true
alike_texts xs ys = λ i. are_alike (V.outs-Text xs i) (V.outs-Text ys i)

pub substring_of_text : (bytes : List ℕ) (from count : ℤ) → substring_of (V.Text bytes) (V.Int from) (V.Int count) ≡ part_of bytes from count
substring_of_text bytes from count = λ i. substring_at (V.outs-Text bytes i) (V.outs-Int from i) (V.outs-Int count i)

pub ruleset call_laws = (length_of_text, size_of_list, size_of_map, has_key_map, append_of_list, remove_of_map, clear_of_list, clear_of_map, abs_of_int, substring_of_text)

-- ---- min and max

alike_of : (t : SplType) (a b : Value) → IsOrdered t → IsTrue (fits t a) → IsTrue (fits t b) → are_alike (out-Value a) (out-Value b) ≡ true
alike_of t a b (inl (kind, e)) f g =
    let n = int_from_fits kind a (subst (λ (u : SplType). IsTrue (fits u a)) e f) in
    let m = int_from_fits kind b (subst (λ (u : SplType). IsTrue (fits u b)) e g) in
    (λ i. are_alike (out-Value (n.1 i)) (out-Value (m.1 i))) ∙ alike_ints n.0 m.0
alike_of t a b (inr e) f g =
    let xs = text_from_fits a (subst (λ (u : SplType). IsTrue (fits u a)) e f) in
    let ys = text_from_fits b (subst (λ (u : SplType). IsTrue (fits u b)) e g) in
    (λ i. are_alike (out-Value (xs.1 i)) (out-Value (ys.1 i))) ∙ alike_texts xs.0 ys.0

pub min_of_alike : (a b : Value) → FitOrdered a b → min_of a b ≡ Gives (lesser a b)
min_of_alike a b (t, o, f, g) = rw (alike_of t a b o f g) refl

pub max_of_alike : (a b : Value) → FitOrdered a b → max_of a b ≡ Gives (greater a b)
max_of_alike a b (t, o, f, g) = rw (alike_of t a b o f g) refl

-- ---- answers

pub exactly_answers : (result : Evaluated) (called : CallOutcome) → Exactly result called → Answers result called
exactly_answers (E.Value v) called h = h
exactly_answers (E.Bad kind) called h = h
exactly_answers E.Memory called h = tt

-- ---- arguments that fit

-- a call that gives a value of the type
gives : (t : SplType) (v : Value) (called : CallOutcome) → called ≡ Gives v → IsTrue (fits t v) → GivesOf t called
gives t v called e h = subst (GivesOf t) (sym e) h

wrapped_fits : (kind : IntKind) (n : ℤ) → IsTrue (fits (S.Int kind) (V.Int (wrapped kind n)))
wrapped_fits kind n = fits_int kind (wrapped kind n) ∙ wrapped_belongs kind n

pub length_law : LengthLaw
length_law text f =
    let is = text_from_fits text f in
    gives (S.Int I32) (count_value (length is.0)) (length_of text) (ap length_of is.1 ∙ length_of_text is.0) (wrapped_fits I32 (pos (length is.0)))

pub size_law : SizeLaw
size_law v (t, inl (element, e), f) =
    let is = list_from_fits element v (subst (λ (u : SplType). IsTrue (fits u v)) e f) in
    gives (S.Int I32) (count_value (length is.0)) (size_of v) (ap size_of is.1 ∙ size_of_list is.0) (wrapped_fits I32 (pos (length is.0)))
size_law v (t, inr (key, held, e), f) =
    let is = map_from_fits key held v (subst (λ (u : SplType). IsTrue (fits u v)) e f) in
    gives (S.Int I32) (count_value (length is.0)) (size_of v) (ap size_of is.1 ∙ size_of_map is.0) (wrapped_fits I32 (pos (length is.0)))

pub has_law : HasLaw
has_law map key (k, t, f, g) =
    let is = map_from_fits k t map f in
    gives S.Bool (V.Bool (pairs_contain is.0 key)) (has_key map key) (ap (λ m. has_key m key) is.1 ∙ has_key_map is.0 key) (fits_bool (pairs_contain is.0 key))

all_appended : (p : Value → Bool) (vs : List Value) (v : Value) → list_all p vs ≡ true → p v ≡ true → list_all p (vs ++ v ∷ []) ≡ true
all_appended p vs v h e = list_all-append p vs (v ∷ []) ∙ (λ i. h i && (e i && true))

pub append_law : AppendLaw
append_law t list v f g =
    let is = list_from_fits t list f in
    gives (S.List t) (V.List (is.0 ++ v ∷ [])) (append_of list v) (ap (λ l. append_of l v) is.1 ∙ append_of_list is.0 v)
    (fits_list t (is.0 ++ v ∷ []) ∙ all_appended (fits t) is.0 v is.2 g)

pub remove_law : RemoveLaw
remove_law k t map key f g =
    let is = map_from_fits k t map f in
    gives (S.Map k t) (V.Map (pairs_without is.0 key)) (remove_of map key) (ap (λ m. remove_of m key) is.1 ∙ remove_of_map is.0 key)
    (without_fits k t is.0 key (subst (λ (m : Value). IsTrue (fits (S.Map k t) m)) is.1 f))

pub clear_law : ClearLaw
clear_law t v (inl (element, e)) f =
    let is = list_from_fits element v (subst (λ (u : SplType). IsTrue (fits u v)) e f) in
    gives t (V.List []) (clear_of v) (ap clear_of is.1 ∙ clear_of_list is.0) (ap (λ (u : SplType). fits u (V.List [])) e ∙ fits_list element [])
clear_law t v (inr (key, held, e)) f =
    let is = map_from_fits key held v (subst (λ (u : SplType). IsTrue (fits u v)) e f) in
    gives t (V.Map []) (clear_of v) (ap clear_of is.1 ∙ clear_of_map is.0) (ap (λ (u : SplType). fits u (V.Map [])) e ∙ fits_map key held [])

pub abs_law : AbsLaw
abs_law kind n f =
    let is = int_from_fits kind n f in
    gives (S.Int kind) (V.Int (wrapped kind (pos (nat_abs is.0)))) (abs_of kind n) (ap (abs_of kind) is.1 ∙ abs_of_int kind is.0) (wrapped_fits kind (pos (nat_abs is.0)))

either_fits : (t : SplType) (b : Bool) (v w : Value) → IsTrue (fits t v) → IsTrue (fits t w) → IsTrue (fits t (if b then v else w))
either_fits t true v w f g = f
either_fits t false v w f g = g

pub min_law : MinLaw
min_law t a b o f g = gives t (lesser a b) (min_of a b) (min_of_alike a b (t, o, f, g)) (either_fits t (is_gt (value_cmp a b)) b a g f)

pub max_law : MaxLaw
max_law t a b o f g = gives t (greater a b) (max_of a b) (max_of_alike a b (t, o, f, g)) (either_fits t (is_gt (value_cmp a b)) a b f g)

any_part : (bytes : List ℕ) (from count : ℤ) → GivesOrIndex S.Text (part_of bytes from count)
any_part bytes (pos from) (pos count) =
    elim (nat_lt (length bytes) from) as (λ b. GivesOrIndex S.Text (if b then Faults Index else Gives (V.Text (take count (drop from bytes))))) [
      | true ↦ tt
      | false ↦ fits_text (take count (drop from bytes))
    ]
any_part bytes (pos from) (negsuc count) = tt
any_part bytes (negsuc from) (pos count) = tt
any_part bytes (negsuc from) (negsuc count) = tt

pub substring_law : SubstringLaw
substring_law s from count f g h =
    let bytes = text_from_fits s f in
    let start = int_from_fits I32 from g in
    let most = int_from_fits I32 count h in
    subst (GivesOrIndex S.Text)
    (sym ((λ i. substring_of (bytes.1 i) (start.1 i) (most.1 i)) ∙ substring_of_text bytes.0 start.0 most.0))
    (any_part bytes.0 start.0 most.0)

-- ---- the same in other words

pub count_law : CountLaw
count_law n h = ap V.Int (wrapped_kept I32 (pos n) (lt-ltb n (top I32) h))

pub distance_law : DistanceLaw
distance_law kind n h = abs_of_int kind n ∙ ap (λ z. Gives (V.Int z)) (wrapped_kept kind (pos (nat_abs n)) h)

-- a kind has at most as many numbers below 0 as others
halves : (k : IntKind) → modulus k ≤ 2 * top k
halves I8 = omega arith
halves I16 = omega arith
halves I32 = omega arith
halves I64 = omega arith
halves U8 = omega arith
halves U16 = omega arith
halves U32 = omega arith
halves U64 = omega arith

turned_back : (m q : ℕ) → q ≡ 2 * suc m → negsuc m ≡ pos (suc m) +ℤ negsuc 0 *ℤ pos q
turned_back m q e = grind (arith, ints)

pub least_number_law : LeastNumberLaw
least_number_law kind (pos m) h g = absurd cc
least_number_law kind (negsuc m) h g =
    let s = sizes kind in
    let t = halves kind in
    let below = ltb-true m (modulus kind - top kind) h in
    let above = ltb-false (suc m) (top kind) g in
    let twice : modulus kind ≡ 2 * suc m = omega arith in
    abs_of_int kind (negsuc m)
    ∙ ap (λ z. Gives (V.Int z)) (sym (one_wrapped kind (negsuc m) (pos (suc m)) h (negsuc 0, turned_back m (modulus kind) twice)))

given : (c : Bool) (v w : Value) → (if c then Gives w else Unfit) ≡ Gives v → w ≡ v
given true v w e = cc
given false v w e = absurd cc

apart : (v w : Value) (o p : Ordering) → value_cmp v w ≡ o → (o ≡ p → ⊥) → value_cmp v w ≢ p
apart v w o p e h g = h (sym e ∙ g)

least_at : (a b : Value) (o : Ordering) → value_cmp a b ≡ o → IsLeast a b (if is_gt o then b else a)
least_at a b Less e = (inl refl, apart a a Equal Greater (value_cmp-itself a) (λ g. cc), apart a b Less Greater e (λ g. cc))
least_at a b Equal e = (inl refl, apart a a Equal Greater (value_cmp-itself a) (λ g. cc), apart a b Equal Greater e (λ g. cc))
least_at a b Greater e = (inr refl, apart b a Less Greater (turned a b Greater e) (λ g. cc), apart b b Equal Greater (value_cmp-itself b) (λ g. cc))

pub least_law : LeastLaw
least_law a b v e = subst (IsLeast a b) (given (are_alike (out-Value a) (out-Value b)) v (lesser a b) e) (least_at a b (value_cmp a b) refl)

greatest_at : (a b : Value) (o : Ordering) → value_cmp a b ≡ o → IsGreatest a b (if is_gt o then a else b)
greatest_at a b Less e = (inr refl, apart b a Greater Less (turned a b Less e) (λ g. cc), apart b b Equal Less (value_cmp-itself b) (λ g. cc))
greatest_at a b Equal e = (inr refl, apart b a Equal Less (turned a b Equal e) (λ g. cc), apart b b Equal Less (value_cmp-itself b) (λ g. cc))
greatest_at a b Greater e = (inl refl, apart a a Equal Less (value_cmp-itself a) (λ g. cc), apart a b Greater Less e (λ g. cc))

pub greatest_law : GreatestLaw
greatest_law a b v e = subst (IsGreatest a b) (given (are_alike (out-Value a) (out-Value b)) v (greater a b) e) (greatest_at a b (value_cmp a b) refl)

same_text : (xs ys : List ℕ) → V.Text xs ≡ V.Text ys → xs ≡ ys
same_text xs ys e = let same : O.Text xs ≡ O.Text ys = sym (V.outs-Text xs) ∙ ap out-Value e ∙ V.outs-Text ys in cc

part_at : (bytes part : List ℕ) (from count : ℕ) (c : Bool) → nat_lt (length bytes) from ≡ c
    → (if c then Faults Index else Gives (V.Text (take count (drop from bytes)))) ≡ Gives (V.Text part) → IsPart bytes from count part
part_at bytes part from count true h e = absurd cc
part_at bytes part from count false h e =
    let within = ltb-false (length bytes) from h in
    let same : V.Text (take count (drop from bytes)) ≡ V.Text part = cc in
    subst (IsPart bytes from count) (same_text (take count (drop from bytes)) part same) (
      take from bytes,
      drop count (drop from bytes),
      sym (append_assoc (take from bytes) (take count (drop from bytes)) (drop count (drop from bytes)) ∙ ap (λ l. take from bytes ++ l) (take-append-drop count (drop from bytes)) ∙ take-append-drop from bytes),
      length-take-le from bytes within,
      length-take count (drop from bytes) ∙ ap (min count) (length-drop from bytes),
    )

pub part_law : PartLaw
part_law bytes part from count e = part_at bytes part from count (nat_lt (length bytes) from) refl (sym (substring_of_text bytes (pos from) (pos count)) ∙ e)

outside_at : (bytes : List ℕ) (from count : ℤ) → part_of bytes from count ≡ Faults Index → IsOutside bytes from count
outside_at bytes (pos from) (pos count) e = by (nat_lt (length bytes) from) refl e
  where
    by : (b : Bool) → nat_lt (length bytes) from ≡ b → (if b then Faults Index else Gives (V.Text (take count (drop from bytes)))) ≡ Faults Index
        → IsOutside bytes (pos from) (pos count)
    by true is e = inr (inl (record { lt = subst T (sym is) tt }))
    by false is e = absurd cc
outside_at bytes (negsuc from) count e = inl (record { lt = tt })
outside_at bytes (pos from) (negsuc count) e = inr (inr (record { lt = tt }))

true_from : {b : Bool} → T b → b ≡ true
true_from {b = true} h = refl
true_from {b = false} h = absurd h

not_negative : (n : ℕ) → pos n <ℤ pos 0 → ⊥
not_negative n h = let lt = ltb-true n 0 (true_from h.lt) in absurd (omega arith)

index_at : (bytes : List ℕ) (from count : ℤ) → IsOutside bytes from count → part_of bytes from count ≡ Faults Index
index_at bytes (pos from) (pos count) (inl h) = absurd (not_negative from h)
index_at bytes (pos from) (pos count) (inr (inl h)) =
    ap (λ (b : Bool). if b then Faults Index else Gives (V.Text (take count (drop from bytes)))) (true_from h.lt)
index_at bytes (pos from) (pos count) (inr (inr h)) = absurd (not_negative count h)
index_at bytes (negsuc from) count h = refl
index_at bytes (pos from) (negsuc count) h = refl

pub index_law : IndexLaw
index_law bytes from count =
    (λ e. outside_at bytes from count (sym (substring_of_text bytes from count) ∙ e), λ h. substring_of_text bytes from count ∙ index_at bytes from count h)

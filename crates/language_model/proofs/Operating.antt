-- Operators and calls on values of the types that they take give values of their types, or faults.
use Rattle.std.specs.Prelude.{◌≡◌, ℕ, zero, suc, ℤ, pos, negsuc, neg_ℤ, ◌+ℤ◌, ◌-ℤ◌, ◌*ℤ◌, int_div, int_rem, Bool, true, not, if◌then◌else◌, IsTrue, List, [], ◌∷◌, ◌++◌, Option, None, Some, slice_get}
use Rattle.std.specs.List.{list_all, list_any, AllZip}
use Rattle.std.specs.Int.Bits.{bit_and, bit_or, bit_xor}
use Rattle.std.specs.Fmt.{signed_decimal}
use Rattle.std.specs.Cmp.{first_so, second_so}
use Rattle.std.proofs.Common.{refl, sym, ap, subst, ◌∙◌, inl, inr}
use Rattle.spl_value.specs.declared.item.FaultKind.{FaultKind}
use Rattle.spl_value.specs.declared.item.FaultKind.TheVariants as K
use Rattle.spl_value.specs.declared.types.IntKind.{IntKind}
use Rattle.spl_value.specs.declared.types.IntKind.TheVariants.{I32}
use Rattle.spl_value.specs.declared.types.Named.{Named}
use Rattle.spl_value.specs.declared.types.SplType.{SplType}
use Rattle.spl_value.specs.declared.types.SplType.TheVariants as S
use Rattle.spl_value.specs.declared.value.Value.{Value}
use Rattle.spl_value.specs.declared.value.Value.TheVariants as V
use Rattle.spl_value.specs.declared.value.Value.TheOpen as O
use Rattle.spl_value.specs.declared.value.Value.TheViews.{out-Value}
use Rattle.spl_value.specs.Calls.{CallOutcome, Gives, Faults, Unfit, are_alike, length_of, size_of, has_key, abs_of, min_of, max_of, substring_of, IsOrdered, GivesOf, GivesOrIndex}
use Rattle.spl_value.proofs.CallsLaws.{length_law, size_law, has_law, abs_law, min_law, max_law, substring_law}
use Rattle.spl_value.proofs.FitsLaws.{fits_int, fits_bool, fits_text, pair_fits, int_from_fits, bool_from_fits, text_from_fits, list_from_fits, map_from_fits, tuple_from_fits, all_at, get_fits}
use Rattle.spl_value.specs.Order.{value_cmp}
use Rattle.spl_value.specs.Pairs.{pairs_get, pairs_contain}
use Rattle.spl_value.specs.Values.{fits, tuple_fits}
use Rattle.spl_value.specs.Wrap.{wrapped}
use Rattle.spl_value.proofs.WrapLaws.{wrapped_belongs}
use Rattle.spl_tree.specs.declared.code.UnaryCode.{UnaryCode}
use Rattle.spl_tree.specs.declared.code.UnaryCode.TheVariants as U
use Rattle.spl_tree.specs.declared.code.BinaryCode.TheVariants as D
use Rattle.spl_tree.specs.declared.code.IntegerOperator.{IntegerOperator}
use Rattle.spl_tree.specs.declared.code.IntegerOperator.TheVariants as I
use Rattle.spl_tree.specs.declared.code.OrderOperator.{OrderOperator}
use Rattle.spl_tree.specs.declared.code.BuiltIn.{BuiltIn}
use Rattle.spl_tree.specs.declared.code.BuiltIn.TheVariants as Q
use Rattle.language_model.specs.CodeFits as F
use Rattle.language_model.specs.CodeFits.{UnaryGives, BuiltInGives}
use Rattle.language_model.specs.parts.BuiltInCalls.{built_in_of}
use Rattle.language_model.specs.Operators.{integer, divided, bits_of, on_bits, on_integers, level_integers, in_order, level_join, level_in_list, level_in_map, binary_of, level_unary, level_member, element_at, level_element, level_at_key, level_truth}
use Rattle.language_model.specs.parts.Operators.{boolean, bool_text, unary_of, found, truth_of}
use Rattle.language_model.proofs.parts.Operators.{ordered, is_equal, given}
use Rattle.language_model.proofs.BuiltInCalls.{length_called, size_called, has_called, abs_called, min_called, max_called, substring_called}
use Rattle.language_model.proofs.Yielding.{IsThere, AnyAnswer, OfType, Settles}

pub settles_by : (t : SplType) (called other : CallOutcome) → called ≡ other → Settles t other → Settles t called
settles_by t called other e h = subst (Settles t) (sym e) h

settles_given : (t : SplType) (called : CallOutcome) → GivesOf t called → Settles t called
settles_given t (Gives v) h = h
settles_given t (Faults kind) h = absurd h
settles_given t Unfit h = absurd h

-- a call that gives what another one gives
pub settles_as : (t : SplType) (called other : CallOutcome) → called ≡ other → GivesOf t other → Settles t called
settles_as t called other e h = settles_by t called other e (settles_given t other h)

settles_or_index : (t : SplType) (called : CallOutcome) → GivesOrIndex t called → Settles t called
settles_or_index t (Gives v) h = h
settles_or_index t (Faults kind) h = tt
settles_or_index t Unfit h = absurd h

-- ---- the variant of a value of a type

level_int : (k : IntKind) (v : Value) → OfType (S.Int k) v → (n : ℤ) × (out-Value v ≡ O.Int n)
level_int k v h = let is = int_from_fits k v h in (is.0, ap out-Value is.1 ∙ V.outs-Int is.0)

level_bool : (v : Value) → OfType S.Bool v → (b : Bool) × (out-Value v ≡ O.Bool b)
level_bool v h = let is = bool_from_fits v h in (is.0, ap out-Value is.1 ∙ V.outs-Bool is.0)

level_text : (v : Value) → OfType S.Text v → (bytes : List ℕ) × (out-Value v ≡ O.Text bytes)
level_text v h = let is = text_from_fits v h in (is.0, ap out-Value is.1 ∙ V.outs-Text is.0)

pub level_list : (t : SplType) (v : Value) → OfType (S.List t) v → (vs : List Value) × (out-Value v ≡ O.List vs) × IsTrue (list_all (fits t) vs)
level_list t v h = let is = list_from_fits t v h in (is.0, ap out-Value is.1 ∙ V.outs-List is.0, is.2)

level_map : (k t : SplType) (v : Value) → OfType (S.Map k t) v → (ps : List (Value × Value)) × (out-Value v ≡ O.Map ps) × IsTrue (list_all (pair_fits k t) ps)
level_map k t v h = let is = map_from_fits k t v h in (is.0, ap out-Value is.1 ∙ V.outs-Map is.0, is.3)

pub level_tuple : (schema : List (Named SplType)) (v : Value) → OfType (S.Tuple schema) v → (vs : List Value) × (out-Value v ≡ O.Tuple vs) × IsTrue (tuple_fits schema vs)
level_tuple schema v h = let is = tuple_from_fits schema v h in (is.0, ap out-Value is.1 ∙ V.outs-Tuple is.0, is.2)

-- a boolean is true or false
pub truth_there : (v : Value) → OfType S.Bool v → IsThere AnyAnswer (truth_of v)
truth_there v h = let is = level_bool v h in (is.0, ap level_truth is.1, tt)

-- ---- integers

integer_settles : (k : IntKind) (n : ℤ) → Settles (S.Int k) (integer k n)
integer_settles k n = fits_int k (wrapped k n) ∙ wrapped_belongs k n

divided_settles : (k : IntKind) (f : ℤ → ℤ → ℤ) (m n : ℤ) → Settles (S.Int k) (divided k f m n)
divided_settles k f m (pos zero) = tt
divided_settles k f m (pos (suc n)) = integer_settles k (f m (pos (suc n)))
divided_settles k f m (negsuc n) = integer_settles k (f m (negsuc n))

on_bits_settle : (k : IntKind) (f : ℕ → ℕ → ℕ) (m n : ℤ) → Settles (S.Int k) (on_bits k f m n)
on_bits_settle k f m n = integer_settles k (pos (f (bits_of k m) (bits_of k n)))

on_integers_settle : (op : IntegerOperator) (k : IntKind) (m n : ℤ) → Settles (S.Int k) (on_integers op k m n)
on_integers_settle I.Multiply k m n = integer_settles k (m *ℤ n)
on_integers_settle I.Divide k m n = divided_settles k int_div m n
on_integers_settle I.Remainder k m n = divided_settles k int_rem m n
on_integers_settle I.Add k m n = integer_settles k (m +ℤ n)
on_integers_settle I.Subtract k m n = integer_settles k (m -ℤ n)
on_integers_settle I.BitAnd k m n = on_bits_settle k bit_and m n
on_integers_settle I.BitXor k m n = on_bits_settle k bit_xor m n
on_integers_settle I.BitOr k m n = on_bits_settle k bit_or m n

-- ---- operators between two operands

boolean_settles : (b : Bool) → Settles S.Bool (boolean b)
boolean_settles b = fits_bool b

pub integers_settle : (op : IntegerOperator) (k : IntKind) (v w : Value) → OfType (S.Int k) v → OfType (S.Int k) w → Settles (S.Int k) (binary_of (D.Integers op k) v w)
integers_settle op k v w f g =
    let m = level_int k v f in
    let n = level_int k w g in
    settles_by (S.Int k) (binary_of (D.Integers op k) v w) (on_integers op k m.0 n.0) (λ i. level_integers op k (m.1 i) (n.1 i)) (on_integers_settle op k m.0 n.0)

pub join_settles : (v w : Value) → OfType S.Text v → OfType S.Text w → Settles S.Text (binary_of D.Join v w)
join_settles v w f g =
    let xs = level_text v f in
    let ys = level_text w g in
    settles_by S.Text (binary_of D.Join v w) (Gives (V.Text (xs.0 ++ ys.0))) (λ i. level_join (xs.1 i) (ys.1 i)) (fits_text (xs.0 ++ ys.0))

-- values that are alike are ordered
ordered_settles : (op : OrderOperator) (v w : Value) → are_alike (out-Value v) (out-Value w) ≡ true → Settles S.Bool (ordered op v w)
ordered_settles op v w e =
    let b = in_order op (value_cmp v w) in
    settles_by S.Bool (ordered op v w) (boolean b) (ap (λ (alike : Bool). if alike then boolean b else Unfit) e) (boolean_settles b)

pub order_integers_settles : (op : OrderOperator) (k : IntKind) (v w : Value) → OfType (S.Int k) v → OfType (S.Int k) w → Settles S.Bool (binary_of (D.Order op) v w)
order_integers_settles op k v w f g =
    let m = level_int k v f in
    let n = level_int k w g in
    ordered_settles op v w (λ i. are_alike (m.1 i) (n.1 i))

pub order_texts_settles : (op : OrderOperator) (v w : Value) → OfType S.Text v → OfType S.Text w → Settles S.Bool (binary_of (D.Order op) v w)
order_texts_settles op v w f g =
    let xs = level_text v f in
    let ys = level_text w g in
    ordered_settles op v w (λ i. are_alike (xs.1 i) (ys.1 i))

pub equal_settles : (v w : Value) → Settles S.Bool (binary_of D.Equal v w)
equal_settles v w = boolean_settles (is_equal v w)

pub differs_settles : (v w : Value) → Settles S.Bool (binary_of D.NotEqual v w)
differs_settles v w = boolean_settles (not (is_equal v w))

pub in_list_settles : (t : SplType) (v w : Value) → OfType (S.List t) w → Settles S.Bool (binary_of D.InList v w)
in_list_settles t v w g =
    let is = level_list t w g in
    let b = list_any (is_equal v) is.0 in
    settles_by S.Bool (binary_of D.InList v w) (boolean b) (ap (level_in_list v) is.1) (boolean_settles b)

pub in_map_settles : (k t : SplType) (v w : Value) → OfType (S.Map k t) w → Settles S.Bool (binary_of D.InMap v w)
in_map_settles k t v w g =
    let is = level_map k t w g in
    let b = pairs_contain is.0 v in
    settles_by S.Bool (binary_of D.InMap v w) (boolean b) (ap (level_in_map v) is.1) (boolean_settles b)

-- ---- operators in front of an operand, and casts

pub unary_settles : (op : UnaryCode) (t u : SplType) → UnaryGives op t u → (v : Value) → OfType t v → Settles u (unary_of op v)
unary_settles _ _ _ F.inverts v h =
    let is = level_bool v h in
    settles_by S.Bool (unary_of U.Not v) (boolean (not is.0)) (ap (level_unary U.Not) is.1) (boolean_settles (not is.0))
unary_settles _ _ _ (F.negates k) v h =
    let is = level_int k v h in
    settles_by (S.Int k) (unary_of (U.Negate k) v) (integer k (neg_ℤ is.0)) (ap (level_unary (U.Negate k)) is.1) (integer_settles k (neg_ℤ is.0))
unary_settles _ _ _ (F.complements k) v h =
    let is = level_int k v h in
    let n = negsuc 0 -ℤ is.0 in
    settles_by (S.Int k) (unary_of (U.Complement k) v) (integer k n) (ap (level_unary (U.Complement k)) is.1) (integer_settles k n)
unary_settles _ _ _ (F.to_integer j k) v h =
    let is = level_int j v h in
    settles_by (S.Int k) (unary_of (U.ToInteger k) v) (integer k is.0) (ap (level_unary (U.ToInteger k)) is.1) (integer_settles k is.0)
unary_settles _ _ _ (F.integer_text k) v h =
    let is = level_int k v h in
    let text = signed_decimal is.0 in
    settles_by S.Text (unary_of U.ToText v) (Gives (V.Text text)) (ap (level_unary U.ToText) is.1) (fits_text text)
unary_settles _ _ _ F.bool_text v h =
    let is = level_bool v h in
    let text = bool_text is.0 in
    settles_by S.Text (unary_of U.ToText v) (Gives (V.Text text)) (ap (level_unary U.ToText) is.1) (fits_text text)

-- ---- calls

-- there is a value of each type
abbrev pub OfTypes : List SplType → List Value → Type 0
OfTypes ts vs = AllZip OfType ts vs

one_value : (t : SplType) (vs : List Value) → OfTypes (t ∷ []) vs → (v : Value) × (vs ≡ v ∷ []) × OfType t v
one_value t (v ∷ []) h = (v, refl, h.0)
one_value t [] h = absurd h
one_value t (v ∷ w ∷ vs) h = absurd h.1

two_values : (t u : SplType) (vs : List Value) → OfTypes (t ∷ u ∷ []) vs → (v w : Value) × (vs ≡ v ∷ w ∷ []) × OfType t v × OfType u w
two_values t u (v ∷ w ∷ []) h = (v, w, refl, h.0, h.1.0)
two_values t u [] h = absurd h
two_values t u (v ∷ []) h = absurd h.1
two_values t u (v ∷ w ∷ x ∷ vs) h = absurd h.1.1

three_values : (t u r : SplType) (vs : List Value) → OfTypes (t ∷ u ∷ r ∷ []) vs
    → (v w x : Value) × (vs ≡ v ∷ w ∷ x ∷ []) × OfType t v × OfType u w × OfType r x
three_values t u r (v ∷ w ∷ x ∷ []) h = (v, w, x, refl, h.0, h.1.0, h.1.1.0)
three_values t u r [] h = absurd h
three_values t u r (v ∷ []) h = absurd h.1
three_values t u r (v ∷ w ∷ []) h = absurd h.1.1
three_values t u r (v ∷ w ∷ x ∷ y ∷ vs) h = absurd h.1.1.1

on_one : (call : BuiltIn) (t r : SplType) → ((v : Value) → OfType t v → Settles r (built_in_of call (v ∷ []))) → (vs : List Value) → OfTypes (t ∷ []) vs
    → Settles r (built_in_of call vs)
on_one call t r f vs h = let is = one_value t vs h in settles_by r (built_in_of call vs) (built_in_of call (is.0 ∷ [])) (ap (built_in_of call) is.1) (f is.0 is.2)

on_two : (call : BuiltIn) (t u r : SplType) → ((v w : Value) → OfType t v → OfType u w → Settles r (built_in_of call (v ∷ w ∷ []))) → (vs : List Value)
    → OfTypes (t ∷ u ∷ []) vs → Settles r (built_in_of call vs)
on_two call t u r f vs h =
    let is = two_values t u vs h in
    settles_by r (built_in_of call vs) (built_in_of call (is.0 ∷ is.1 ∷ [])) (ap (built_in_of call) is.2) (f is.0 is.1 is.3 is.4)

on_three : (call : BuiltIn) (t u r s : SplType)
    → ((v w x : Value) → OfType t v → OfType u w → OfType r x → Settles s (built_in_of call (v ∷ w ∷ x ∷ []))) → (vs : List Value) → OfTypes (t ∷ u ∷ r ∷ []) vs
    → Settles s (built_in_of call vs)
on_three call t u r s f vs h =
    let is = three_values t u r vs h in
    settles_by s (built_in_of call vs) (built_in_of call (is.0 ∷ is.1 ∷ is.2 ∷ [])) (ap (built_in_of call) is.3) (f is.0 is.1 is.2 is.4 is.5 is.6)

-- of two values of a type that is ordered
min_settles : (t : SplType) → IsOrdered t → (vs : List Value) → OfTypes (t ∷ t ∷ []) vs → Settles t (built_in_of Q.Min vs)
min_settles t o = on_two Q.Min t t t (λ v w f g. settles_as t (built_in_of Q.Min (v ∷ w ∷ [])) (min_of v w) (min_called v w) (min_law t v w o f g))

max_settles : (t : SplType) → IsOrdered t → (vs : List Value) → OfTypes (t ∷ t ∷ []) vs → Settles t (built_in_of Q.Max vs)
max_settles t o = on_two Q.Max t t t (λ v w f g. settles_as t (built_in_of Q.Max (v ∷ w ∷ [])) (max_of v w) (max_called v w) (max_law t v w o f g))

pub built_in_settles : (call : BuiltIn) (ts : List SplType) (t : SplType) → BuiltInGives call ts t → (vs : List Value) → OfTypes ts vs → Settles t (built_in_of call vs)
built_in_settles _ _ _ F.text_length vs h =
    on_one Q.Length S.Text (S.Int I32) (λ v f. settles_as (S.Int I32) (built_in_of Q.Length (v ∷ [])) (length_of v) (length_called v) (length_law v f)) vs h
built_in_settles _ _ _ (F.list_size t) vs h =
    on_one Q.Size (S.List t) (S.Int I32) (λ v f. settles_as (S.Int I32) (built_in_of Q.Size (v ∷ [])) (size_of v) (size_called v) (size_law v (S.List t, inl (t, refl), f))) vs h
built_in_settles _ _ _ (F.map_size k t) vs h =
    on_one Q.Size (S.Map k t) (S.Int I32) (λ v f. settles_as (S.Int I32) (built_in_of Q.Size (v ∷ [])) (size_of v) (size_called v) (size_law v (S.Map k t, inr (k, t, refl), f))) vs h
built_in_settles _ _ _ (F.has k t) vs h =
    on_two Q.Has (S.Map k t) k S.Bool (λ v w f g. settles_as S.Bool (built_in_of Q.Has (v ∷ w ∷ [])) (has_key v w) (has_called v w) (has_law v w (k, t, f, g))) vs h
built_in_settles _ _ _ (F.abs k) vs h =
    on_one (Q.Abs k) (S.Int k) (S.Int k) (λ v f. settles_as (S.Int k) (built_in_of (Q.Abs k) (v ∷ [])) (abs_of k v) (abs_called k v) (abs_law k v f)) vs h
built_in_settles _ _ _ (F.min_integer k) vs h = min_settles (S.Int k) (inl (k, refl)) vs h
built_in_settles _ _ _ F.min_text vs h = min_settles S.Text (inr refl) vs h
built_in_settles _ _ _ (F.max_integer k) vs h = max_settles (S.Int k) (inl (k, refl)) vs h
built_in_settles _ _ _ F.max_text vs h = max_settles S.Text (inr refl) vs h
built_in_settles _ _ _ F.substring vs h =
    on_three Q.Substring S.Text (S.Int I32) (S.Int I32) S.Text
    (λ v w x f g i.
    settles_by S.Text (built_in_of Q.Substring (v ∷ w ∷ x ∷ [])) (substring_of v w x) (substring_called v w x) (settles_or_index S.Text (substring_of v w x) (substring_law v w x f g i))) vs h

-- ---- what is taken of a value

-- a tuple has a value at the place of each attribute
pub part_there : (schema : List (Named SplType)) (vs : List Value) (i : ℕ) (a : Named SplType) → IsTrue (tuple_fits schema vs) → slice_get schema i ≡ Some a
    → IsThere (OfType a.kind) (slice_get vs i)
part_there [] vs i a h e = absurd cc
part_there (b ∷ schema) [] i a h e = absurd cc
part_there (b ∷ schema) (v ∷ vs) zero a h e =
    let same : b ≡ a = cc in
    (v, refl, ap (λ (a : Named SplType). fits a.kind v) (sym same) ∙ first_so (fits b.kind v) (tuple_fits schema vs) h)
part_there (b ∷ schema) (v ∷ vs) (suc i) a h e = part_there schema vs i a (second_so (fits b.kind v) (tuple_fits schema vs) h) e

pub member_settles : (i : ℕ) (schema : List (Named SplType)) (a : Named SplType) (v : Value) → slice_get schema i ≡ Some a → OfType (S.Tuple schema) v
    → Settles a.kind (level_member i (out-Value v))
member_settles i schema a v e h =
    let is = level_tuple schema v h in
    let there = part_there schema is.0 i a is.2 e in
    settles_by a.kind (level_member i (out-Value v)) (Gives there.0) (ap (level_member i) is.1 ∙ ap given there.1) there.2

found_settles : (t : SplType) (kind : FaultKind) (o : Option Value) → ((v : Value) → o ≡ Some v → OfType t v) → Settles t (found kind o)
found_settles t kind None h = tt
found_settles t kind (Some v) h = h v refl

at_index : (t : SplType) (vs : List Value) (n : ℤ) → IsTrue (list_all (fits t) vs) → Settles t (element_at vs n)
at_index t vs (pos i) h = found_settles t K.Index (slice_get vs i) (λ v e. all_at (fits t) vs i v h e)
at_index t vs (negsuc i) h = tt

pub element_settles : (t : SplType) (k : IntKind) (v w : Value) → OfType (S.List t) v → OfType (S.Int k) w → Settles t (level_element (out-Value v) (out-Value w))
element_settles t k v w f g =
    let is = level_list t v f in
    let n = level_int k w g in
    settles_by t (level_element (out-Value v) (out-Value w)) (element_at is.0 n.0) (λ i. level_element (is.1 i) (n.1 i)) (at_index t is.0 n.0 is.2)

pub at_key_settles : (k t : SplType) (v w : Value) → OfType (S.Map k t) v → Settles t (level_at_key (out-Value v) w)
at_key_settles k t v w f =
    let is = level_map k t v f in
    settles_by t (level_at_key (out-Value v) w) (found K.NoKey (pairs_get is.0 w)) (ap (λ x. level_at_key x w) is.1)
    (found_settles t K.NoKey (pairs_get is.0 w) (λ u e. get_fits k t is.0 w u is.2 e))

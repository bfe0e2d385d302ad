-- The results of the operators of expressions, the built-in calls and changes of places.
use Rattle.std.specs.Prelude.{◌≡◌, ℕ, zero, suc, ℤ, pos, negsuc, int_div, int_rem, nat_lt, Bool, true, false, if◌then◌else◌, List, [], ◌∷◌, map, length, take, drop, Option, None, Some, slice_get}
use Rattle.std.proofs.Common.{refl}
use Rattle.spl_value.specs.declared.item.FaultKind.{FaultKind}
use Rattle.spl_value.specs.declared.item.FaultKind.TheVariants as X
use Rattle.spl_value.specs.declared.types.IntKind.{IntKind}
use Rattle.spl_value.specs.declared.value.Value.{Value}
use Rattle.spl_value.specs.declared.value.Value.TheVariants as V
use Rattle.spl_value.specs.declared.value.Value.TheOpen as O
use Rattle.spl_value.specs.declared.value.Value.TheOpen.{Value-F}
use Rattle.spl_value.specs.declared.value.Value.TheViews.{out-Value}
use Rattle.spl_value.specs.Calls.{CallOutcome, Gives, Faults, Unfit, are_alike}
use Rattle.spl_value.specs.Order.{value_cmp}
use Rattle.spl_value.specs.Pairs.{pairs_get}
use Rattle.spl_tree.specs.declared.body.Change.{Change}
use Rattle.spl_tree.specs.declared.body.Change.TheVariants as H
use Rattle.spl_tree.specs.declared.code.BinaryCode.{BinaryCode}
use Rattle.spl_tree.specs.declared.code.BinaryCode.TheVariants as D
use Rattle.spl_tree.specs.declared.code.BuiltIn.{BuiltIn}
use Rattle.spl_tree.specs.declared.code.BuiltIn.TheVariants as Q
use Rattle.spl_tree.specs.declared.code.IntegerOperator.{IntegerOperator}
use Rattle.spl_tree.specs.declared.code.IntegerOperator.TheVariants as I
use Rattle.spl_tree.specs.declared.code.OrderOperator.{OrderOperator}
use Rattle.spl_tree.specs.declared.code.Selector.{Selector}
use Rattle.spl_tree.specs.declared.code.Selector.TheVariants as K
use Rattle.spl_tree.specs.declared.code.UnaryCode.{UnaryCode}
use Rattle.spl_tree.specs.declared.code.UnaryCode.TheVariants as U
use Rattle.language_model.specs.BuiltInCalls.{level_call, level_place_call}
use Rattle.language_model.specs.parts.BuiltInCalls.{built_in_of}
use Rattle.language_model.specs.Changes.{passed_on, step_of, level_changed, changed, change_of}
use Rattle.language_model.specs.Operators.{divided, on_integers, level_integers, in_order, level_join, level_in_list, level_in_map, binary_of, level_unary, level_member, element_at, level_element, level_at_key}
use Rattle.language_model.specs.parts.Operators.{boolean, unary_of, found}
use Rattle.language_model.proofs.parts.Operators.{ordered, given}
use Rattle.fault_kinds.specs.Kinds.{is_evaluation_kind}
use Rattle.fault_kinds.proofs.Outcomes.{OwnCall}

own_if : (b : Bool) (o p : CallOutcome) → OwnCall o → OwnCall p → OwnCall (if b then o else p)
own_if true o p h k = h
own_if false o p h k = k

-- ---- operators between two operands

own_divided : (k : IntKind) (f : ℤ → ℤ → ℤ) (m n : ℤ) → OwnCall (divided k f m n)
own_divided k f m (pos zero) = refl
own_divided k f m (pos (suc n)) = tt
own_divided k f m (negsuc n) = tt

own_on_integers : (op : IntegerOperator) (k : IntKind) (m n : ℤ) → OwnCall (on_integers op k m n)
own_on_integers I.Multiply k m n = tt
own_on_integers I.Divide k m n = own_divided k int_div m n
own_on_integers I.Remainder k m n = own_divided k int_rem m n
own_on_integers I.Add k m n = tt
own_on_integers I.Subtract k m n = tt
own_on_integers I.BitAnd k m n = tt
own_on_integers I.BitXor k m n = tt
own_on_integers I.BitOr k m n = tt

own_integers : (op : IntegerOperator) (k : IntKind) (v w : Value-F Value) → OwnCall (level_integers op k v w)
own_integers op k (O.Int m) (O.Int n) = own_on_integers op k m n
own_integers op k _ _ = tt

own_ordered : (op : OrderOperator) (v w : Value) → OwnCall (ordered op v w)
own_ordered op v w = own_if (are_alike (out-Value v) (out-Value w)) (boolean (in_order op (value_cmp v w))) Unfit tt tt

own_join : (v w : Value-F Value) → OwnCall (level_join v w)
own_join (O.Text xs) (O.Text ys) = tt
own_join _ _ = tt

own_in_list : (v : Value) (w : Value-F Value) → OwnCall (level_in_list v w)
own_in_list v (O.List vs) = tt
own_in_list v _ = tt

own_in_map : (k : Value) (w : Value-F Value) → OwnCall (level_in_map k w)
own_in_map k (O.Map ps) = tt
own_in_map k _ = tt

pub own_binary : (op : BinaryCode) (v w : Value) → OwnCall (binary_of op v w)
own_binary (D.Integers op k) v w = own_integers op k (out-Value v) (out-Value w)
own_binary D.Join v w = own_join (out-Value v) (out-Value w)
own_binary (D.Order op) v w = own_ordered op v w
own_binary D.Equal v w = tt
own_binary D.NotEqual v w = tt
own_binary D.InList v w = own_in_list v (out-Value w)
own_binary D.InMap v w = own_in_map v (out-Value w)
own_binary D.And v w = tt
own_binary D.Or v w = tt

-- ---- operators in front of an operand, and casts

own_level_unary : (op : UnaryCode) (v : Value-F Value) → OwnCall (level_unary op v)
own_level_unary U.Not (O.Bool b) = tt
own_level_unary (U.Negate k) (O.Int n) = tt
own_level_unary (U.Complement k) (O.Int n) = tt
own_level_unary (U.ToInteger k) (O.Int n) = tt
own_level_unary U.ToText (O.Int n) = tt
own_level_unary U.ToText (O.Bool b) = tt
own_level_unary _ _ = tt

pub own_unary : (op : UnaryCode) (v : Value) → OwnCall (unary_of op v)
own_unary op v = own_level_unary op (out-Value v)

-- ---- calls

own_call : (call : BuiltIn) (forms : List (Value-F Value)) → OwnCall (level_call call forms)
own_call Q.Length (O.Text bytes ∷ []) = tt
own_call Q.Size (O.List vs ∷ []) = tt
own_call Q.Size (O.Map ps ∷ []) = tt
own_call Q.Has (O.Map ps ∷ key ∷ []) = tt
own_call (Q.Abs kind) (O.Int n ∷ []) = tt
own_call Q.Min (O.Int m ∷ O.Int n ∷ []) = tt
own_call Q.Min (O.Text xs ∷ O.Text ys ∷ []) = tt
own_call Q.Max (O.Int m ∷ O.Int n ∷ []) = tt
own_call Q.Max (O.Text xs ∷ O.Text ys ∷ []) = tt
own_call Q.Substring (O.Text bytes ∷ O.Int (pos from) ∷ O.Int (pos count) ∷ []) =
    own_if (nat_lt (length bytes) from) (Faults X.Index) (Gives (V.Text (take count (drop from bytes)))) refl tt
own_call Q.Substring (O.Text bytes ∷ O.Int from ∷ O.Int count ∷ []) = refl
own_call _ _ = tt

pub own_built_in : (call : BuiltIn) (vs : List Value) → OwnCall (built_in_of call vs)
own_built_in call vs = own_call call (map out-Value vs)

-- ---- members, elements and values at keys

own_found : (kind : FaultKind) (o : Option Value) → is_evaluation_kind kind ≡ true → OwnCall (found kind o)
own_found kind None h = h
own_found kind (Some v) h = tt

own_given : (o : Option Value) → OwnCall (given o)
own_given None = tt
own_given (Some v) = tt

pub own_member : (i : ℕ) (v : Value-F Value) → OwnCall (level_member i v)
own_member i (O.Tuple vs) = own_given (slice_get vs i)
own_member i _ = tt

own_element_at : (vs : List Value) (n : ℤ) → OwnCall (element_at vs n)
own_element_at vs (pos i) = own_found X.Index (slice_get vs i) refl
own_element_at vs (negsuc i) = refl

pub own_element : (v n : Value-F Value) → OwnCall (level_element v n)
own_element (O.List vs) (O.Int n) = own_element_at vs n
own_element _ _ = tt

pub own_at_key : (v : Value-F Value) (k : Value) → OwnCall (level_at_key v k)
own_at_key (O.Map ps) k = own_found X.NoKey (pairs_get ps k) refl
own_at_key _ k = tt

-- ---- changes of places

own_passed : (o : CallOutcome) (f : Value → CallOutcome) → OwnCall o → ((v : Value) → OwnCall (f v)) → OwnCall (passed_on o f)
own_passed (Gives v) f h k = k v
own_passed (Faults kind) f h k = h
own_passed Unfit f h k = tt

pub own_step : (step : Selector Value) (v : Value) → OwnCall (step_of step v)
own_step (K.Member i) v = own_member i (out-Value v)
own_step (K.Element n) v = own_element (out-Value v) (out-Value n)
own_step (K.AtKey k) v = own_at_key (out-Value v) k

own_level_changed : (step : Selector Value) (change : Option Value → CallOutcome) → ((old : Option Value) → OwnCall (change old)) → (v : Value-F Value)
    → OwnCall (level_changed step change v)
own_level_changed (K.Member i) change h (O.Tuple vs) =
    own_passed (given (slice_get vs i)) _ (own_given (slice_get vs i)) (λ old. own_passed (change (Some old)) _ (h (Some old)) (λ new. tt))
own_level_changed (K.Element n) change h (O.List vs) =
    own_passed (level_element (O.List vs) (out-Value n)) _ (own_element (O.List vs) (out-Value n)) (λ old. own_passed (change (Some old)) _ (h (Some old)) (λ new. tt))
own_level_changed (K.AtKey k) change h (O.Map ps) = own_passed (change (pairs_get ps k)) _ (h (pairs_get ps k)) (λ new. tt)
own_level_changed _ change h _ = tt

pub own_changed : (steps : List (Selector Value)) (change : Option Value → CallOutcome) → ((old : Option Value) → OwnCall (change old)) → (old : Option Value)
    → OwnCall (changed steps change old)
own_changed [] change h old = h old
own_changed (t ∷ ts) change h None = refl
own_changed (t ∷ ts) change h (Some v) = own_level_changed t (changed ts change) (own_changed ts change h) (out-Value v)

own_place_call : (call : Change Value) (old : Value-F Value) → OwnCall (level_place_call call old)
own_place_call (H.Append v) (O.List vs) = tt
own_place_call (H.Remove key) (O.Map ps) = tt
own_place_call H.Clear (O.List vs) = tt
own_place_call H.Clear (O.Map ps) = tt
own_place_call _ _ = tt

pub own_change : (change : Change Value) (old : Option Value) → OwnCall (change_of change old)
own_change (H.Put v) old = tt
own_change (H.Append v) None = refl
own_change (H.Remove k) None = refl
own_change H.Clear None = refl
own_change call (Some old) = own_place_call call (out-Value old)

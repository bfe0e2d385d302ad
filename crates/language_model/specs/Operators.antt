-- The results of the operators of expressions on values, and what is taken of a value.
use Rattle.std.specs.Prelude.{ℕ, zero, ℤ, pos, negsuc, nat_abs, ◌+ℤ◌, ◌-ℤ◌, ◌*ℤ◌, neg_ℤ, int_div, int_rem, Bool, not, if◌then◌else◌, List, ◌++◌, codes, Option, None, Some, slice_get}
use Rattle.std.specs.List.{list_any}
use Rattle.std.specs.Option.{option_map_or}
use Rattle.std.specs.Int.{int_rem_euclid}
use Rattle.std.specs.Int.Bits.{bit_and, bit_or, bit_xor}
use Rattle.std.specs.Fmt.{signed_decimal}
use Rattle.std.specs.declared.cmp.Ordering.{Ordering}
use Rattle.std.specs.Ordering.{is_lt, is_gt, is_le, is_ge, eq_by_cmp}
use Rattle.spl_value.specs.declared.item.FaultKind.TheVariants as K
use Rattle.spl_value.specs.declared.types.IntKind.{IntKind}
use Rattle.spl_value.specs.declared.value.Value.{Value}
use Rattle.spl_value.specs.declared.value.Value.TheVariants as V
use Rattle.spl_value.specs.declared.value.Value.TheOpen as O
use Rattle.spl_value.specs.declared.value.Value.TheOpen.{Value-F}
use Rattle.spl_value.specs.declared.value.Value.TheViews.{out-Value}
use Rattle.spl_value.specs.Calls.{CallOutcome, Gives, Faults, Unfit, are_alike}
use Rattle.spl_value.specs.Order.{value_cmp}
use Rattle.spl_value.specs.Pairs.{pairs_get, pairs_contain}
use Rattle.spl_value.specs.Values.{modulus}
use Rattle.spl_value.specs.Wrap.{wrapped}
use Rattle.spl_tree.specs.declared.code.UnaryCode.{UnaryCode}
use Rattle.spl_tree.specs.declared.code.UnaryCode.TheVariants as U
use Rattle.spl_tree.specs.declared.code.BinaryCode.{BinaryCode}
use Rattle.spl_tree.specs.declared.code.BinaryCode.TheVariants as D
use Rattle.spl_tree.specs.declared.code.IntegerOperator.{IntegerOperator}
use Rattle.spl_tree.specs.declared.code.IntegerOperator.TheVariants as I
use Rattle.spl_tree.specs.declared.code.OrderOperator.{OrderOperator}
use Rattle.spl_tree.specs.declared.code.OrderOperator.TheVariants as P

-- ---- integers

abbrev pub integer : IntKind → ℤ → CallOutcome
integer k n = Gives (V.Int (wrapped k n))

-- the quotient is cut off toward zero, and the remainder has the dividend's sign
abbrev pub divided : IntKind → (ℤ → ℤ → ℤ) → ℤ → ℤ → CallOutcome
divided k f m (pos zero) = Faults K.DivZero
divided k f m n = integer k (f m n)

-- the bits of a number of the kind in two's complement, as the natural number that they spell
abbrev pub bits_of : IntKind → ℤ → ℕ
bits_of k n = nat_abs (int_rem_euclid n (pos (modulus k)))

abbrev pub on_bits : IntKind → (ℕ → ℕ → ℕ) → ℤ → ℤ → CallOutcome
on_bits k f m n = integer k (pos (f (bits_of k m) (bits_of k n)))

-- two integers of a kind: the result is wrapped in the kind
abbrev pub on_integers : IntegerOperator → IntKind → ℤ → ℤ → CallOutcome
on_integers I.Multiply k m n = integer k (m *ℤ n)
on_integers I.Divide k m n = divided k int_div m n
on_integers I.Remainder k m n = divided k int_rem m n
on_integers I.Add k m n = integer k (m +ℤ n)
on_integers I.Subtract k m n = integer k (m -ℤ n)
on_integers I.BitAnd k m n = on_bits k bit_and m n
on_integers I.BitXor k m n = on_bits k bit_xor m n
on_integers I.BitOr k m n = on_bits k bit_or m n

abbrev pub level_integers : IntegerOperator → IntKind → Value-F Value → Value-F Value → CallOutcome
level_integers op k (O.Int m) (O.Int n) = on_integers op k m n
level_integers op k _ _ = Unfit

-- ---- order

-- the order that an operator asks for
abbrev pub in_order : OrderOperator → Ordering → Bool
in_order P.Less order = is_lt order
in_order P.LessOrEqual order = is_le order
in_order P.Greater order = is_gt order
in_order P.GreaterOrEqual order = is_ge order

-- ---- texts, lists and maps

abbrev pub level_join : Value-F Value → Value-F Value → CallOutcome
level_join (O.Text xs) (O.Text ys) = Gives (V.Text (xs ++ ys))
level_join _ _ = Unfit

abbrev pub level_in_list : Value → Value-F Value → CallOutcome
level_in_list v (O.List vs) = Gives (V.Bool (list_any (eq_by_cmp value_cmp v) vs))
level_in_list v _ = Unfit

abbrev pub level_in_map : Value → Value-F Value → CallOutcome
level_in_map k (O.Map ps) = Gives (V.Bool (pairs_contain ps k))
level_in_map k _ = Unfit

-- ---- operators between two operands, both of which are evaluated

-- those of order compare two integers, by number, or two texts, by bytes
abbrev pub binary_of : BinaryCode → Value → Value → CallOutcome
binary_of (D.Integers op k) v w = level_integers op k (out-Value v) (out-Value w)
binary_of D.Join v w = level_join (out-Value v) (out-Value w)
binary_of (D.Order op) v w =
    if are_alike (out-Value v) (out-Value w) then Gives (V.Bool (in_order op (value_cmp v w))) else Unfit
binary_of D.Equal v w = Gives (V.Bool (eq_by_cmp value_cmp v w))
binary_of D.NotEqual v w = Gives (V.Bool (not (eq_by_cmp value_cmp v w)))
binary_of D.InList v w = level_in_list v (out-Value w)
binary_of D.InMap v w = level_in_map v (out-Value w)
binary_of D.And v w = Unfit
binary_of D.Or v w = Unfit

-- ---- operators in front of an operand, and casts

-- the bits of -1 - n are those of n, each turned over
abbrev pub level_unary : UnaryCode → Value-F Value → CallOutcome
level_unary U.Not (O.Bool b) = Gives (V.Bool (not b))
level_unary (U.Negate k) (O.Int n) = integer k (neg_ℤ n)
level_unary (U.Complement k) (O.Int n) = integer k (negsuc 0 -ℤ n)
level_unary (U.ToInteger k) (O.Int n) = integer k n
level_unary U.ToText (O.Int n) = Gives (V.Text (signed_decimal n))
level_unary U.ToText (O.Bool b) = Gives (V.Text (if b then codes "true" else codes "false"))
level_unary _ _ = Unfit

-- ---- members, elements and values at keys

-- a tuple that fits has the member
abbrev pub level_member : ℕ → Value-F Value → CallOutcome
level_member i (O.Tuple vs) = option_map_or Gives (slice_get vs i) Unfit
level_member i _ = Unfit

-- the element at an index from 0, or else a fault
abbrev pub element_at : List Value → ℤ → CallOutcome
element_at vs (pos i) = option_map_or Gives (slice_get vs i) (Faults K.Index)
element_at vs (negsuc i) = Faults K.Index

abbrev pub level_element : Value-F Value → Value-F Value → CallOutcome
level_element (O.List vs) (O.Int n) = element_at vs n
level_element _ _ = Unfit

-- the value at a key, or else a fault
abbrev pub level_at_key : Value-F Value → Value → CallOutcome
level_at_key (O.Map ps) k = option_map_or Gives (pairs_get ps k) (Faults K.NoKey)
level_at_key _ k = Unfit

-- the truth of a boolean
abbrev pub level_truth : Value-F Value → Option Bool
level_truth (O.Bool b) = Some b
level_truth _ = None

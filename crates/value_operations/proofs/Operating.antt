-- The results of operators, in the code's words.
use Rattle.std.specs.Prelude.{◌≡◌, ℕ, ℤ, pos, negsuc, unsigned_abs, neg_ℤ, ◌-ℤ◌, ◌^◌, ◌+◌, ◌≤◌, ◌<◌, Bool, true, false, if◌then◌else◌, IsTrue, FitsSigned, List, ◌||◌, length, take}
use Rattle.std.specs.Int.{w128}
use Rattle.std.specs.List.{list_any}
use Rattle.std.specs.declared.cmp.Ordering.{Ordering}
use Rattle.std.specs.declared.cmp.Ordering.TheVariants.{Less, Equal, Greater}
use Rattle.std.specs.Ordering.{is_eq}
use Rattle.std.proofs.Common.{refl, sym, ap, subst, ◌∙◌, get_or, to_z, of_z, arith}
use Rattle.std.proofs.lemmas.Int.{ints, to_z-of_z}
use Rattle.std.proofs.lemmas.List.Folds.{list_any_more, list_any_at}
use Rattle.std.proofs.lemmas.List.{take_all}
use Rattle.spl_value.specs.declared.types.IntKind.{IntKind}
use Rattle.spl_value.specs.declared.value.Value.{Value}
use Rattle.spl_value.specs.declared.value.Value.TheVariants as V
use Rattle.spl_value.specs.declared.value.Value.TheOpen as O
use Rattle.spl_value.specs.declared.value.Value.TheViews.{out-Value}
use Rattle.spl_value.specs.Calls.{Gives, Unfit}
use Rattle.spl_value.specs.Order.{value_cmp}
use Rattle.spl_value.proofs.OrderLaws.{value_cmp-Equal}
use Rattle.spl_value.specs.Wrap.{wrapped}
use Rattle.spl_value.proofs.WrapLaws.{wrapped_belongs}
use Rattle.spl_tree.specs.declared.code.BinaryCode.{BinaryCode}
use Rattle.spl_tree.specs.declared.code.BinaryCode.TheVariants as D
use Rattle.spl_tree.specs.declared.code.OrderOperator.{OrderOperator}
use Rattle.spl_tree.specs.declared.code.UnaryCode.{UnaryCode}
use Rattle.spl_tree.specs.declared.code.UnaryCode.TheVariants as U
use Rattle.language_model.specs.Operators.{in_order, level_in_list, binary_of, integer, level_unary}
use Rattle.language_model.specs.parts.Operators.{boolean, unary_of}
use Rattle.language_model.proofs.parts.Operators.{is_equal}
use Rattle.value_operations.specs.Fitting.{FitBinary}
use Rattle.value_operations.specs.steps.Unaries.{FitsUnary}
use Rattle.value_operations.proofs.Operands.{alike_operands, unary_holds}
use Rattle.spl_value.proofs.Widths.{within, kept_in_128}

-- ---- order and equality

pub order_gives : (b : BinaryCode) (op : OrderOperator) (v w : Value) (o : Ordering) (r : Bool) → b ≡ D.Order op → FitBinary b v w → o ≡ value_cmp v w → r ≡ in_order op o
    → binary_of b v w ≡ Gives (V.Bool r)
order_gives b op v w o r e h compared asked =
    ap (λ (c : BinaryCode). binary_of c v w) e
    ∙ ap (λ (alike : Bool). if alike then boolean (in_order op (value_cmp v w)) else Unfit) (alike_operands v w b op e h)
    ∙ ap boolean (sym (asked ∙ ap (in_order op) compared))

not_equal_order : (v w : Value) → (v ≡ w → ⊥) → is_equal v w ≡ false
not_equal_order v w apart =
    elim (value_cmp v w) as (λ o. value_cmp v w ≡ o → is_eq o ≡ false) [
      | Less ↦ λ e. refl
      | Equal ↦ λ e. let both = value_cmp-Equal v w in absurd (apart (both.0 e))
      | Greater ↦ λ e. refl
    ] refl

-- the test of equality is the order's
pub equal_is : (v w : Value) (r : Bool) → (IsTrue r → v ≡ w) × (v ≡ w → IsTrue r) → is_equal v w ≡ r
equal_is v w true h = let both = value_cmp-Equal v w in ap is_eq (both.1 (h.0 refl))
equal_is v w false h = not_equal_order v w (λ e. let wrong = h.1 e in cc)

-- ---- elements of a list

module _ (v w : Value) (vs : List Value) (is : w ≡ V.List vs) where
  in_list_is : level_in_list v (out-Value w) ≡ boolean (list_any (is_equal v) vs)
  in_list_is = ap (level_in_list v) (ap out-Value is ∙ V.outs-List vs)

  pub found_in_list : (items : List Value) (i : ℕ) (x : Value) → items ≡ vs → i < length items → x ≡ get_or items i x → is_equal v x ≡ true
      → level_in_list v (out-Value w) ≡ boolean true
  found_in_list items i x same lt at equal =
      in_list_is ∙ ap (λ us. boolean (list_any (is_equal v) us)) (sym same)
      ∙ ap boolean (list_any_at (is_equal v) items i x lt (ap (is_equal v) (sym at) ∙ equal))

  pub none_in_list : (items : List Value) (i : ℕ) → items ≡ vs → length items ≤ i → list_any (is_equal v) (take i items) ≡ false → level_in_list v (out-Value w) ≡ boolean false
  none_in_list items i same le none = in_list_is ∙ ap (λ us. boolean (list_any (is_equal v) us)) (sym (take_all i items le ∙ same)) ∙ ap boolean none

pub none_so_far : (v : Value) (items : List Value) (i : ℕ) (x : Value) → i < length items → x ≡ get_or items i x → is_equal v x ≡ false
    → list_any (is_equal v) (take i items) ≡ false → list_any (is_equal v) (take (i + 1) items) ≡ false
none_so_far v items i x lt at other none =
    list_any_more (is_equal v) items i x lt ∙ (λ j. none j || (ap (is_equal v) (sym at) ∙ other) j)

-- ---- integers

wrapped_in_128 : (k : IntKind) (z : ℤ) → to_z w128 (of_z w128 (wrapped k z)) ≡ wrapped k z
wrapped_in_128 k z = kept_in_128 k (wrapped k z) (wrapped_belongs k z)

opposite_within : (n : ℤ) → unsigned_abs n ≤ 2 ^ 64 → FitsSigned w128 (pos 0 -ℤ n)
opposite_within n h = omega (arith, ints)

complement_within : (n : ℤ) → unsigned_abs n ≤ 2 ^ 64 → FitsSigned w128 (negsuc 0 -ℤ n)
complement_within n h = omega (arith, ints)

opposite_is : (n : ℤ) → pos 0 -ℤ n ≡ neg_ℤ n
opposite_is n = omega (arith, ints)

module _ (op : UnaryCode) (v : Value) (n : ℤ) (h : FitsUnary op v) (is : v ≡ V.Int n) where
  kept : to_z w128 (of_z w128 n) ≡ n
  kept = let holds = unary_holds op v n h is in kept_in_128 holds.0 n holds.1

  small : unsigned_abs n ≤ 2 ^ 64
  small = let holds = unary_holds op v n h is in within holds.0 n holds.1

  level : (o : UnaryCode) → op ≡ o → unary_of op v ≡ level_unary o (O.Int n)
  level o e = ap (λ (p : UnaryCode). unary_of p v) e ∙ ap (level_unary o) (ap out-Value is ∙ V.outs-Int n)

  pub opposite_fits : FitsSigned w128 (pos 0 -ℤ to_z w128 (of_z w128 n))
  opposite_fits = subst (λ (z : ℤ). FitsSigned w128 (pos 0 -ℤ z)) (sym kept) (opposite_within n small)

  -- the result is wrapped, and passed on in 128 bits
  passed : (k : IntKind) (z y r : ℤ) → y ≡ z → r ≡ wrapped k y → integer k z ≡ Gives (V.Int (to_z w128 (of_z w128 r)))
  passed k z y r same result = ap (λ x. Gives (V.Int x)) (sym (ap (λ x. to_z w128 (of_z w128 x)) (result ∙ ap (wrapped k) same) ∙ wrapped_in_128 k z))

  pub negate_gives : (k : IntKind) (r : ℤ) → op ≡ U.Negate k → r ≡ wrapped k (to_z w128 (of_z w128 (pos 0 -ℤ to_z w128 (of_z w128 n))))
      → unary_of op v ≡ Gives (V.Int (to_z w128 (of_z w128 r)))
  negate_gives k r e result =
      level (U.Negate k) e
      ∙ passed k (neg_ℤ n) (to_z w128 (of_z w128 (pos 0 -ℤ to_z w128 (of_z w128 n)))) r
      (to_z-of_z w128 (pos 0 -ℤ to_z w128 (of_z w128 n)) opposite_fits ∙ ap (λ (z : ℤ). pos 0 -ℤ z) kept ∙ opposite_is n) result

  pub complement_gives : (k : IntKind) (r : ℤ) → op ≡ U.Complement k → r ≡ wrapped k (to_z w128 (of_z w128 (negsuc 0 -ℤ to_z w128 (of_z w128 n))))
      → unary_of op v ≡ Gives (V.Int (to_z w128 (of_z w128 r)))
  complement_gives k r e result =
      level (U.Complement k) e
      ∙ passed k (negsuc 0 -ℤ n) (to_z w128 (of_z w128 (negsuc 0 -ℤ to_z w128 (of_z w128 n)))) r
      (ap (λ (z : ℤ). to_z w128 (of_z w128 (negsuc 0 -ℤ z))) kept ∙ to_z-of_z w128 (negsuc 0 -ℤ n) (complement_within n small)) result

  pub cast_gives : (k : IntKind) (r : ℤ) → op ≡ U.ToInteger k → r ≡ wrapped k (to_z w128 (of_z w128 n)) → unary_of op v ≡ Gives (V.Int (to_z w128 (of_z w128 r)))
  cast_gives k r e result = level (U.ToInteger k) e ∙ passed k n (to_z w128 (of_z w128 n)) r kept result

-- Values by their order, and the first of them.
use Rattle.std.proofs.Common.{◌≡◌, Bool, true, false, cond, ◌||◌, true≢false, List, [], ◌∷◌, ◌++◌, slice_get, Option, Some, None, refl, sym, ap, ◌∙◌}
use Rattle.std.specs.List.{list_any}
use Rattle.std.specs.Option.{option_map_or}
use Rattle.std.specs.declared.cmp.Ordering.{Ordering}
use Rattle.std.specs.declared.cmp.Ordering.TheVariants.{Less, Equal, Greater}
use Rattle.std.specs.Ordering.{is_lt, ordering_reverse}
use Rattle.spl_value.specs.declared.value.Value.{Value}
use Rattle.spl_value.specs.Order.{value_cmp}
use Rattle.spl_value.proofs.OrderLaws.{value_cmp_total, value_cmp-itself}
use Rattle.stream_model.specs.Aggregates.{is_below, least_by}
use Rattle.stream_model.specs.Windows.{near}
use Rattle.stream_model.specs.parts.Aggregates.{first_of_two}
use Rattle.tuple_groups.specs.Extremes.{before}

-- what holds where one value comes before another
pub record IsStrict (R : Value → Value → Bool) : Type 0 where
  pub trans : (u v w : Value) → R u v ≡ true → R v w ≡ true → R u w ≡ true
  pub cotrans : (u v w : Value) → R u v ≡ false → R v w ≡ false → R u w ≡ false
  pub itself : (v : Value) → R v v ≡ false

less_is : (o : Ordering) → is_lt o ≡ true → o ≡ Less
less_is Less e = refl
less_is Equal e = absurd (true≢false (sym e))
less_is Greater e = absurd (true≢false (sym e))

below_trans : (u v w : Value) → is_below u v ≡ true → is_below v w ≡ true → is_below u w ≡ true
below_trans u v w a b = ap is_lt (value_cmp_total.trans u v w (less_is _ a) (less_is _ b))

below_cotrans : (u v w : Value) → is_below u v ≡ false → is_below v w ≡ false → is_below u w ≡ false
below_cotrans u v w a b = by (value_cmp u v) (value_cmp u w) refl refl a
  where
    by : (o p : Ordering) → value_cmp u v ≡ o → value_cmp u w ≡ p → is_lt o ≡ false → is_below u w ≡ false
    by Less p e f l = absurd (true≢false l)
    by Equal p e f l = ap is_lt (value_cmp_total.congr u v w e) ∙ b
    by Greater Less e f l =
        let turned : value_cmp v u ≡ Less = value_cmp_total.antisymm v u ∙ ap ordering_reverse e in
        absurd (true≢false (sym (ap is_lt (value_cmp_total.trans v u w turned f)) ∙ b))
    by Greater Equal e f l = ap is_lt f
    by Greater Greater e f l = ap is_lt f

pub before_strict : (greatest : Bool) → IsStrict (before greatest)
before_strict true = record {
  trans = λ u v w a b. below_trans w v u b a;
  cotrans = λ u v w a b. below_cotrans w v u b a;
  itself = λ v. ap is_lt (value_cmp-itself v);
}
before_strict false = record {
  trans = below_trans;
  cotrans = below_cotrans;
  itself = λ v. ap is_lt (value_cmp-itself v);
}

module _ (R : Value → Value → Bool) (strict : IsStrict R) where
  -- the first of two, where one may be absent
  abbrev pub better : Option Value → Value → Value
  better None v = v
  better (Some w) v = cond (R v w) v w

  better_of_three : (v w x : Value) (b c : Bool) → R v w ≡ b → R w x ≡ c
      → cond (R (cond (R v w) v w) x) (cond (R v w) v w) x ≡ cond (R v (cond (R w x) w x)) v (cond (R w x) w x)
  better_of_three v w x true true p q = let r = strict.trans v w x p q in simp (p, q, r)
  better_of_three v w x true false p q = simp (p, q)
  better_of_three v w x false true p q = simp (p, q)
  better_of_three v w x false false p q = let r = strict.cotrans v w x p q in simp (p, q, r)

  pub least_push : (vs : List Value) (v : Value) → least_by R (vs ++ v ∷ []) ≡ Some (better (least_by R vs) v)
  least_push [] v = refl
  least_push (x ∷ xs) v = ap (λ o. Some (first_of_two R x o)) (least_push xs v) ∙ ap Some (by (least_by R xs))
    where
      by : (o : Option Value) → first_of_two R x (Some (better o v)) ≡ better (Some (first_of_two R x o)) v
      by None = refl
      by (Some w) = better_of_three v w x (R v w) (R w x) refl refl

  -- a value has another one before it where the first one of all is before it
  any_least : (v : Value) (vs : List Value) → list_any (λ later. R later v) vs ≡ option_map_or (λ w. R w v) (least_by R vs) false
  any_least v [] = refl
  any_least v (y ∷ ys) = ap (λ b. R y v || b) (any_least v ys) ∙ by (least_by R ys)
    where
      one : (b : Bool) → (b || false) ≡ b
      one true = refl
      one false = refl

      two : (w : Value) (b c d : Bool) → R w y ≡ b → R y v ≡ c → R w v ≡ d → (R y v || R w v) ≡ R (cond (R w y) w y) v
      two w true true d p q r = let s = strict.trans w y v p q in simp (p, q, s)
      two w true false d p q r = simp (p, q)
      two w false true d p q r = simp (p, q)
      two w false false d p q r = let s = strict.cotrans w y v p q in simp (p, q, s)

      by : (o : Option Value) → (R y v || option_map_or (λ w. R w v) o false) ≡ R (first_of_two R y o) v
      by None = one (R y v)
      by (Some w) = two w (R w y) (R y v) (R w v) refl refl refl

  -- the first of those that no later one is before is the first one of all
  pub near_front : (vs : List Value) → slice_get (near R vs) 0 ≡ least_by R vs
  near_front [] = refl
  near_front (v ∷ vs) = ap (λ b. slice_get (cond b (near R vs) (v ∷ near R vs)) 0) (any_least v vs) ∙ by (least_by R vs) (near_front vs)
    where
      chosen : (w : Value) (b : Bool) → slice_get (near R vs) 0 ≡ Some w → slice_get (cond b (near R vs) (v ∷ near R vs)) 0 ≡ Some (cond b w v)
      chosen w true e = e
      chosen w false e = refl

      by : (o : Option Value) → slice_get (near R vs) 0 ≡ o
          → slice_get (cond (option_map_or (λ w. R w v) o false) (near R vs) (v ∷ near R vs)) 0 ≡ Some (first_of_two R v o)
      by None e = refl
      by (Some w) e = chosen w (R w v) e

  pub any_before : (v : Value) (vs : List Value) → list_any (λ later. R later v) vs ≡ option_map_or (λ w. R w v) (slice_get (near R vs) 0) false
  any_before v vs = any_least v vs ∙ ap (λ o. option_map_or (λ w. R w v) o false) (sym (near_front vs))

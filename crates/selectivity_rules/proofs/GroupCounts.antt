-- How many items a window without groups that slides gives for an item.
use Rattle.std.specs.Prelude.{◌≡◌, ◌≤◌, ◌%◌, ◌==◌, ⊤, ℕ, ℤ, zero, suc, pos, Bool, true, false, if◌then◌else◌, List, [], ◌∷◌, ◌++◌, map, length, take, Option, None, Some}
use Rattle.std.specs.List.{list_any}
use Rattle.std.specs.Option.{option_and_then, option_map}
use Rattle.std.specs.FinMap.{put}
use Rattle.std.proofs.Common.{refl, sym, ap, subst, arith}
use Rattle.std.proofs.lemmas.Bool.{eq-eqb}
use Rattle.spl_value.specs.Key.{key_of}
use Rattle.spl_value.specs.declared.item.Item.TheVariants as I
use Rattle.spl_value.specs.declared.value.Value.{Value}
use Rattle.spl_tree.specs.declared.body.Function.{Function}
use Rattle.language_model.specs.declared.checked.CollectedAttribute.{CollectedAttribute}
use Rattle.language_model.specs.declared.checked.WindowRule.{WindowRule}
use Rattle.language_model.specs.declared.checked.WindowRule.TheVariants as W
use Rattle.language_model.specs.declared.outs.Output.{Output}
use Rattle.language_model.specs.Keeping.{AggregateWindow}
use Rattle.language_model.specs.Keeping as F
use Rattle.language_model.specs.StreamTypes.{Attributes}
use Rattle.stream_model.specs.Stream.{is_empty}
use Rattle.spl_value.specs.KeyOrder.{each_key, key_cmp}
use Rattle.stream_model.specs.Windows.{Silent, Triggers, contents_of, exceeds, fires_after, in_order, near, trigger_if}
use Rattle.stream_model.proofs.parts.Windows.{last_of}
use Rattle.stream_model.specs.parts.Groups.{of_group}
use Rattle.stream_model.specs.Bodies.{on_first}
use Rattle.stream_model.specs.Aggregates.{contents_give, slides, tuples_of}
use Rattle.stream_model.proofs.parts.Aggregates.{group_tuple}
use Rattle.stream_model.specs.parts.Aggregates.{marker_after}
use Rattle.stream_model.specs.Regions.{IsCount}
use Rattle.stream_model.specs.Selectivity.{window_gives}
use Rattle.stream_model.proofs.Flushes.{pushed}

-- ---- groups: without places there is one, where there are tuples

one_group : {X : Type 0} (f : List Value → X) (t : List Value) (ts : List (List Value)) → (x : X) × (each_key f (map (λ t. key_of t []) (t ∷ ts)) ≡ ([], x) ∷ [])
one_group f t [] = (f [], refl)
one_group f t (u ∷ ts) = let rest = one_group f u ts in (f [], ap (put key_cmp [] (f [])) rest.1)

-- ---- what is given, where something is

abbrev pub HasCount : (ℕ → Type 0) → Option (List Output) → Type 0
HasCount P None = ⊤
HasCount P (Some outs) = P (length outs)

has_weaker : (P Q : ℕ → Type 0) (o : Option (List Output)) → ((n : ℕ) → P n → Q n) → HasCount P o → HasCount Q o
has_weaker P Q None k h = tt
has_weaker P Q (Some outs) k h = k (length outs) h

any_many : (o : Option (List Output)) → HasCount (λ n. ⊤) o
any_many None = tt
any_many (Some outs) = tt

module _ (functions : List Function) (output : List CollectedAttribute) (rule : WindowRule) (sliding : slides rule ≡ true) where
  after_none : marker_after rule ≡ []
  after_none = ap (λ (b : Bool). if b then [] else on_first I.Window) sliding

  one_output : (o : Option (List Value)) → HasCount (λ n. n ≡ 1) (option_and_then (λ outs. option_map (λ more. outs ++ marker_after rule ++ more) (Some []))
      (option_and_then (λ t. option_map (λ outs. on_first (I.Tuple t) ++ outs) (Some [])) o))
  one_output None = tt
  one_output (Some t) = ap (λ (after : List Output). length ((on_first (I.Tuple t) ++ []) ++ after ++ [])) after_none

  -- a content that has a tuple gives one
  pub some_gives : (ts : List (List Value)) → is_empty ts ≡ false → HasCount (λ n. n ≡ 1) (contents_give functions [] output rule (ts ∷ []))
  some_gives [] some = absurd cc
  some_gives (t ∷ ts) some =
      let one = one_group (of_group [] (t ∷ ts)) t ts in
      subst (λ gs. HasCount (λ n. n ≡ 1) (option_and_then (λ outs. option_map (λ more. outs ++ marker_after rule ++ more) (Some [])) (tuples_of functions output gs)))
      (sym one.1) (one_output (group_tuple functions output one.0))

  none_gives : HasCount (λ n. n ≡ 0) (contents_give functions [] output rule ([] ∷ []))
  none_gives = ap (λ (after : List Output). length ([] ++ after ++ [])) after_none

  -- and any content at most one
  pub each_gives : (ts : List (List Value)) → HasCount (λ n. n ≤ 1) (contents_give functions [] output rule (ts ∷ []))
  each_gives [] = has_weaker (λ n. n ≡ 0) (λ n. n ≤ 1) (contents_give functions [] output rule ([] ∷ [])) (λ n e. omega (arith, e)) none_gives
  each_gives (t ∷ ts) =
      has_weaker (λ n. n ≡ 1) (λ n. n ≤ 1) (contents_give functions [] output rule ((t ∷ ts) ∷ [])) (λ n e. omega (arith, e)) (some_gives (t ∷ ts) refl)

  -- what a trigger fires gives at most one
  pub trigger_at_most : (every : Option ℕ) (n : ℕ) (ts : List (List Value)) → HasCount (λ n. n ≤ 1) (contents_give functions [] output rule (contents_of (trigger_if every n ts)))
  trigger_at_most None n ts = omega arith
  trigger_at_most (Some every) n ts = by_case ((n % every) == 0) where
    by_case : (b : Bool) → HasCount (λ n. n ≤ 1) (contents_give functions [] output rule (contents_of (if b then Triggers ts else Silent)))
    by_case true = each_gives ts
    by_case false = omega arith

  -- and where it is each tuple, one
  pub trigger_each : (n : ℕ) (ts : List (List Value)) → is_empty ts ≡ false → HasCount (λ n. n ≡ 1) (contents_give functions [] output rule (contents_of (trigger_if (Some 1) n ts)))
  trigger_each n ts some =
      let each : ((n % 1) == 0) ≡ true = eq-eqb (n % 1) 0 (omega arith) in
      subst (λ b. HasCount (λ n. n ≡ 1) (contents_give functions [] output rule (contents_of (if b then Triggers ts else Silent)))) (sym each) (some_gives ts some)

-- ---- contents: they have the tuple that came

pub last_some : (n : ℕ) (t : List Value) (ts : List (List Value)) → 1 ≤ n → is_empty (last_of n (t ∷ ts)) ≡ false
last_some zero t ts le = absurd (omega arith)
last_some (suc n) t ts le = pushed (in_order (take n ts)) t

near_some : (far : List Value → List Value → Bool) (xs : List (List Value)) (t : List Value) → is_empty (near far (xs ++ t ∷ [])) ≡ false
near_some far [] t = refl
near_some far (x ∷ xs) t = by_case (near_some far xs t) (list_any (λ later. far later x) (xs ++ t ∷ [])) where
  by_case : is_empty (near far (xs ++ t ∷ [])) ≡ false → (b : Bool) → is_empty (if b then near far (xs ++ t ∷ []) else x ∷ near far (xs ++ t ∷ [])) ≡ false
  by_case rest true = rest
  by_case rest false = refl

pub delta_some : (a : ℕ) (limit : ℤ) (t : List Value) (ts : List (List Value)) → is_empty (near (exceeds a limit) (in_order (t ∷ ts))) ≡ false
delta_some a limit t ts = near_some (exceeds a limit) (in_order ts) t

-- ---- windows

-- what a window without groups gives for a tuple, by its class
module _ (functions : List Function) (output : List CollectedAttribute) (t : List Value) (ts : List (List Value)) where
  abbrev Gives_of : WindowRule → Option (List Output)
  Gives_of rule = contents_give functions [] output rule (contents_of (fires_after rule t ts))

  count_counts : (n : ℕ) (every : Option ℕ) → 1 ≤ n → HasCount (IsCount (window_gives (W.SlidingCount n every) [])) (Gives_of (W.SlidingCount n every))
  count_counts n None le = trigger_at_most functions output (W.SlidingCount n None) refl None (suc (length ts)) (last_of n (t ∷ ts))
  count_counts n (Some zero) le = trigger_at_most functions output (W.SlidingCount n (Some zero)) refl (Some zero) (suc (length ts)) (last_of n (t ∷ ts))
  count_counts n (Some (suc zero)) le = trigger_each functions output (W.SlidingCount n (Some 1)) refl (suc (length ts)) (last_of n (t ∷ ts)) (last_some n t ts le)
  count_counts n (Some (suc (suc k))) le =
      trigger_at_most functions output (W.SlidingCount n (Some (suc (suc k)))) refl (Some (suc (suc k))) (suc (length ts)) (last_of n (t ∷ ts))

  delta_counts : (a : ℕ) (limit : ℤ) (every : Option ℕ) → HasCount (IsCount (window_gives (W.SlidingDelta a limit every) [])) (Gives_of (W.SlidingDelta a limit every))
  delta_counts a limit None = trigger_at_most functions output (W.SlidingDelta a limit None) refl None (suc (length ts)) (near (exceeds a limit) (in_order (t ∷ ts)))
  delta_counts a limit (Some zero) =
      trigger_at_most functions output (W.SlidingDelta a limit (Some zero)) refl (Some zero) (suc (length ts)) (near (exceeds a limit) (in_order (t ∷ ts)))
  delta_counts a limit (Some (suc zero)) =
      trigger_each functions output (W.SlidingDelta a limit (Some 1)) refl (suc (length ts)) (near (exceeds a limit) (in_order (t ∷ ts))) (delta_some a limit t ts)
  delta_counts a limit (Some (suc (suc k))) =
      trigger_at_most functions output (W.SlidingDelta a limit (Some (suc (suc k)))) refl (Some (suc (suc k))) (suc (length ts)) (near (exceeds a limit) (in_order (t ∷ ts)))

  pub tuple_counts : (schema : Attributes) (rule : WindowRule) → AggregateWindow schema rule → HasCount (IsCount (window_gives rule [])) (Gives_of rule)
  tuple_counts schema _ (F.tumbling_count n is) = any_many (Gives_of (W.TumblingCount n))
  tuple_counts schema _ (F.tumbling_delta place limit is) = any_many (Gives_of (W.TumblingDelta place (pos limit)))
  tuple_counts schema _ F.tumbling_punct = any_many (Gives_of W.TumblingPunct)
  tuple_counts schema _ (F.sliding_count n every is k) = count_counts n (Some every) is.0
  tuple_counts schema _ (F.sliding_delta place limit every is k) = delta_counts place (pos limit) (Some every)

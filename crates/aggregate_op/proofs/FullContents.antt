-- The contents with which a window fires of which folds are kept: each has a tuple, and the tuples are as long as those that came.
use Rattle.std.proofs.Common.{◌≡◌, ◌<◌, ◌+◌, ◌%◌, ◌==◌, ℕ, zero, suc, Bool, true, false, cond, ◌&&◌, List, [], ◌∷◌, ◌++◌, take, length, Option, Some, None, refl, length-append, arith}
use Rattle.std.specs.List.{AllByRecursion}
use Rattle.std.specs.Option.{ForSome}
use Rattle.spl_value.specs.declared.value.Value.{Value}
use Rattle.spl_value.specs.KeyOrder.{same_key}
use Rattle.spl_value.proofs.KeyOrder.{same_key-itself}
use Rattle.language_model.specs.declared.checked.WindowRule.{WindowRule}
use Rattle.language_model.specs.declared.checked.WindowRule.TheVariants as W
use Rattle.stream_model.specs.Windows.{WindowEvent, Silent, Triggers, Insert, Mark, tuples_with, keys_of, since_mark, in_order, is_start, last_start, since_start, exceeds, content, trigger_if, contents_of, fires_after, fired_contents, flushed_after}
use Rattle.stream_model.specs.parts.Windows.{flush_if}
use Rattle.stream_model.proofs.ContentMembers.{AllInserted, AllTuples, EntryIs, all_append, all_content, all_each_key, all_if, all_in_order, all_map, all_weaker}
use Rattle.window_policy.specs.Running.{IsSummable}
use Rattle.aggregate_op.specs.Kept.{AreLong}

-- there is a tuple
abbrev pub IsSome : List (List Value) → Type 0
IsSome ts = length ts ≡ 0 → ⊥

some_last : (ts : List (List Value)) (t : List Value) → IsSome (ts ++ t ∷ [])
some_last ts t none = let long = length-append ts (t ∷ []) in absurd (omega (arith, long, none))

some_if : (b : Bool) (ts us : List (List Value)) → IsSome ts → IsSome us → IsSome (cond b ts us)
some_if true ts us some more = some
some_if false ts us some more = more

both_each : {X : Type 0} (P Q : X → Type 0) (xs : List X) → AllByRecursion P xs → AllByRecursion Q xs → AllByRecursion (λ x. P x × Q x) xs
both_each P Q [] ps qs = tt
both_each P Q (x ∷ xs) ps qs = ((ps.0, qs.0), both_each P Q xs ps.1 qs.1)

each_one : {X : Type 0} (P : X → Type 0) (xs : List X) → ((x : X) → P x) → AllByRecursion P xs
each_one P [] k = tt
each_one P (x ∷ xs) k = (k x, each_one P xs k)

module _ (n : ℕ) where
  abbrev IsLong : List Value → Type 0
  IsLong t = length t ≡ n

  -- a tuple is there, and each is so long
  abbrev pub IsFull : List (List Value) → Type 0
  IsFull ts = AllTuples IsLong ts × IsSome ts

  abbrev AreFull : List (List (List Value)) → Type 0
  AreFull contents = AllByRecursion IsFull contents

  inserted_long : (h : List WindowEvent) → AreLong n h → AllInserted IsLong h
  inserted_long [] all = tt
  inserted_long (Mark ∷ h) all = inserted_long h all
  inserted_long (Insert k t ∷ h) all = (all.0, inserted_long h all.1)

  long_with : (k : List Value) (h : List WindowEvent) → AreLong n h → AllTuples IsLong (tuples_with k h)
  long_with k [] all = tt
  long_with k (Mark ∷ h) all = long_with k h all
  long_with k (Insert q t ∷ h) all = let rest = long_with k h all.1 in all_if IsLong (same_key k q) (t ∷ tuples_with k h) (tuples_with k h) (all.0, rest) rest

  long_take : (m : ℕ) (ts : List (List Value)) → AllTuples IsLong ts → AllTuples IsLong (take m ts)
  long_take zero ts all = tt
  long_take (suc m) [] all = tt
  long_take (suc m) (t ∷ ts) all = (all.0, long_take m ts all.1)

  long_since : (far : List Value → List Value → Bool) (ts : List (List Value)) → AllTuples IsLong ts → AllTuples IsLong (since_start far ts)
  long_since far [] all = tt
  long_since far (t ∷ ts) all =
      all_if IsLong (is_start far t (last_start far ts)) (t ∷ []) (since_start far ts ++ t ∷ []) (all.0, tt)
      (all_append IsLong (since_start far ts) (t ∷ []) (long_since far ts all.1) (all.0, tt))

  -- the last tuples are full, where they are to be some
  last_full : (m : ℕ) (t : List Value) (ts : List (List Value)) → 0 < m → AllTuples IsLong (t ∷ ts) → IsFull (in_order (take m (t ∷ ts)))
  last_full zero t ts some all = absurd (omega (arith, some))
  last_full (suc m) t ts some all = (all_in_order IsLong (take (suc m) (t ∷ ts)) (long_take (suc m) (t ∷ ts) all), some_last (in_order (take m ts)) t)

  full_flush : (b : Bool) (ts : List (List Value)) → IsFull ts → AreFull (contents_of (flush_if b ts))
  full_flush true ts is = (is, tt)
  full_flush false ts is = tt

  full_due : (b : Bool) (ts : List (List Value)) → IsFull ts → AreFull (contents_of (cond b (Triggers ts) Silent))
  full_due true ts is = (is, tt)
  full_due false ts is = tt

  full_trigger : (every : Option ℕ) (m : ℕ) (t : List Value) (ts : List (List Value)) → ForSome every (λ e. (0 < e) × (0 < m)) → AllTuples IsLong (t ∷ ts)
      → AreFull (contents_of (trigger_if every (suc (length ts)) (in_order (take m (t ∷ ts)))))
  full_trigger None m t ts often all = tt
  full_trigger (Some every) m t ts often all = full_due ((suc (length ts) % every) == 0) (in_order (take m (t ∷ ts))) (last_full m t ts (often every refl).1 all)

  -- the contents with which a tuple fires
  full_fires : (rule : WindowRule) → IsSummable rule → (t : List Value) (ts : List (List Value)) → AllTuples IsLong (t ∷ ts) → AreFull (contents_of (fires_after rule t ts))
  full_fires (W.TumblingCount m) may t ts all = full_flush ((suc (length ts) % m) == 0) (in_order (take m (t ∷ ts))) (last_full m t ts may all)
  full_fires (W.TumblingDelta a limit) may t [] all = tt
  full_fires (W.TumblingDelta a limit) may t (s ∷ ts) all =
      full_flush (is_start (exceeds a limit) t (last_start (exceeds a limit) (s ∷ ts)) && true) (since_start (exceeds a limit) (s ∷ ts)) (
        long_since (exceeds a limit) (s ∷ ts) all.1,
        some_if (is_start (exceeds a limit) s (last_start (exceeds a limit) ts)) (s ∷ []) (since_start (exceeds a limit) ts ++ s ∷ []) (some_last [] s) (some_last (since_start (exceeds a limit) ts) s),
      )
  full_fires W.TumblingPunct may t ts all = tt
  full_fires (W.SlidingCount m every) may t ts all = full_trigger every m t ts may all
  full_fires (W.SlidingDelta a limit every) may t ts all = absurd may

  -- ---- window markers

  here : {b : Bool} (t : List Value) (us : List (List Value)) → b ≡ true → IsSome (cond b (t ∷ us) us)
  here {b = b} t us e = some b e
    where
      some : (c : Bool) → c ≡ true → IsSome (cond c (t ∷ us) us)
      some true e none = absurd (omega (arith, none))
      some false e none = absurd (let no : false ≡ true = e in cc)

  later : (b : Bool) (t : List Value) (us : List (List Value)) → IsSome us → IsSome (cond b (t ∷ us) us)
  later true t us some none = absurd (omega (arith, none))
  later false t us some none = some none

  -- a key that came has a tuple
  some_with : (h : List WindowEvent) → AllByRecursion (λ k. IsSome (tuples_with k h)) (keys_of h)
  some_with [] = tt
  some_with (Mark ∷ h) = some_with h
  some_with (Insert q t ∷ h) = (
    here {b = same_key q q} t (tuples_with q h) (same_key-itself q),
    all_weaker (λ k. IsSome (tuples_with k h)) (λ k. IsSome (tuples_with k (Insert q t ∷ h))) (keys_of h) (λ k some. later (same_key k q) t (tuples_with k h) some) (some_with h),
  )

  some_in_order : (ts : List (List Value)) → IsSome ts → IsSome (in_order ts)
  some_in_order [] some none = some none
  some_in_order (t ∷ ts) some none = some_last (in_order ts) t none

  full_flushed : (h : List WindowEvent) → AreLong n h → AllByRecursion (EntryIs IsFull) (flushed_after W.TumblingPunct h)
  full_flushed h all =
      all_each_key IsFull (λ k. content W.TumblingPunct k h) (keys_of (since_mark h))
      (both_each (λ k. AllTuples IsLong (content W.TumblingPunct k h)) (λ k. IsSome (content W.TumblingPunct k h)) (keys_of (since_mark h))
      (each_one (λ k. AllTuples IsLong (content W.TumblingPunct k h)) (keys_of (since_mark h)) (λ k. all_content IsLong W.TumblingPunct k h (inserted_long h all)))
      (all_weaker (λ k. IsSome (tuples_with k (since_mark h))) (λ k. IsSome (content W.TumblingPunct k h)) (keys_of (since_mark h))
      (λ k some. some_in_order (tuples_with k (since_mark h)) some) (some_with (since_mark h))))

  full_marked : (rule : WindowRule) (h : List WindowEvent) → AreLong n h → AllByRecursion (EntryIs IsFull) (flushed_after rule h)
  full_marked W.TumblingPunct h all = full_flushed h all
  full_marked (W.TumblingCount m) h all = tt
  full_marked (W.TumblingDelta a limit) h all = tt
  full_marked (W.SlidingCount m every) h all = tt
  full_marked (W.SlidingDelta a limit every) h all = tt

  -- the contents with which an event fires
  pub full_fired : (rule : WindowRule) → IsSummable rule → (e : WindowEvent) (h : List WindowEvent) → AreLong n (e ∷ h) → AreFull (fired_contents rule e h)
  full_fired rule may (Insert k t) h all = full_fires rule may t (tuples_with k h) (all.0, long_with k h all.1)
  full_fired rule may Mark h all = all_map (EntryIs IsFull) IsFull (λ e. e.1) (flushed_after rule h) (λ e is. is) (full_marked rule h all)

-- One more tuple of a key whose contents are folded.
use Rattle.std.proofs.Common.{◌≡◌, ◌<◌, ◌≤◌, ◌+◌, ◌-◌, ◌-ℤ◌, ◌==◌, ℕ, zero, suc, ℤ, Bool, true, false, cond, List, [], ◌∷◌, ◌++◌, length, map, take, drop, slice_get, Option, None, Some, refl, sym, ap, subst, ◌∙◌, length-append, arith}
use Rattle.std.specs.Prelude.{int_lt}
use Rattle.std.specs.Option.{ForSome, option_map, option_map_or, option_to_list}
use Rattle.std.proofs.lemmas.List.{drop-append-le, map_push}
use Rattle.spl_value.specs.declared.value.Value.{Value}
use Rattle.spl_value.proofs.Lists.{append_last, map_length}
use Rattle.language_model.specs.declared.checked.Collector.{Collector}
use Rattle.language_model.specs.declared.checked.WindowRule.TheVariants as W
use Rattle.running_folds.specs.declared.moving.Moving.{Moving}
use Rattle.running_folds.specs.declared.tally.Tally.{Tally}
use Rattle.running_folds.specs.Folds.{answers}
use Rattle.running_folds.specs.Moving.{AreMoving, fold_of as fold_moving}
use Rattle.running_folds.specs.Tallies.{AreTallied, fold_of, made_from}
use Rattle.running_folds.proofs.Made.{all_made}
use Rattle.stream_model.specs.Windows.{Firing, Silent, Flushes, Triggers, contents_of, fires_after, held, in_order, integer_at, trigger_if}
use Rattle.stream_model.specs.WindowLaws.{exceeds_first}
use Rattle.stream_model.specs.parts.Windows.{flush_if}
use Rattle.stream_model.proofs.MappedWindows.{behind_law}
use Rattle.window_policy.specs.declared.summed.Summed.{Summed}
use Rattle.window_policy.specs.declared.sums.Sums.{Sums}
use Rattle.window_policy.specs.Parts.{turns_at}
use Rattle.window_policy.specs.Running.{arguments_of, last_of, rows_of, summed, summed_of, tuple_of}
use Rattle.window_policy.specs.Sums.{HoldsMoving, HoldsTallies}
use Rattle.window_policy.proofs.Parts.{count_step, tumbling_step}

-- ---- a tuple with its arguments after it

drop_front : (xs ys : List Value) → drop (length xs) (xs ++ ys) ≡ ys
drop_front [] ys = refl
drop_front (x ∷ xs) ys = drop_front xs ys

take_front : (xs ys : List Value) → take (length xs) (xs ++ ys) ≡ xs
take_front [] ys = refl
take_front (x ∷ xs) ys = ap (λ zs. x ∷ zs) (take_front xs ys)

module _ (m : ℕ) (t args : List Value) (same : length args ≡ m) where
  front : length (t ++ args) - m ≡ length t
  front = let long = length-append t args in omega (arith, long, same)

  pub with_arguments : arguments_of m (t ++ args) ≡ args
  with_arguments = ap (λ n. drop n (t ++ args)) front ∙ drop_front t args

  pub with_tuple : tuple_of m (t ++ args) ≡ t
  with_tuple = ap (λ n. take n (t ++ args)) front ∙ take_front t args

  pub rows_with : (us : List (List Value)) → rows_of m (us ++ (t ++ args) ∷ []) ≡ rows_of m us ++ args ∷ []
  rows_with us = map_push (arguments_of m) us (t ++ args) ∙ ap (λ (row : List Value). rows_of m us ++ row ∷ []) with_arguments

  pub last_with : (us : List (List Value)) → last_of m (us ++ (t ++ args) ∷ []) ≡ t
  last_with us =
      let all = length-append us ((t ++ args) ∷ []) in
      let place : length (us ++ (t ++ args) ∷ []) - 1 ≡ length us = omega (arith, all) in
      ap (λ o. option_map_or (tuple_of m) o []) (ap (slice_get (us ++ (t ++ args) ∷ [])) place ∙ append_last us (t ++ args)) ∙ with_tuple

-- ---- what is kept of contents that leave as a whole

pub tallied_answers : (folds : List Collector) (s : Sums) (us : List (List Value)) → HoldsTallies folds s us → made_from s.tallies.items ≡ answers folds (rows_of (length folds) us)
tallied_answers folds s us holds =
    all_made s.tallies.items (rows_of (length folds) us) holds.tallied ∙ ap (λ (fs : List Collector). answers fs (rows_of (length folds) us)) holds.folds_are

-- as many are kept as there are folds
pub as_many : (folds : List Collector) (s : Sums) (us : List (List Value)) → HoldsTallies folds s us → length s.tallies.items ≡ length folds
as_many folds s us holds = sym (map_length fold_of s.tallies.items) ∙ ap length holds.folds_are

-- the same is kept for the folds, of the same tuples
pub same_tallies : (folds : List Collector) (s r : Sums) (us vs : List (List Value)) → r.tallies.items ≡ s.tallies.items → us ≡ vs → HoldsTallies folds s us → HoldsTallies folds r vs
same_tallies folds s r us vs same are holds = record {
  folds_are = ap (map fold_of) same ∙ holds.folds_are;
  tallied = subst (λ (ts : List Tally). AreTallied ts (rows_of (length folds) vs)) (sym same)
      (subst (λ (xs : List (List Value)). AreTallied s.tallies.items (rows_of (length folds) xs)) are holds.tallied);
}

-- ---- what is kept of contents whose tuples leave one by one

pub same_moving : (folds : List Collector) (s r : Sums) (us vs : List (List Value)) → r.moving.items ≡ s.moving.items → r.rows.items ≡ s.rows.items → us ≡ vs
    → HoldsMoving folds s us → HoldsMoving folds r vs
same_moving folds s r us vs same rows are holds = record {
  folds_are = ap (map fold_moving) same ∙ holds.folds_are;
  moving = subst (λ (ms : List Moving). AreMoving ms (rows_of (length folds) vs)) (sym same)
      (subst (λ (xs : List (List Value)). AreMoving s.moving.items (rows_of (length folds) xs)) are holds.moving);
  rows = rows ∙ holds.rows ∙ ap (rows_of (length folds)) are;
}

pub moving_taken : (folds : List Collector) (s r : Sums) (us : List (List Value)) (t args : List Value) → HoldsMoving folds s us → length args ≡ length folds
    → (length args ≡ length s.moving.items → map fold_moving r.moving.items ≡ map fold_moving s.moving.items)
    → (length args ≡ length s.moving.items → (rows : List (List Value)) → AreMoving s.moving.items rows → AreMoving r.moving.items (rows ++ args ∷ []))
    → r.rows.items ≡ s.rows.items ++ args ∷ [] → HoldsMoving folds r (us ++ (t ++ args) ∷ [])
moving_taken folds s r us t args holds same are moving rows =
    let many : length args ≡ length s.moving.items = same ∙ ap length (sym holds.folds_are) ∙ map_length fold_moving s.moving.items in
    let wide = rows_with (length folds) t args same us in record {
      folds_are = are many ∙ holds.folds_are;
      moving = subst (AreMoving r.moving.items) (sym wide) (moving many (rows_of (length folds) us) holds.moving);
      rows = rows ∙ ap (λ (xs : List (List Value)). xs ++ args ∷ []) holds.rows ∙ sym wide;
    }

-- as many rows are kept as tuples are held
pub as_many_rows : (folds : List Collector) (s : Sums) (us : List (List Value)) → HoldsMoving folds s us → length s.rows.items ≡ length us
as_many_rows folds s us holds = ap length holds.rows ∙ map_length (arguments_of (length folds)) us

-- ---- what is answered

pub answered : (folds : List Collector) (us : List (List Value)) (s : Summed) (f : Firing) → contents_of f ≡ us ∷ []
    → s.answers ≡ answers folds (rows_of (length folds) us) → s.last ≡ last_of (length folds) us
    → map summed_of (option_to_list (Some s)) ≡ map (summed folds) (contents_of f)
answered folds us s f fires made last = (λ i. (made i, last i) ∷ []) ∙ ap (map (summed folds)) (sym fires)

pub not_answered : (folds : List Collector) (f : Firing) → f ≡ Silent → [] ≡ map (summed folds) (contents_of f)
not_answered folds f silent = ap (λ g. map (summed folds) (contents_of g)) (sym silent)

-- ---- a window of a number of tuples

same_test : (q b : Bool) (x y : List (List Value)) → cond q (Flushes x) Silent ≡ cond b (Flushes y) Silent → q ≡ b
same_test true true x y e = refl
same_test true false x y e = absurd cc
same_test false true x y e = absurd cc
same_test false false x y e = refl

module _ (n : ℕ) (some : 0 < n) (u : List Value) (ts : List (List Value)) where
  whole : List (List Value)
  whole = held (W.TumblingCount n) ts ++ u ∷ []

  test : turns_at (Some n) (suc (length ts)) ≡ (length (held (W.TumblingCount n) ts ++ u ∷ []) == n)
  test = same_test _ _ _ _ (count_step u ts n some).1

  pub filled : turns_at (Some n) (suc (length ts)) ≡ true
      → (held (W.TumblingCount n) (u ∷ ts) ≡ []) × (fires_after (W.TumblingCount n) u ts ≡ Flushes (held (W.TumblingCount n) ts ++ u ∷ []))
  filled turn =
      let step = count_step u ts n some in
      let b = sym test ∙ turn in (
        step.0 ∙ ap (λ c. cond c [] (held (W.TumblingCount n) ts ++ u ∷ [])) b,
        step.1 ∙ ap (λ c. flush_if c (held (W.TumblingCount n) ts ++ u ∷ [])) b,
      )

  pub filling : turns_at (Some n) (suc (length ts)) ≡ false
      → (held (W.TumblingCount n) (u ∷ ts) ≡ held (W.TumblingCount n) ts ++ u ∷ []) × (fires_after (W.TumblingCount n) u ts ≡ Silent)
  filling turn =
      let step = count_step u ts n some in
      let b = sym test ∙ turn in (
        step.0 ∙ ap (λ c. cond c [] (held (W.TumblingCount n) ts ++ u ∷ [])) b,
        step.1 ∙ ap (λ c. flush_if c (held (W.TumblingCount n) ts ++ u ∷ [])) b,
      )

-- ---- a window that is flushed before a tuple that exceeds its first one

module _ (a : ℕ) (limit : ℤ) (t args : List Value) (there : a < length t) where
  pub start_is : integer_at a (t ++ args) ≡ integer_at a t
  start_is = behind_law a t args there

  pub is_far : (us : List (List Value)) (start : Option ℤ) (new : ℤ) → start ≡ option_map (integer_at a) (slice_get us 0) → new ≡ integer_at a t
      → option_map_or (λ s. int_lt limit (new -ℤ s)) start false ≡ exceeds_first a limit (t ++ args) us
  is_far [] start new is value = ap (λ o. option_map_or (λ s. int_lt limit (new -ℤ s)) o false) is
  is_far (v ∷ vs) start new is value =
      ap (λ o. option_map_or (λ s. int_lt limit (new -ℤ s)) o false) is ∙ ap (λ z. int_lt limit (z -ℤ integer_at a v)) (value ∙ sym start_is)

  pub far : (ts : List (List Value)) → exceeds_first a limit (t ++ args) (held (W.TumblingDelta a limit) ts) ≡ true
      → (held (W.TumblingDelta a limit) ((t ++ args) ∷ ts) ≡ (t ++ args) ∷ []) × (fires_after (W.TumblingDelta a limit) (t ++ args) ts ≡ Flushes (held (W.TumblingDelta a limit) ts))
  far ts e =
      let step = tumbling_step (t ++ args) ts a limit in (
        step.0 ∙ ap (λ c. cond c ((t ++ args) ∷ []) (held (W.TumblingDelta a limit) ts ++ (t ++ args) ∷ [])) e,
        step.1 ∙ ap (λ c. flush_if c (held (W.TumblingDelta a limit) ts)) e,
      )

  pub near : (ts : List (List Value)) → exceeds_first a limit (t ++ args) (held (W.TumblingDelta a limit) ts) ≡ false
      → (held (W.TumblingDelta a limit) ((t ++ args) ∷ ts) ≡ held (W.TumblingDelta a limit) ts ++ (t ++ args) ∷ []) × (fires_after (W.TumblingDelta a limit) (t ++ args) ts ≡ Silent)
  near ts e =
      let step = tumbling_step (t ++ args) ts a limit in (
        step.0 ∙ ap (λ c. cond c ((t ++ args) ∷ []) (held (W.TumblingDelta a limit) ts ++ (t ++ args) ∷ [])) e,
        step.1 ∙ ap (λ c. flush_if c (held (W.TumblingDelta a limit) ts)) e,
      )

  -- the attribute of the first tuple of one more
  pub start_noted : (us : List (List Value)) (start : Option ℤ) (new : ℤ) → start ≡ option_map (integer_at a) (slice_get us 0) → new ≡ integer_at a t
      → Some (option_map_or (λ s. s) start new) ≡ option_map (integer_at a) (slice_get (us ++ (t ++ args) ∷ []) 0)
  start_noted [] start new is value = ap (λ o. Some (option_map_or (λ s. s) o new)) is ∙ ap Some (value ∙ sym start_is)
  start_noted (v ∷ vs) start new is value = ap (λ o. Some (option_map_or (λ s. s) o new)) is

-- ---- a window that slides

pub triggered : (every : Option ℕ) (k : ℕ) (us : List (List Value)) → turns_at every k ≡ true → trigger_if every k us ≡ Triggers us
triggered None k us e = absurd cc
triggered (Some n) k us e = ap (λ c. cond c (Triggers us) Silent) e

pub not_triggered : (every : Option ℕ) (k : ℕ) (us : List (List Value)) → turns_at every k ≡ false → trigger_if every k us ≡ Silent
not_triggered None k us e = refl
not_triggered (Some n) k us e = ap (λ c. cond c (Triggers us) Silent) e

-- a window that fires keeps some tuples
pub keeps_some : (every : Option ℕ) (n k : ℕ) → ForSome every (λ m. (0 < m) × (0 < n)) → turns_at every k ≡ true → 0 < n
keeps_some None n k allowed e = absurd cc
keeps_some (Some every) n k allowed e = (allowed every refl).1

-- the new tuple is the last one that is held
pub slid_last : (n : ℕ) (every : Option ℕ) (m : ℕ) (t args : List Value) (ts : List (List Value)) → length args ≡ m → 0 < n
    → last_of m (held (W.SlidingCount n every) ((t ++ args) ∷ ts)) ≡ t
slid_last zero every m t args ts same some = absurd (omega (arith, some))
slid_last (suc n) every m t args ts same some = last_with m t args same (in_order (take n ts))

-- one more tuple, without those that go
pub shifted : (n : ℕ) (us : List (List Value)) (u : List Value) → 0 < n → length us ≤ n
    → drop (length us + 1 - n) us ++ u ∷ [] ≡ drop (length us + 1 - n) (us ++ u ∷ [])
shifted n us u some few = sym (drop-append-le (length us + 1 - n) us (u ∷ []) (omega arith))

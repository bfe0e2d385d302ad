-- What a window fires with, and the groups of that, are tuples that came: what holds of each that came holds of each of them.
use Rattle.std.proofs.Common.{ℕ, zero, suc, ◌%◌, ◌==◌, Bool, true, false, cond, not, ◌&&◌, List, [], ◌∷◌, ◌++◌, ◌≡◌, map, take, length, Option, Some, None, refl}
use Rattle.std.specs.Prelude.{⊤}
use Rattle.std.specs.declared.cmp.Ordering.{Ordering}
use Rattle.std.specs.declared.cmp.Ordering.TheVariants.{Less, Equal, Greater}
use Rattle.std.specs.FinMap.{put}
use Rattle.std.specs.FinMap.Entries.{by_order}
use Rattle.std.specs.List.{list_any, AllByRecursion}
use Rattle.spl_value.specs.declared.item.Item.{Item}
use Rattle.spl_value.specs.declared.item.Item.TheVariants as I
use Rattle.spl_value.specs.declared.value.Value.{Value}
use Rattle.spl_value.specs.Key.{key_of}
use Rattle.language_model.specs.declared.checked.WindowRule.{WindowRule}
use Rattle.language_model.specs.declared.checked.WindowRule.TheVariants as W
use Rattle.stream_model.specs.Stream.{is_empty}
use Rattle.spl_value.specs.KeyOrder.{key_cmp, same_key, each_key}
use Rattle.stream_model.specs.Groups.{groups}
use Rattle.stream_model.specs.parts.Groups.{of_group}
use Rattle.stream_model.specs.Windows.{WindowEvent, Silent, Triggers, Insert, Mark, window_events, tuples_with, keys_of, since_mark, in_order, is_start, last_start, since_start, near, exceeds, held, content, trigger_if, contents_of, fires_after, flushed_after, fired_at}
use Rattle.stream_model.proofs.parts.Windows.{last_of}
use Rattle.stream_model.specs.parts.Windows.{relevant, flush_if}
use Rattle.spl_value.proofs.KeyOrder.{same_key-itself}

-- ---- lists

pub all_append : {X : Type 0} (P : X → Type 0) (xs ys : List X) → AllByRecursion P xs → AllByRecursion P ys → AllByRecursion P (xs ++ ys)
all_append P [] ys all more = more
all_append P (x ∷ xs) ys all more = (all.0, all_append P xs ys all.1 more)

pub all_if : {X : Type 0} (P : X → Type 0) (b : Bool) (xs ys : List X) → AllByRecursion P xs → AllByRecursion P ys → AllByRecursion P (cond b xs ys)
all_if P true xs ys all more = all
all_if P false xs ys all more = more

all_take : {X : Type 0} (P : X → Type 0) (n : ℕ) (xs : List X) → AllByRecursion P xs → AllByRecursion P (take n xs)
all_take P zero xs all = tt
all_take P (suc n) [] all = tt
all_take P (suc n) (x ∷ xs) all = (all.0, all_take P n xs all.1)

pub all_in_order : {X : Type 0} (P : X → Type 0) (xs : List X) → AllByRecursion P xs → AllByRecursion P (in_order xs)
all_in_order P [] all = tt
all_in_order P (x ∷ xs) all = all_append P (in_order xs) (x ∷ []) (all_in_order P xs all.1) (all.0, tt)

all_last : {X : Type 0} (P : X → Type 0) (n : ℕ) (xs : List X) → AllByRecursion P xs → AllByRecursion P (last_of n xs)
all_last P n xs all = all_in_order P (take n xs) (all_take P n xs all)

all_since : {X : Type 0} (P : X → Type 0) (far : X → X → Bool) (xs : List X) → AllByRecursion P xs → AllByRecursion P (since_start far xs)
all_since P far [] all = tt
all_since P far (x ∷ xs) all =
    all_if P (is_start far x (last_start far xs)) (x ∷ []) (since_start far xs ++ x ∷ []) (all.0, tt)
    (all_append P (since_start far xs) (x ∷ []) (all_since P far xs all.1) (all.0, tt))

all_near : {X : Type 0} (P : X → Type 0) (far : X → X → Bool) (xs : List X) → AllByRecursion P xs → AllByRecursion P (near far xs)
all_near P far [] all = tt
all_near P far (x ∷ xs) all =
    let rest = all_near P far xs all.1 in
    all_if P (list_any (λ later. far later x) xs) (near far xs) (x ∷ near far xs) rest (all.0, rest)

-- where each f x has a fact of each x with another
pub all_map : {X Y : Type 0} (P : X → Type 0) (Q : Y → Type 0) (f : X → Y) (xs : List X) → ((x : X) → P x → Q (f x)) → AllByRecursion P xs
    → AllByRecursion Q (map f xs)
all_map P Q f [] k all = tt
all_map P Q f (x ∷ xs) k all = (k x all.0, all_map P Q f xs k all.1)

pub all_weaker : {X : Type 0} (P Q : X → Type 0) (xs : List X) → ((x : X) → P x → Q x) → AllByRecursion P xs → AllByRecursion Q xs
all_weaker P Q [] k all = tt
all_weaker P Q (x ∷ xs) k all = (k x all.0, all_weaker P Q xs k all.1)

-- ---- an entry for each key

all_by_order : {X : Type 0} (P : X → Type 0) (o : Ordering) (xs ys zs : List X) → AllByRecursion P xs → AllByRecursion P ys → AllByRecursion P zs
    → AllByRecursion P (by_order o xs ys zs)
all_by_order P Less xs ys zs a b c = a
all_by_order P Equal xs ys zs a b c = b
all_by_order P Greater xs ys zs a b c = c

module _ {X : Type 0} (Q : X → Type 0) where
  abbrev pub EntryIs : List Value × X → Type 0
  EntryIs e = Q e.1

  all_put : (k : List Value) (x : X) (es : List (List Value × X)) → Q x → AllByRecursion EntryIs es → AllByRecursion EntryIs (put key_cmp k x es)
  all_put k x [] is all = (is, tt)
  all_put k x (e ∷ es) is all =
      all_by_order EntryIs (key_cmp k e.0) ((k, x) ∷ e ∷ es) ((e.0, x) ∷ es) (e ∷ put key_cmp k x es) (is, all) (is, all.1) (all.0, all_put k x es is all.1)

  pub all_each_key : (f : List Value → X) (ks : List (List Value)) → AllByRecursion (λ k. Q (f k)) ks → AllByRecursion EntryIs (each_key f ks)
  all_each_key f [] all = tt
  all_each_key f (k ∷ ks) all = all_put k (f k) (each_key f ks) all.0 (all_each_key f ks all.1)

every : {X : Type 0} (P : X → Type 0) (xs : List X) → ((x : X) → P x) → AllByRecursion P xs
every P [] k = tt
every P (x ∷ xs) k = (k x, every P xs k)

-- ---- windows

module _ (P : List Value → Type 0) where
  abbrev pub AllTuples : List (List Value) → Type 0
  AllTuples ts = AllByRecursion P ts

  -- an item that is a tuple has the fact
  abbrev pub ItemIs : Item → Type 0
  ItemIs (I.Tuple t) = P t
  ItemIs I.Window = ⊤
  ItemIs I.Final = ⊤
  ItemIs (I.Bad f) = ⊤

  -- each tuple that is inserted has it
  abbrev pub AllInserted : List WindowEvent → Type 0
  AllInserted [] = ⊤
  AllInserted (Mark ∷ h) = AllInserted h
  AllInserted (Insert k t ∷ h) = P t × AllInserted h

  pub inserted_of : (key : List Value → List Value) (items : List Item) → AllByRecursion ItemIs items → AllInserted (window_events key items)
  inserted_of key [] all = tt
  inserted_of key (I.Tuple t ∷ items) all = (all.0, inserted_of key items all.1)
  inserted_of key (I.Window ∷ items) all = inserted_of key items all.1
  inserted_of key (I.Final ∷ items) all = inserted_of key items all.1
  inserted_of key (I.Bad f ∷ items) all = inserted_of key items all.1

  all_tuples_with : (k : List Value) (h : List WindowEvent) → AllInserted h → AllTuples (tuples_with k h)
  all_tuples_with k [] all = tt
  all_tuples_with k (Mark ∷ h) all = all_tuples_with k h all
  all_tuples_with k (Insert q t ∷ h) all =
      let rest = all_tuples_with k h all.1 in all_if P (same_key k q) (t ∷ tuples_with k h) (tuples_with k h) (all.0, rest) rest

  all_since_mark : (h : List WindowEvent) → AllInserted h → AllInserted (since_mark h)
  all_since_mark [] all = tt
  all_since_mark (Mark ∷ h) all = tt
  all_since_mark (Insert k t ∷ h) all = (all.0, all_since_mark h all.1)

  all_relevant : (rule : WindowRule) (h : List WindowEvent) → AllInserted h → AllInserted (relevant rule h)
  all_relevant W.TumblingPunct h all = all_since_mark h all
  all_relevant (W.TumblingCount n) h all = all
  all_relevant (W.TumblingDelta a limit) h all = all
  all_relevant (W.SlidingCount n every) h all = all
  all_relevant (W.SlidingDelta a limit every) h all = all

  all_held : (rule : WindowRule) (ts : List (List Value)) → AllTuples ts → AllTuples (held rule ts)
  all_held (W.TumblingCount n) ts all = all_last P (length ts % n) ts all
  all_held (W.TumblingDelta a limit) ts all = all_since P (exceeds a limit) ts all
  all_held W.TumblingPunct ts all = all_in_order P ts all
  all_held (W.SlidingCount n every) ts all = all_last P n ts all
  all_held (W.SlidingDelta a limit every) ts all = all_near P (exceeds a limit) (in_order ts) (all_in_order P ts all)

  pub all_content : (rule : WindowRule) (k : List Value) (h : List WindowEvent) → AllInserted h → AllTuples (content rule k h)
  all_content rule k h all = all_held rule (tuples_with k (relevant rule h)) (all_tuples_with k (relevant rule h) (all_relevant rule h all))

  -- ---- firing

  abbrev pub AllContents : List (List (List Value)) → Type 0
  AllContents contents = AllByRecursion AllTuples contents

  all_flush : (b : Bool) (ts : List (List Value)) → AllTuples ts → AllContents (contents_of (flush_if b ts))
  all_flush true ts all = (all, tt)
  all_flush false ts all = tt

  all_trigger : (every : Option ℕ) (n : ℕ) (ts : List (List Value)) → AllTuples ts → AllContents (contents_of (trigger_if every n ts))
  all_trigger None n ts all = tt
  all_trigger (Some every) n ts all = if_due ((n % every) == 0)
    where
      if_due : (b : Bool) → AllContents (contents_of (cond b (Triggers ts) Silent))
      if_due true = (all, tt)
      if_due false = tt

  all_fires : (rule : WindowRule) (t : List Value) (ts : List (List Value)) → P t → AllTuples ts → AllContents (contents_of (fires_after rule t ts))
  all_fires (W.TumblingCount n) t ts is all = all_flush ((suc (length ts) % n) == 0) (last_of n (t ∷ ts)) (all_last P n (t ∷ ts) (is, all))
  all_fires (W.TumblingDelta a limit) t ts is all =
      all_flush (is_start (exceeds a limit) t (last_start (exceeds a limit) ts) && not (is_empty ts)) (held (W.TumblingDelta a limit) ts)
      (all_held (W.TumblingDelta a limit) ts all)
  all_fires W.TumblingPunct t ts is all = tt
  all_fires (W.SlidingCount n every) t ts is all =
      all_trigger every (suc (length ts)) (held (W.SlidingCount n every) (t ∷ ts)) (all_held (W.SlidingCount n every) (t ∷ ts) (is, all))
  all_fires (W.SlidingDelta a limit every) t ts is all =
      all_trigger every (suc (length ts)) (held (W.SlidingDelta a limit every) (t ∷ ts)) (all_held (W.SlidingDelta a limit every) (t ∷ ts) (is, all))

  all_flushed : (rule : WindowRule) (h : List WindowEvent) → AllInserted h → AllByRecursion (EntryIs AllTuples) (flushed_after rule h)
  all_flushed W.TumblingPunct h all =
      all_each_key AllTuples (λ k. content W.TumblingPunct k h) (keys_of (since_mark h))
      (every (λ k. AllTuples (content W.TumblingPunct k h)) (keys_of (since_mark h)) (λ k. all_content W.TumblingPunct k h all))
  all_flushed (W.TumblingCount n) h all = tt
  all_flushed (W.TumblingDelta a limit) h all = tt
  all_flushed (W.SlidingCount n every) h all = tt
  all_flushed (W.SlidingDelta a limit every) h all = tt

  -- the tuples of the contents with which an item fires are among those that came, and itself
  pub all_fired : (rule : WindowRule) (key : List Value → List Value) (x : Item) (earlier : List Item) → ItemIs x → AllByRecursion ItemIs earlier
      → AllContents (fired_at rule key x earlier)
  all_fired rule key (I.Tuple t) earlier is all =
      all_fires rule t (tuples_with (key t) (window_events key earlier)) is (all_tuples_with (key t) (window_events key earlier) (inserted_of key earlier all))
  all_fired rule key I.Window earlier is all =
      all_map (EntryIs AllTuples) AllTuples (λ e. e.1) (flushed_after rule (window_events key earlier)) (λ e h. h)
      (all_flushed rule (window_events key earlier) (inserted_of key earlier all))
  all_fired rule key I.Final earlier is all = tt
  all_fired rule key (I.Bad f) earlier is all = tt

  -- ---- groups

  -- some tuples, each with the fact
  abbrev pub IsGroup : List (List Value) → Type 0
  IsGroup ts = AllTuples ts × (is_empty ts ≡ false)

  all_of_group : (places : List ℕ) (ts : List (List Value)) (k : List Value) → AllTuples ts → AllTuples (of_group places ts k)
  all_of_group places [] k all = tt
  all_of_group places (t ∷ ts) k all =
      let rest = all_of_group places ts k all.1 in all_if P (same_key k (key_of t places)) (t ∷ of_group places ts k) (of_group places ts k) (all.0, rest) rest

  -- each group has a tuple
  some_of_group : (places : List ℕ) (ts : List (List Value)) → AllByRecursion (λ k. is_empty (of_group places ts k) ≡ false) (map (λ t. key_of t places) ts)
  some_of_group places [] = tt
  some_of_group places (t ∷ ts) = (
    here (same_key-itself (key_of t places)),
    all_weaker (λ k. is_empty (of_group places ts k) ≡ false) (λ k. is_empty (of_group places (t ∷ ts) k) ≡ false) (map (λ u. key_of u places) ts)
        (λ k some. later (same_key k (key_of t places)) (of_group places ts k) some) (some_of_group places ts),
  )
    where
      here : {b : Bool} → b ≡ true → is_empty (cond b (t ∷ of_group places ts (key_of t places)) (of_group places ts (key_of t places))) ≡ false
      here {b} e = λ i. is_empty (cond (e i) (t ∷ of_group places ts (key_of t places)) (of_group places ts (key_of t places)))

      later : (b : Bool) (us : List (List Value)) → is_empty us ≡ false → is_empty (cond b (t ∷ us) us) ≡ false
      later true us some = refl
      later false us some = some

  -- the tuples of groups are among the content
  pub all_groups : (places : List ℕ) (ts : List (List Value)) → AllTuples ts → AllByRecursion (EntryIs IsGroup) (groups places ts)
  all_groups places ts all =
      all_each_key IsGroup (of_group places ts) (map (λ t. key_of t places) ts)
      (all_weaker (λ k. is_empty (of_group places ts k) ≡ false) (λ k. IsGroup (of_group places ts k)) (map (λ t. key_of t places) ts)
      (λ k some. (all_of_group places ts k all, some)) (some_of_group places ts))

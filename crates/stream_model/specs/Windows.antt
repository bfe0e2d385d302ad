-- What a window of an input port holds for each key, when it fires and with what, by the whole history of what came
-- into it: the items of its own port, also where an operator has a window for each of two ports. A history has its
-- newest event first, and a content its oldest tuple first. A window holds the tuples as they came: that of an
-- Aggregate has no values of arguments after them.
--
-- The end of a port leaves its window as it is: the other side of a Join still finds the tuples in it. A window is
-- dropped only with its operator.
--
-- A tuple that doesn't fit its window still has a meaning: a place of the key that it doesn't have is left out of its
-- key, and an attribute that it doesn't have, or that is no integer, counts as 0. The checks of clauses see to it that
-- the n of a tumbling window and the number of a trigger aren't 0.
use Prim.Native.Nat.{suc}
use Rattle.std.specs.Prelude.{ℕ, ℤ, pos, ◌-ℤ◌, ◌%◌, ◌==◌, Bool, true, false, not, ◌&&◌, List, [], ◌∷◌, ◌++◌, map, length, take, slice_get, int_lt, Option, Some, None, if◌then◌else◌}
use Rattle.std.specs.List.{list_any}
use Rattle.std.specs.Option.{option_map_or}
use Rattle.spl_value.specs.declared.item.Item.{Item}
use Rattle.spl_value.specs.declared.item.Item.TheVariants as I
use Rattle.spl_value.specs.declared.value.Value.{Value}
use Rattle.spl_value.specs.declared.value.Value.TheOpen as O
use Rattle.spl_value.specs.declared.value.Value.TheOpen.{Value-F}
use Rattle.spl_value.specs.declared.value.Value.TheViews.{out-Value}
use Rattle.spl_value.specs.Key.{key_of}
use Rattle.language_model.specs.declared.checked.Policy.{Policy}
use Rattle.language_model.specs.declared.checked.WindowRule.{WindowRule}
use Rattle.language_model.specs.declared.checked.WindowRule.TheVariants as W
use Rattle.stream_model.specs.Stream.{is_empty}
use Rattle.spl_value.specs.KeyOrder.{same_key, each_key}

-- ---- rules

-- window markers flush by this rule
abbrev pub flushes_at_markers : WindowRule → Bool
flushes_at_markers W.TumblingPunct = true
flushes_at_markers (W.TumblingCount n) = false
flushes_at_markers (W.TumblingDelta a limit) = false
flushes_at_markers (W.SlidingCount n every) = false
flushes_at_markers (W.SlidingDelta a limit every) = false

-- ---- histories

-- a tuple is inserted under a key, or a window marker comes
pub data WindowEvent : Type 0 where
  Insert : (key tuple : List Value) → WindowEvent
  Mark : WindowEvent

-- the key of a tuple: in a partitioned window its values at the places of `partitionBy`, in the order of the text. In a
-- window that isn't partitioned all tuples have one key, []
abbrev pub partition_key : Policy → List ℕ → List Value → List Value
partition_key policy places t = if policy.partitioned then key_of t places else []

-- what the items of a port, the newest first, are to its window, where key gives the key of each tuple
abbrev pub window_events : (List Value → List Value) → List Item → List WindowEvent
window_events key [] = []
window_events key (I.Tuple t ∷ items) = Insert (key t) t ∷ window_events key items
window_events key (I.Window ∷ items) = Mark ∷ window_events key items
window_events key (I.Final ∷ items) = window_events key items
window_events key (I.Bad f ∷ items) = window_events key items

-- the tuples with a key, the newest first
abbrev pub tuples_with : List Value → List WindowEvent → List (List Value)
tuples_with k [] = []
tuples_with k (Mark ∷ h) = tuples_with k h
tuples_with k (Insert q t ∷ h) = if same_key k q then t ∷ tuples_with k h else tuples_with k h

-- the key of each tuple
abbrev pub keys_of : List WindowEvent → List (List Value)
keys_of [] = []
keys_of (Mark ∷ h) = keys_of h
keys_of (Insert k t ∷ h) = k ∷ keys_of h

-- whether a tuple came with the key
abbrev pub has_come : List Value → List WindowEvent → Bool
has_come k h = list_any (same_key k) (keys_of h)

-- what came after the last marker
abbrev pub since_mark : List WindowEvent → List WindowEvent
since_mark [] = []
since_mark (Mark ∷ h) = []
since_mark (Insert k t ∷ h) = Insert k t ∷ since_mark h

-- ---- tuples, the newest first

-- in the order in which they came
abbrev pub in_order : {A : Type 0} → List A → List A
in_order [] = []
in_order (t ∷ ts) = in_order ts ++ t ∷ []

-- a tuple is a start where it is the first, or where it is far from the last start before it
abbrev pub is_start : {A : Type 0} → (A → A → Bool) → A → Option A → Bool
is_start far t start = option_map_or (far t) start true

abbrev pub last_start : {A : Type 0} → (A → A → Bool) → List A → Option A
last_start far [] = None
last_start far (t ∷ ts) = if is_start far t (last_start far ts) then Some t else last_start far ts

-- the tuples from the last start on, in order
abbrev pub since_start : {A : Type 0} → (A → A → Bool) → List A → List A
since_start far [] = []
since_start far (t ∷ ts) = if is_start far t (last_start far ts) then t ∷ [] else since_start far ts ++ t ∷ []

-- of tuples in order, each that no later one is far from
abbrev pub near : {A : Type 0} → (A → A → Bool) → List A → List A
near far [] = []
near far (t ∷ ts) = if list_any (λ later. far later t) ts then near far ts else t ∷ near far ts

-- ---- attributes

abbrev pub integer_of : Value-F Value → ℤ
integer_of (O.Int n) = n
integer_of v = pos 0

-- the integer of an attribute
abbrev pub integer_at : ℕ → List Value → ℤ
integer_at a t = option_map_or (λ v. integer_of (out-Value v)) (slice_get t a) (pos 0)

-- one tuple exceeds another in an attribute by more than the limit; the difference doesn't wrap
abbrev pub exceeds : ℕ → ℤ → List Value → List Value → Bool
exceeds a limit new old = int_lt limit (integer_at a new -ℤ integer_at a old)

-- ---- contents

-- What the window of a key holds of its t tuples: the last `t mod n`, those from the last start on, all, the last n, or
-- each that no later one exceeds by more than the limit. The tuples are given the newest first, and what is held of
-- them has the oldest first.
abbrev pub held : WindowRule → List (List Value) → List (List Value)
held (W.TumblingCount n) ts = in_order (take (length ts % n) ts)
held (W.TumblingDelta a limit) ts = since_start (exceeds a limit) ts
held W.TumblingPunct ts = in_order ts
held (W.SlidingCount n every) ts = in_order (take n ts)
held (W.SlidingDelta a limit every) ts = near (exceeds a limit) (in_order ts)

-- where window markers flush, what came after the last one counts, and else everything
abbrev pub content : WindowRule → List Value → List WindowEvent → List (List Value)
content rule k h = held rule (tuples_with k (if flushes_at_markers rule then since_mark h else h))

-- ---- firing

-- with what a tuple fires: with nothing, with a whole content, which leaves the window, or with a content that stays
pub data Firing : Type 0 where
  Silent : Firing
  Flushes : (tuples : List (List Value)) → Firing
  Triggers : (tuples : List (List Value)) → Firing

-- a trigger fires after each `every` tuples of a key; a window without one never fires
abbrev pub trigger_if : Option ℕ → ℕ → List (List Value) → Firing
trigger_if trigger n ts = option_map_or (λ every. if (n % every) == 0 then Triggers ts else Silent) trigger Silent

-- what a tuple of a key fires after the earlier ones, the newest first: one that makes their number a multiple of n
-- flushes the last n, a start that isn't the first tuple flushes what was held before it, and a trigger fires with what
-- is held then
abbrev pub fires_after : WindowRule → List Value → List (List Value) → Firing
fires_after (W.TumblingCount n) t ts =
    if (suc (length ts) % n) == 0 then Flushes (in_order (take n (t ∷ ts))) else Silent
fires_after (W.TumblingDelta a limit) t ts =
    if is_start (exceeds a limit) t (last_start (exceeds a limit) ts)
    && not (is_empty ts) then Flushes (held (W.TumblingDelta a limit) ts) else Silent
fires_after W.TumblingPunct t ts = Silent
fires_after (W.SlidingCount n every) t ts = trigger_if every (suc (length ts)) (held (W.SlidingCount n every) (t ∷ ts))
fires_after (W.SlidingDelta a limit every) t ts =
    trigger_if every (suc (length ts)) (held (W.SlidingDelta a limit every) (t ∷ ts))

-- what a window marker flushes after a history, where markers flush: the content of each key of a tuple that came after
-- the last marker before it, by ascending key
abbrev pub flushed_after : WindowRule → List WindowEvent → List (List Value × List (List Value))
flushed_after rule h = if flushes_at_markers rule then each_key (λ k. content rule k h) (keys_of (since_mark h)) else []

-- the content that is fired, where one is
abbrev pub contents_of : Firing → List (List (List Value))
contents_of Silent = []
contents_of (Flushes ts) = ts ∷ []
contents_of (Triggers ts) = ts ∷ []

-- the contents with which an event fires after a history, those that a marker flushes by ascending key
abbrev pub fired_contents : WindowRule → WindowEvent → List WindowEvent → List (List (List Value))
fired_contents rule Mark h = map (λ e. e.1) (flushed_after rule h)
fired_contents rule (Insert k t) h = contents_of (fires_after rule t (tuples_with k h))

-- the contents with which an item of the port fires after the earlier ones, the newest first. A final marker and a
-- fault fire none
abbrev pub fired_at : WindowRule → (List Value → List Value) → Item → List Item → List (List (List Value))
fired_at rule key (I.Tuple t) earlier = fired_contents rule (Insert (key t) t) (window_events key earlier)
fired_at rule key I.Window earlier = fired_contents rule Mark (window_events key earlier)
fired_at rule key I.Final earlier = []
fired_at rule key (I.Bad f) earlier = []

-- Laws of windows, rule by rule, tuple by tuple, and for other keys, markers, items and mapped tuples.
use Rattle.std.specs.Prelude.{ℕ, ℤ, ◌+◌, ◌-◌, ◌%◌, ◌<◌, ◌==◌, min, Bool, true, false, not, IsTrue, ⊤, List, [], ◌∷◌, ◌++◌, ◌≡◌, map, length, drop, filter, Option, Some, None, if◌then◌else◌}
use Rattle.std.specs.List.{list_any, AllByRecursion}
use Rattle.std.specs.FinMap.{find, is_sorted}
use Rattle.spl_value.specs.declared.item.Fault.{Fault}
use Rattle.spl_value.specs.declared.item.Item.{Item}
use Rattle.spl_value.specs.declared.item.Item.TheVariants as I
use Rattle.spl_value.specs.declared.value.Value.{Value}
use Rattle.language_model.specs.declared.checked.Policy.{Policy}
use Rattle.language_model.specs.declared.checked.WindowRule.{WindowRule}
use Rattle.language_model.specs.declared.checked.WindowRule.TheVariants as W
use Rattle.spl_value.specs.KeyOrder.{key_cmp, same_key}
use Rattle.stream_model.specs.Stream.{is_empty}
use Rattle.stream_model.specs.Windows.{flushes_at_markers, WindowEvent, Insert, Mark, partition_key, window_events, tuples_with, has_come, in_order, is_start, last_start, integer_at, exceeds, content, Firing, Silent, Flushes, Triggers, trigger_if, flushed_after, contents_of, fired_contents, fired_at}
use Rattle.stream_model.specs.parts.Windows.{flush_if, tuple_fires}

-- the second list is the first with some more before it
abbrev pub IsSuffix : {A : Type 0} → List A → List A → Type 0
IsSuffix {A = A} back whole = (front : List A) × (front ++ back ≡ whole)

-- ---- rule by rule

-- a window of n tuples holds the last `t mod n` of the t tuples of its key
abbrev pub TumblingCountLaw : Type 0
TumblingCountLaw = (n : ℕ) (k : List Value) (h : List WindowEvent) →
    IsSuffix (content (W.TumblingCount n) k h) (in_order (tuples_with k h))
    × (length (content (W.TumblingCount n) k h) ≡ length (tuples_with k h) % n)

-- a sliding one holds the last n, or all
abbrev pub SlidingCountLaw : Type 0
SlidingCountLaw = (n : ℕ) (every : Option ℕ) (k : List Value) (h : List WindowEvent) →
    IsSuffix (content (W.SlidingCount n every) k h) (in_order (tuples_with k h))
    × (length (content (W.SlidingCount n every) k h) ≡ min n (length (tuples_with k h)))

-- the last start among tuples, the newest first, and what came after it, none of which is far from it
pub record FromStart {A : Type 0} (far : A → A → Bool) (ts held : List A) : Type 0 where
  pub start : A
  pub before : List A
  pub later : List A
  pub are : ts ≡ later ++ start ∷ before
  pub starts : is_start far start (last_start far before) ≡ true
  pub last : last_start far ts ≡ Some start
  pub close : AllByRecursion (λ t. far t start ≡ false) later
  pub holds : held ≡ start ∷ in_order later

-- a tumbling delta holds the last start and the tuples after it, which don't exceed it by more than the limit
abbrev pub TumblingDeltaLaw : Type 0
TumblingDeltaLaw = (a : ℕ) (limit : ℤ) (k : List Value) (h : List WindowEvent) → has_come k h ≡ true
    → FromStart (exceeds a limit) (tuples_with k h) (content (W.TumblingDelta a limit) k h)

-- one of the later tuples exceeds it by more than the limit
abbrev pub is_exceeded : ℕ → ℤ → List (List Value) → List Value → Bool
is_exceeded a limit later t = list_any (λ u. exceeds a limit u t) later

-- around a tuple of the key, a sliding delta holds what it held before of the tuples that neither this one nor a later one exceeds
-- by more than the limit, then the tuple, unless a later one exceeds it by more than the limit, and then what it holds of the later ones
abbrev pub SlidingDeltaLaw : Type 0
SlidingDeltaLaw = (a : ℕ) (limit : ℤ) (every : Option ℕ) (k t : List Value) (newer older : List WindowEvent) →
    content (W.SlidingDelta a limit every) k (newer ++ Insert k t ∷ older)
    ≡ filter (λ u. not (is_exceeded a limit (t ∷ in_order (tuples_with k newer)) u)) (content (W.SlidingDelta a limit every) k older)
    ++ (if is_exceeded a limit (in_order (tuples_with k newer)) t
    then content (W.SlidingDelta a limit every) k newer
    else t ∷ content (W.SlidingDelta a limit every) k newer)

-- ---- one tuple more

-- The n-th tuple is inserted, and then the window is flushed.
abbrev pub TumblingCountInsert : Type 0
TumblingCountInsert = (n : ℕ) (k t : List Value) (h : List WindowEvent) → 0 < n →
    (content (W.TumblingCount n) k (Insert k t ∷ h)
    ≡ (if length (content (W.TumblingCount n) k h ++ t ∷ []) == n then [] else content (W.TumblingCount n) k h ++ t ∷ []))
    × (tuple_fires (W.TumblingCount n) k t h
    ≡ flush_if (length (content (W.TumblingCount n) k h ++ t ∷ []) == n) (content (W.TumblingCount n) k h ++ t ∷ []))

-- a tuple exceeds the first one of a content by more than the limit
abbrev pub exceeds_first : ℕ → ℤ → List Value → List (List Value) → Bool
exceeds_first a limit t [] = false
exceeds_first a limit t (s ∷ ts) = exceeds a limit t s

-- Where the new tuple exceeds the first one by more than the limit, the window is flushed before the insertion.
abbrev pub TumblingDeltaInsert : Type 0
TumblingDeltaInsert = (a : ℕ) (limit : ℤ) (k t : List Value) (h : List WindowEvent) →
    (content (W.TumblingDelta a limit) k (Insert k t ∷ h)
    ≡ (if exceeds_first a limit t (content (W.TumblingDelta a limit) k h) then t ∷ [] else content (W.TumblingDelta a limit) k h ++ t ∷ []))
    × (tuple_fires (W.TumblingDelta a limit) k t h
    ≡ flush_if (exceeds_first a limit t (content (W.TumblingDelta a limit) k h)) (content (W.TumblingDelta a limit) k h))

-- Between markers a tuple only joins the others.
abbrev pub TumblingPunctInsert : Type 0
TumblingPunctInsert = (k t : List Value) (h : List WindowEvent) →
    (content W.TumblingPunct k (Insert k t ∷ h) ≡ content W.TumblingPunct k h ++ t ∷ [])
    × (tuple_fires W.TumblingPunct k t h ≡ Silent)

-- Of the content and the new tuple the last n are kept, and a trigger fires with them.
abbrev pub SlidingCountInsert : Type 0
SlidingCountInsert = (n : ℕ) (every : Option ℕ) (k t : List Value) (h : List WindowEvent) →
    (content (W.SlidingCount n every) k (Insert k t ∷ h)
    ≡ drop (length (content (W.SlidingCount n every) k h) + 1 - n) (content (W.SlidingCount n every) k h ++ t ∷ []))
    × (tuple_fires (W.SlidingCount n every) k t h
    ≡ trigger_if every (length (tuples_with k h) + 1) (content (W.SlidingCount n every) k (Insert k t ∷ h)))

-- Every tuple that the new one exceeds by more than the limit is evicted, and a trigger fires with what is left and the new one.
abbrev pub SlidingDeltaInsert : Type 0
SlidingDeltaInsert = (a : ℕ) (limit : ℤ) (every : Option ℕ) (k t : List Value) (h : List WindowEvent) →
    (content (W.SlidingDelta a limit every) k (Insert k t ∷ h)
    ≡ filter (λ u. not (exceeds a limit t u)) (content (W.SlidingDelta a limit every) k h) ++ t ∷ [])
    × (tuple_fires (W.SlidingDelta a limit every) k t h
    ≡ trigger_if every (length (tuples_with k h) + 1) (content (W.SlidingDelta a limit every) k (Insert k t ∷ h)))

-- ---- keys

-- the tuples among items
abbrev pub tuples_among : List Item → List (List Value)
tuples_among [] = []
tuples_among (I.Tuple t ∷ items) = t ∷ tuples_among items
tuples_among (I.Window ∷ items) = tuples_among items
tuples_among (I.Final ∷ items) = tuples_among items
tuples_among (I.Bad f ∷ items) = tuples_among items

-- the tuples with a key are those of the port that have it
abbrev pub PortLaw : Type 0
PortLaw = (key : List Value → List Value) (k : List Value) (items : List Item) →
    tuples_with k (window_events key items) ≡ filter (λ t. same_key k (key t)) (tuples_among items)

-- where the window isn't partitioned, all of them have one key
abbrev pub OneKeyLaw : Type 0
OneKeyLaw = (policy : Policy) (places : List ℕ) (items : List Item) → policy.partitioned ≡ false →
    tuples_with [] (window_events (partition_key policy places) items) ≡ tuples_among items

-- the markers, and the tuples with a key
abbrev pub with_key : List Value → List WindowEvent → List WindowEvent
with_key k [] = []
with_key k (Mark ∷ h) = Mark ∷ with_key k h
with_key k (Insert q t ∷ h) = if same_key k q then Insert q t ∷ with_key k h else with_key k h

-- a content depends on the tuples of its key and on markers alone, and where markers don't flush, on the tuples alone. So does, by
-- each rule, what a tuple fires
abbrev pub OwnKeyLaw : Type 0
OwnKeyLaw = (rule : WindowRule) (k : List Value) (g h : List WindowEvent) →
    (with_key k g ≡ with_key k h → content rule k g ≡ content rule k h)
    × (flushes_at_markers rule ≡ false → tuples_with k g ≡ tuples_with k h → content rule k g ≡ content rule k h)
    × (tuples_with k g ≡ tuples_with k h → (t : List Value) → tuple_fires rule k t g ≡ tuple_fires rule k t h)

-- keys are the same exactly where they are equal
abbrev pub SameKeyLaw : Type 0
SameKeyLaw = (k q : List Value) → (same_key k q ≡ true → k ≡ q) × (k ≡ q → same_key k q ≡ true)

-- ---- markers

-- where markers flush, contents are empty after one, and the next one at once flushes nothing
abbrev pub EmptiedLaw : Type 0
EmptiedLaw = (k : List Value) (h : List WindowEvent) → (content W.TumblingPunct k (Mark ∷ h) ≡ []) × (flushed_after W.TumblingPunct (Mark ∷ h) ≡ [])

-- where markers don't flush, one changes nothing and flushes nothing
abbrev pub PassingLaw : Type 0
PassingLaw = (rule : WindowRule) (k : List Value) (h : List WindowEvent) → flushes_at_markers rule ≡ false →
    (content rule k (Mark ∷ h) ≡ content rule k h) × (flushed_after rule h ≡ [])

-- what a marker flushes after a history has its keys ascending, each once: those whose content isn't empty, with that content
abbrev pub FlushedBehindLaw : Type 0
FlushedBehindLaw = (h : List WindowEvent) → IsTrue (is_sorted key_cmp (flushed_after W.TumblingPunct h))
    × ((k : List Value) → find key_cmp k (flushed_after W.TumblingPunct h)
    ≡ (if is_empty (content W.TumblingPunct k h) then None else Some (content W.TumblingPunct k h)))

-- ---- items

-- of the items of a port a tuple fires with what it fires under its key, a window marker with the contents that it flushes, in their
-- order, and a final marker or a fault with nothing
abbrev pub FiredLaw : Type 0
FiredLaw = (rule : WindowRule) (key : List Value → List Value) (earlier : List Item) →
    ((t : List Value) → fired_at rule key (I.Tuple t) earlier ≡ contents_of (tuple_fires rule (key t) t (window_events key earlier)))
    × (fired_at rule key I.Window earlier ≡ map (λ e. e.1) (flushed_after rule (window_events key earlier)))
    × (fired_at rule key I.Final earlier ≡ [])
    × ((f : Fault) → fired_at rule key (I.Bad f) earlier ≡ [])

-- ---- mapped tuples

-- each tuple mapped, under its key
abbrev pub mapped_event : (List Value → List Value) → WindowEvent → WindowEvent
mapped_event f Mark = Mark
mapped_event f (Insert k t) = Insert k (f t)

abbrev pub mapped : (List Value → List Value) → List WindowEvent → List WindowEvent
mapped f h = map (mapped_event f) h

-- the attribute by which a rule compares tuples is the same in what a tuple is mapped to
abbrev pub Keeps : WindowRule → (List Value → List Value) → List Value → Type 0
Keeps (W.TumblingDelta a limit) f t = integer_at a (f t) ≡ integer_at a t
Keeps (W.SlidingDelta a limit every) f t = integer_at a (f t) ≡ integer_at a t
Keeps (W.TumblingCount n) f t = ⊤
Keeps W.TumblingPunct f t = ⊤
Keeps (W.SlidingCount n every) f t = ⊤

abbrev pub AllKeep : WindowRule → (List Value → List Value) → List WindowEvent → Type 0
AllKeep rule f [] = ⊤
AllKeep rule f (Mark ∷ h) = AllKeep rule f h
AllKeep rule f (Insert k t ∷ h) = Keeps rule f t × AllKeep rule f h

abbrev pub map_firing : (List Value → List Value) → Firing → Firing
map_firing f Silent = Silent
map_firing f (Flushes ts) = Flushes (map f ts)
map_firing f (Triggers ts) = Triggers (map f ts)

-- what a window of mapped tuples holds and flushes is what it does of the tuples, mapped
abbrev pub MappedLaw : Type 0
MappedLaw = (rule : WindowRule) (f : List Value → List Value) (k : List Value) (h : List WindowEvent) → AllKeep rule f h →
    (content rule k (mapped f h) ≡ map f (content rule k h))
    × (flushed_after rule (mapped f h) ≡ map (λ e. (e.0, map f e.1)) (flushed_after rule h))

-- and so is what a mapped tuple or a marker fires after them
abbrev pub MappedFiringLaw : Type 0
MappedFiringLaw = (rule : WindowRule) (f : List Value → List Value) (h : List WindowEvent) →
    ((k t : List Value) → AllKeep rule f (Insert k t ∷ h) → tuple_fires rule k (f t) (mapped f h) ≡ map_firing f (tuple_fires rule k t h))
    × ((e : WindowEvent) → AllKeep rule f (e ∷ h) → fired_contents rule (mapped_event f e) (mapped f h) ≡ map (map f) (fired_contents rule e h))

-- values after those of a tuple leave an attribute as it is, where the tuple has the place
abbrev pub BehindLaw : Type 0
BehindLaw = (a : ℕ) (t more : List Value) → a < length t → integer_at a (t ++ more) ≡ integer_at a t

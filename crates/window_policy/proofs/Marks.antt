-- What a window marker flushes.
use Rattle.std.proofs.Common.{ℕ, zero, suc, ◌≡◌, Bool, true, false, cond, not, ◌&&◌, T, List, [], ◌∷◌, map, Option, Some, None, refl, sym, ap, subst, ◌∙◌}
use Rattle.std.specs.Ordering.{is_lt, eq_by_cmp}
use Rattle.std.specs.FinMap.{find, is_sorted}
use Rattle.std.specs.FinMap.Entries.{below_all}
use Rattle.spl_value.specs.declared.value.Value.{Value}
use Rattle.language_model.specs.declared.checked.WindowRule.{WindowRule}
use Rattle.language_model.specs.declared.checked.WindowRule.TheVariants as W
use Rattle.stream_model.specs.Stream.{is_empty}
use Rattle.spl_value.specs.KeyOrder.{key_cmp}
use Rattle.stream_model.specs.Windows.{WindowEvent, Mark, tuples_with, keys_of, has_come, since_mark, content, in_order, held, flushed_after}
use Rattle.stream_model.specs.parts.Windows.{relevant}
use Rattle.stream_model.proofs.parts.Windows.{last_of}
use Rattle.spl_value.proofs.KeyOrder.{is_each_key}
use Rattle.stream_model.proofs.Contents.{come_is}
use Rattle.window_policy.specs.declared.part.Part.{Part}
use Rattle.window_policy.specs.Parts.{At}
use Rattle.window_policy.specs.steps.Parts.{taken}
use Rattle.window_policy.proofs.Windows.{came_where}

-- ---- what is taken of the parts

abbrev held_in : Option Part → Option (List (List Value))
held_in None = None
held_in (Some p) = Some p.kept.items

find-taken : (q : List Value) (es : List (List Value × Part)) → find key_cmp q (map taken es) ≡ held_in (find key_cmp q es)
find-taken q [] = refl
find-taken q (e ∷ es) = ap (λ o. cond (eq_by_cmp key_cmp q e.0) (Some e.1.kept.items) o) (find-taken q es) ∙ by (eq_by_cmp key_cmp q e.0)
  where
    by : (b : Bool) → cond b (Some e.1.kept.items) (held_in (find key_cmp q es)) ≡ held_in (cond b (Some e.1) (find key_cmp q es))
    by true = refl
    by false = refl

below-taken : (k : List Value) (es : List (List Value × Part)) → below_all key_cmp k (map taken es) ≡ below_all key_cmp k es
below-taken k [] = refl
below-taken k (e ∷ es) = ap (λ b. is_lt (key_cmp k e.0) && b) (below-taken k es)

sorted-taken : (es : List (List Value × Part)) → is_sorted key_cmp (map taken es) ≡ is_sorted key_cmp es
sorted-taken [] = refl
sorted-taken (e ∷ es) = λ i. below-taken e.0 es i && sorted-taken es i

pub none_came : (q : List Value) (h : List WindowEvent) → tuples_with q h ≡ [] → has_come q h ≡ false
none_came q h none = come_is q h ∙ ap (λ (ts : List (List Value)). not (is_empty ts)) none

held_exactly : (q : List Value) (h : List WindowEvent) (o : Option Part) → At W.TumblingPunct o (tuples_with q h)
    → held_in o ≡ cond (has_come q h) (Some (in_order (tuples_with q h))) None
held_exactly q h None at = ap (λ b. cond b (Some (in_order (tuples_with q h))) None) (sym (none_came q h at))
held_exactly q h (Some p) at = ap Some at.0.items ∙ ap (λ b. cond b (Some (in_order (tuples_with q h))) None) (sym (came_where q h at.1))

flushes_parts : (h : List WindowEvent) (es : List (List Value × Part)) (f : List Value → Option Part) → T (is_sorted key_cmp es)
    → ((q : List Value) → find key_cmp q es ≡ f q) → ((q : List Value) → At W.TumblingPunct (f q) (tuples_with q (since_mark h)))
    → map taken es ≡ flushed_after W.TumblingPunct h
flushes_parts h es f up found at =
    is_each_key (λ k. content W.TumblingPunct k h) (keys_of (since_mark h)) (map taken es) (subst T (sym (sorted-taken es)) up)
    (λ q. find-taken q es ∙ ap held_in (found q) ∙ held_exactly q (since_mark h) (f q) (at q))

pub flushes_all : (rule : WindowRule) → rule ≡ W.TumblingPunct → (h : List WindowEvent) (es : List (List Value × Part)) (f : List Value → Option Part) → T (is_sorted key_cmp es)
    → ((q : List Value) → find key_cmp q es ≡ f q) → ((q : List Value) → At rule (f q) (tuples_with q (relevant rule h))) → map taken es ≡ flushed_after rule h
flushes_all rule is h es f up found =
    subst (λ r. ((q : List Value) → At r (f q) (tuples_with q (relevant r h))) → map taken es ≡ flushed_after r h) (sym is) (flushes_parts h es f up found)

-- nothing counts after a marker, where markers flush
pub nothing_counts : (rule : WindowRule) → rule ≡ W.TumblingPunct → (k : List Value) (h : List WindowEvent) → tuples_with k (relevant rule (Mark ∷ h)) ≡ []
nothing_counts rule is k h = ap (λ r. tuples_with k (relevant r (Mark ∷ h))) is

-- nothing is held of no tuples
pub held-nothing : (rule : WindowRule) → held rule [] ≡ []
held-nothing W.TumblingPunct = refl
held-nothing (W.TumblingCount n) = nothing_taken _
  where
    nothing_taken : (m : ℕ) → last_of {A = List Value} m [] ≡ []
    nothing_taken zero = refl
    nothing_taken (suc m) = refl
held-nothing (W.TumblingDelta a limit) = refl
held-nothing (W.SlidingCount zero every) = refl
held-nothing (W.SlidingCount (suc n) every) = refl
held-nothing (W.SlidingDelta a limit every) = refl

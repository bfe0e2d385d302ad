-- What is kept of a key in a map, and what a window marker flushes of it.
use Rattle.std.proofs.Common.{◌≡◌, ◌<◌, Bool, true, false, cond, T, List, [], length, map, Option, Some, None, refl, sym, ap, subst, ◌∙◌}
use Rattle.std.specs.FinMap.{find, is_sorted}
use Rattle.std.specs.List.{list_any}
use Rattle.std.specs.Option.{option_map}
use Rattle.spl_value.specs.declared.value.Value.{Value}
use Rattle.spl_value.specs.KeyOrder.{each_key, key_cmp, same_key}
use Rattle.spl_value.proofs.KeyOrder.{each_key-sorted, find-each_key, is_each_key}
use Rattle.language_model.specs.declared.checked.Collector.{Collector}
use Rattle.language_model.specs.declared.checked.WindowRule.{WindowRule}
use Rattle.language_model.specs.declared.checked.WindowRule.TheVariants as W
use Rattle.running_folds.specs.Tallies.{made_from}
use Rattle.stream_model.specs.Windows.{WindowEvent, content, flushed_after, has_come, in_order, keys_of, since_mark, tuples_with}
use Rattle.stream_model.specs.parts.Windows.{relevant}
use Rattle.tuple_groups.proofs.Entries.{find-mapped, sorted-mapped, with_value}
use Rattle.window_policy.specs.declared.sums.Sums.{Sums}
use Rattle.window_policy.specs.Running.{content_summed, summed}
use Rattle.window_policy.specs.Sums.{Holds, SumsAt}
use Rattle.window_policy.specs.steps.Sums.{taken_sums}
use Rattle.window_policy.proofs.Marks.{none_came}
use Rattle.window_policy.proofs.Summing.{tallied_answers}
use Rattle.window_policy.proofs.Windows.{came_where}

pub some_sums : (rule : WindowRule) (folds : List Collector) (o : Option Sums) (s : Sums) (ts : List (List Value)) → o ≡ Some s → SumsAt rule folds o ts → Holds rule folds s ts × (0 < length ts)
some_sums rule folds o s ts e at = subst (λ p. SumsAt rule folds p ts) e at

pub no_sums : (rule : WindowRule) (folds : List Collector) (o : Option Sums) (ts : List (List Value)) → o ≡ None → SumsAt rule folds o ts → ts ≡ []
no_sums rule folds o ts e at = subst (λ p. SumsAt rule folds p ts) e at

-- ---- what a window marker flushes

abbrev taken : Sums → List Value × List Value
taken s = (made_from s.tallies.items, s.last)

-- each of the keys, with what f has for it, mapped
mapped_keys : {X Y : Type 0} (g : X → Y) (f : List Value → X) (ks : List (List Value)) → map (with_value g) (each_key f ks) ≡ each_key (λ k. g (f k)) ks
mapped_keys {X = X} g f ks =
    is_each_key (λ k. g (f k)) ks (map (with_value g) (each_key f ks)) (subst T (sym (sorted-mapped g (each_key f ks))) (each_key-sorted f ks))
    (λ q. find-mapped g q (each_key f ks) ∙ ap (option_map g) (find-each_key f q ks) ∙ under (list_any (same_key q) ks) (f q))
  where
    under : (b : Bool) (x : X) → option_map g (cond b (Some x) None) ≡ cond b (Some (g x)) None
    under true x = refl
    under false x = refl

module _ (folds : List Collector) (h : List WindowEvent) where
  abbrev made : List Value → List Value × List Value
  made k = summed folds (content W.TumblingPunct k h)

  taken_exactly : (q : List Value) (o : Option Sums) → SumsAt W.TumblingPunct folds o (tuples_with q (since_mark h))
      → option_map taken o ≡ cond (has_come q (since_mark h)) (Some (made q)) None
  taken_exactly q None at = ap (λ b. cond b (Some (made q)) None) (sym (none_came q (since_mark h) at))
  taken_exactly q (Some s) at =
      (λ i. Some (tallied_answers folds s (in_order (tuples_with q (since_mark h))) at.0.0 i, at.0.1 i))
      ∙ ap (λ b. cond b (Some (made q)) None) (sym (came_where q (since_mark h) at.1))

  marks : (es : List (List Value × Sums)) (f : List Value → Option Sums) → T (is_sorted key_cmp es) → ((q : List Value) → find key_cmp q es ≡ f q)
      → ((q : List Value) → SumsAt W.TumblingPunct folds (f q) (tuples_with q (since_mark h)))
      → map taken_sums es ≡ map (content_summed folds) (flushed_after W.TumblingPunct h)
  marks es f up found at =
      is_each_key made (keys_of (since_mark h)) (map taken_sums es) (subst T (sym (sorted-mapped taken es)) up)
      (λ q. find-mapped taken q es ∙ ap (option_map taken) (found q) ∙ taken_exactly q (f q) (at q))
      ∙ sym (mapped_keys (summed folds) (λ k. content W.TumblingPunct k h) (keys_of (since_mark h)))

pub marks_all : (rule : WindowRule) → rule ≡ W.TumblingPunct → (folds : List Collector) (h : List WindowEvent) (es : List (List Value × Sums)) (f : List Value → Option Sums)
    → T (is_sorted key_cmp es) → ((q : List Value) → find key_cmp q es ≡ f q) → ((q : List Value) → SumsAt rule folds (f q) (tuples_with q (relevant rule h)))
    → map taken_sums es ≡ map (content_summed folds) (flushed_after rule h)
marks_all rule is folds h es f up found =
    subst (λ r. ((q : List Value) → SumsAt r folds (f q) (tuples_with q (relevant r h))) → map taken_sums es ≡ map (content_summed folds) (flushed_after r h)) (sym is)
    (marks folds h es f up found)

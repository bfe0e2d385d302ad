-- One more tuple of a key.
use Rattle.std.proofs.Common.{ℕ, ℤ, suc, ◌+◌, ◌-◌, ◌≤◌, ◌<◌, ◌≡◌, ◌==◌, min, true, cond, not, List, [], ◌∷◌, ◌++◌, map, drop, length, filter, Option, refl, sym, ap, subst, ◌∙◌, arith}
use Rattle.spl_value.specs.declared.value.Value.{Value}
use Rattle.language_model.specs.declared.checked.WindowRule.{WindowRule}
use Rattle.language_model.specs.declared.checked.WindowRule.TheVariants as W
use Rattle.stream_model.specs.Windows.{Insert, tuples_with, exceeds, held, trigger_if, fires_after}
use Rattle.stream_model.proofs.parts.Windows.{last_of}
use Rattle.stream_model.specs.parts.Windows.{flush_if}
use Rattle.stream_model.specs.WindowLaws.{exceeds_first}
use Rattle.stream_model.proofs.Contents.{sliding_count_law, tumbling_count_insert, tumbling_delta_insert, sliding_count_insert, sliding_delta_insert}
use Rattle.window_policy.specs.Answers.{firing_of}
use Rattle.window_policy.specs.declared.fired.Fired.{Fired}
use Rattle.window_policy.specs.declared.part.Part.{Part}
use Rattle.window_policy.specs.Deltas.{Rises}
use Rattle.window_policy.specs.Parts.{CountsTo, Keeps}

-- the tuples of a key alone, as a history
own_tuples : (ts : List (List Value)) → tuples_with [] (map (Insert []) ts) ≡ ts
own_tuples [] = refl
own_tuples (t ∷ ts) = ap (λ us. t ∷ us) (own_tuples ts)

module _ (t : List Value) (ts : List (List Value)) where
  pub count_step : (n : ℕ) → 0 < n
      → (held (W.TumblingCount n) (t ∷ ts)
      ≡ cond (length (held (W.TumblingCount n) ts ++ t ∷ []) == n) [] (held (W.TumblingCount n) ts ++ t ∷ []))
      × (fires_after (W.TumblingCount n) t ts
      ≡ flush_if (length (held (W.TumblingCount n) ts ++ t ∷ []) == n) (held (W.TumblingCount n) ts ++ t ∷ []))
  count_step n some =
      subst (λ (us : List (List Value)). (held (W.TumblingCount n) (t ∷ us)
      ≡ cond (length (held (W.TumblingCount n) us ++ t ∷ []) == n) [] (held (W.TumblingCount n) us ++ t ∷ []))
      × (fires_after (W.TumblingCount n) t us
      ≡ flush_if (length (held (W.TumblingCount n) us ++ t ∷ []) == n) (held (W.TumblingCount n) us ++ t ∷ [])))
      (own_tuples ts) (tumbling_count_insert n [] t (map (Insert []) ts) some)

  pub tumbling_step : (a : ℕ) (limit : ℤ)
      → (held (W.TumblingDelta a limit) (t ∷ ts)
      ≡ cond (exceeds_first a limit t (held (W.TumblingDelta a limit) ts)) (t ∷ []) (held (W.TumblingDelta a limit) ts ++ t ∷ []))
      × (fires_after (W.TumblingDelta a limit) t ts
      ≡ flush_if (exceeds_first a limit t (held (W.TumblingDelta a limit) ts)) (held (W.TumblingDelta a limit) ts))
  tumbling_step a limit =
      subst (λ (us : List (List Value)). (held (W.TumblingDelta a limit) (t ∷ us)
      ≡ cond (exceeds_first a limit t (held (W.TumblingDelta a limit) us)) (t ∷ []) (held (W.TumblingDelta a limit) us ++ t ∷ []))
      × (fires_after (W.TumblingDelta a limit) t us
      ≡ flush_if (exceeds_first a limit t (held (W.TumblingDelta a limit) us)) (held (W.TumblingDelta a limit) us)))
      (own_tuples ts) (tumbling_delta_insert a limit [] t (map (Insert []) ts))

  pub shift_step : (n : ℕ) (every : Option ℕ)
      → held (W.SlidingCount n every) (t ∷ ts)
      ≡ drop (length (held (W.SlidingCount n every) ts) + 1 - n) (held (W.SlidingCount n every) ts ++ t ∷ [])
  shift_step n every =
      subst (λ (us : List (List Value)). held (W.SlidingCount n every) (t ∷ us)
      ≡ drop (length (held (W.SlidingCount n every) us) + 1 - n) (held (W.SlidingCount n every) us ++ t ∷ []))
      (own_tuples ts) (sliding_count_insert n every [] t (map (Insert []) ts)).0

  pub shift_length : (n : ℕ) (every : Option ℕ) → length (last_of n ts) ≡ min n (length ts)
  shift_length n every =
      subst (λ (us : List (List Value)). length (last_of n us) ≡ min n (length us)) (own_tuples ts) (sliding_count_law n every [] (map (Insert []) ts)).1

  slide_step : (a : ℕ) (limit : ℤ) (every : Option ℕ)
      → held (W.SlidingDelta a limit every) (t ∷ ts)
      ≡ filter (λ u. not (exceeds a limit t u)) (held (W.SlidingDelta a limit every) ts) ++ t ∷ []
  slide_step a limit every =
      subst (λ (us : List (List Value)). held (W.SlidingDelta a limit every) (t ∷ us)
      ≡ filter (λ u. not (exceeds a limit t u)) (held (W.SlidingDelta a limit every) us) ++ t ∷ [])
      (own_tuples ts) (sliding_delta_insert a limit every [] t (map (Insert []) ts)).0

  -- the effect of an added tuple
  abbrev pub Added : WindowRule → Part → Part → Fired → Type 0
  Added rule p q f = Keeps rule p ts → Keeps rule q (t ∷ ts) × (firing_of f (held rule (t ∷ ts)) ≡ fires_after rule t ts)

  pub fills : (n : ℕ) (rule : WindowRule) → rule ≡ W.TumblingCount n → (p q : Part) (f : Fired)
      → q.kept.items ≡ cond (length (p.kept.items ++ t ∷ []) == n) [] (p.kept.items ++ t ∷ [])
      → ((stays : List (List Value)) → firing_of f stays ≡ flush_if (length (p.kept.items ++ t ∷ []) == n) (p.kept.items ++ t ∷ []))
      → Added rule p q f
  fills n rule is p q f items fired =
      subst (λ r. Added r p q f) (sym is)
      (λ k.
      let step = count_step n k.count in (
        record {
          items = items ∙ ap (λ xs. cond (length (xs ++ t ∷ []) == n) [] (xs ++ t ∷ [])) k.items ∙ sym step.0;
          count = k.count;
          rises = tt;
        },
        fired _ ∙ ap (λ xs. flush_if (length (xs ++ t ∷ []) == n) (xs ++ t ∷ [])) k.items ∙ sym step.1,
      ))

  pub tumbles : (a : ℕ) (limit : ℤ) (rule : WindowRule) → rule ≡ W.TumblingDelta a limit → (p q : Part) (f : Fired)
      → q.kept.items ≡ cond (exceeds_first a limit t p.kept.items) (t ∷ []) (p.kept.items ++ t ∷ [])
      → ((stays : List (List Value)) → firing_of f stays ≡ flush_if (exceeds_first a limit t p.kept.items) p.kept.items)
      → Added rule p q f
  tumbles a limit rule is p q f items fired =
      subst (λ r. Added r p q f) (sym is)
      (λ k.
      let step = tumbling_step a limit in (
        record {
          items = items ∙ ap (λ xs. cond (exceeds_first a limit t xs) (t ∷ []) (xs ++ t ∷ [])) k.items ∙ sym step.0;
          count = tt;
          rises = tt;
        },
        fired _ ∙ ap (λ xs. flush_if (exceeds_first a limit t xs) xs) k.items ∙ sym step.1,
      ))

  pub shifts : (n : ℕ) (every : Option ℕ) (rule : WindowRule) → rule ≡ W.SlidingCount n every → (p q : Part) (f : Fired)
      → (length p.kept.items ≤ n → q.kept.items ≡ drop (length p.kept.items + 1 - n) (p.kept.items ++ t ∷ []))
      → ((m : ℕ) (stays : List (List Value)) → CountsTo every p.since m → CountsTo every q.since (suc m) × (firing_of f stays ≡ trigger_if every (suc m) stays))
      → Added rule p q f
  shifts n every rule is p q f items fired =
      subst (λ r. Added r p q f) (sym is)
      (λ k.
      let long : length (last_of n ts) ≡ min n (length ts) = shift_length n every in
      let same : length p.kept.items ≡ length (last_of n ts) = ap (λ xs. length xs) k.items in
      let few : length p.kept.items ≤ n = omega (arith, long, same) in
      let turn = fired (length ts) (held (W.SlidingCount n every) (t ∷ ts)) k.count in (
        record {
          items = items few ∙ ap (λ xs. drop (length xs + 1 - n) (xs ++ t ∷ [])) k.items ∙ sym (shift_step n every);
          count = turn.0;
          rises = tt;
        },
        turn.1,
      ))

  pub slides : (a : ℕ) (limit : ℤ) (every : Option ℕ) (rule : WindowRule) → rule ≡ W.SlidingDelta a limit every → (p q : Part) (f : Fired)
      → ((p.rises ≡ true → Rises a p.kept.items) → q.kept.items ≡ filter (λ u. not (exceeds a limit t u)) p.kept.items ++ t ∷ [])
      → ((p.rises ≡ true → Rises a p.kept.items) → q.rises ≡ true → Rises a q.kept.items)
      → ((m : ℕ) (stays : List (List Value)) → CountsTo every p.since m → CountsTo every q.since (suc m) × (firing_of f stays ≡ trigger_if every (suc m) stays))
      → Added rule p q f
  slides a limit every rule is p q f items rises fired =
      subst (λ r. Added r p q f) (sym is)
      (λ k.
      let turn = fired (length ts) (held (W.SlidingDelta a limit every) (t ∷ ts)) k.count in (
        record {
          items = items k.rises ∙ ap (λ xs. filter (λ u. not (exceeds a limit t u)) xs ++ t ∷ []) k.items ∙ sym (slide_step a limit every);
          count = turn.0;
          rises = rises k.rises;
        },
        turn.1,
      ))

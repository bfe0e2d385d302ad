-- What is kept before anything came.
use Rattle.std.proofs.Common.{◌≡◌, ◌<◌, ℕ, true, false, List, [], ◌∷◌, length, refl, subst, arith}
use Rattle.spl_value.specs.declared.value.Value.{Value}
use Rattle.spl_value.proofs.Lists.{get_within}
use Rattle.language_model.specs.declared.checked.WindowRule.{WindowRule}
use Rattle.language_model.specs.declared.checked.WindowRule.TheVariants as W
use Rattle.language_model.specs.Keeping.{AggregateWindow}
use Rattle.language_model.specs.Keeping as K
use Rattle.language_model.specs.StreamTypes.{Attributes}
use Rattle.stream_model.specs.Stream.{is_empty}
use Rattle.window_policy.specs.declared.running.Running.{Running}
use Rattle.window_policy.specs.Answers.{IsAllowed}
use Rattle.window_policy.specs.Running.{HasAttribute, IsSummable}
use Rattle.window_policy.specs.RunningStanding.{Runs}
use Rattle.aggregate_op.specs.declared.clauses.Clauses.{Clauses}
use Rattle.aggregate_op.specs.Kept.{SumsStand, WindowFits, are_summed, folds_of}

-- a window of an Aggregate is one that there may be
pub is_allowed : (schema : Attributes) (rule : WindowRule) → AggregateWindow schema rule → IsAllowed rule
is_allowed schema _ (K.tumbling_count n is) = is.0
is_allowed schema _ (K.tumbling_delta place limit is) = tt
is_allowed schema _ K.tumbling_punct = tt
is_allowed schema _ (K.sliding_count n every is often) = λ m e. let same : every ≡ m = cc in subst (λ k. 0 < k) same often.0
is_allowed schema _ (K.sliding_delta place limit every is often) = λ m e. let same : every ≡ m = cc in subst (λ k. 0 < k) same often.0

is_none : (group : List ℕ) → is_empty group ≡ true → group ≡ []
is_none [] e = refl
is_none (p ∷ group) e = absurd (let no : false ≡ true = e in cc)

-- and one of which folds are kept
pub is_summable : (schema : Attributes) (rule : WindowRule) (group : List ℕ) → AggregateWindow schema rule → are_summed rule group ≡ true → IsSummable rule
is_summable schema _ group (K.tumbling_count n is) e = is.0
is_summable schema _ group (K.tumbling_delta place limit is) e = tt
is_summable schema _ group K.tumbling_punct e = tt
is_summable schema _ group (K.sliding_count n every is often) e = λ m o. let same : every ≡ m = cc in (subst (λ k. 0 < k) same often.0, is.0)
is_summable schema _ group (K.sliding_delta place limit every is often) e = absurd (let no : false ≡ true = e in cc)

together : (rule : WindowRule) (group : List ℕ) → are_summed rule group ≡ true → group ≡ []
together (W.TumblingCount n) group e = is_none group e
together (W.TumblingDelta a limit) group e = is_none group e
together W.TumblingPunct group e = is_none group e
together (W.SlidingCount n every) group e = is_none group e
together (W.SlidingDelta a limit every) group e = absurd (let no : false ≡ true = e in cc)

-- tuples of the input have the attribute by which the rule compares them
reaches : (schema : Attributes) (rule : WindowRule) → AggregateWindow schema rule → (t : List Value) → length t ≡ length schema → HasAttribute rule t
reaches schema _ (K.tumbling_count n is) t long = tt
reaches schema _ (K.tumbling_delta place limit is) t long = let below = get_within schema place is.attribute is.there in omega (arith, below, long)
reaches schema _ K.tumbling_punct t long = tt
reaches schema _ (K.sliding_count n every is often) t long = tt
reaches schema _ (K.sliding_delta place limit every is often) t long = let below = get_within schema place is.attribute is.there in omega (arith, below, long)

pub sums_begin : (clauses : Clauses) → WindowFits clauses → are_summed clauses.window.now.rule clauses.group.now ≡ true → (r : Running)
    → Runs clauses.window.now.rule (folds_of clauses.output.now) r [] → SumsStand clauses clauses.window.now.rule r []
sums_begin clauses fits e r runs = record {
  runs = runs;
  long = tt;
  reaches = λ t long. reaches fits.0 clauses.window.now.rule fits.1 t (let wide = fits.2 in omega (arith, wide, long));
  together = together clauses.window.now.rule clauses.group.now e;
}

-- What window markers flush.
use Rattle.std.proofs.Common.{◌≡◌, Bool, true, false, cond, not, true≢false, List, [], ◌∷◌, ◌++◌, Some, None, refl, sym, ap, ◌∙◌}
use Rattle.std.specs.FinMap.{is_sorted}
use Rattle.language_model.specs.declared.checked.WindowRule.TheVariants as W
use Rattle.stream_model.specs.Stream.{is_empty}
use Rattle.spl_value.specs.KeyOrder.{key_cmp}
use Rattle.stream_model.specs.Windows.{tuples_with, keys_of, since_mark, in_order, content, flushed_after}
use Rattle.stream_model.specs.WindowLaws.{EmptiedLaw, PassingLaw, FlushedBehindLaw, FiredLaw}
use Rattle.spl_value.proofs.KeyOrder.{each_key-sorted, find-each_key, true_from}
use Rattle.stream_model.proofs.Contents.{come_is}

pub emptied_law : EmptiedLaw
emptied_law k h = (refl, refl)

pub passing_law : PassingLaw
passing_law W.TumblingPunct k h e = absurd (true≢false e)
passing_law (W.TumblingCount n) k h e = (refl, refl)
passing_law (W.TumblingDelta a limit) k h e = (refl, refl)
passing_law (W.SlidingCount n every) k h e = (refl, refl)
passing_law (W.SlidingDelta a limit every) k h e = (refl, refl)

pub pushed : {A : Type 0} (xs : List A) (t : A) → is_empty (xs ++ t ∷ []) ≡ false
pushed [] t = refl
pushed (x ∷ xs) t = refl

none_in_order : {A : Type 0} (ts : List A) → is_empty (in_order ts) ≡ is_empty ts
none_in_order [] = refl
none_in_order (t ∷ ts) = pushed (in_order ts) t

turned : {A : Type 0} (b : Bool) (x y : A) → cond (not b) x y ≡ cond b y x
turned true x y = refl
turned false x y = refl

pub flushed_behind_law : FlushedBehindLaw
flushed_behind_law h = (
  true_from (is_sorted key_cmp (flushed_after W.TumblingPunct h)) (each_key-sorted (λ k. content W.TumblingPunct k h) (keys_of (since_mark h))),
  λ k.
      let held = content W.TumblingPunct k h in
      find-each_key (λ q. content W.TumblingPunct q h) k (keys_of (since_mark h))
      ∙ ap (λ b. cond b (Some held) None) (come_is k (since_mark h) ∙ ap not (sym (none_in_order (tuples_with k (since_mark h)))))
      ∙ turned (is_empty held) (Some held) None,
)

pub fired_law : FiredLaw
fired_law rule key earlier = (λ t. refl, refl, refl, λ f. refl)

-- What is kept of each key after an insertion, and which keys are known.
use Rattle.std.proofs.Common.{◌≡◌, ◌<◌, Bool, true, false, cond, not, ◌||◌, List, [], ◌∷◌, length, Option, Some, None, is_some, refl, sym, ap, subst, ◌∙◌, true≢false, arith}
use Rattle.std.specs.HashMap.{HashMap, get}
use Rattle.spl_value.specs.declared.value.Value.{Value}
use Rattle.language_model.specs.declared.checked.WindowRule.{WindowRule}
use Rattle.language_model.specs.declared.checked.WindowRule.TheVariants as W
use Rattle.stream_model.specs.Stream.{is_empty}
use Rattle.spl_value.specs.KeyOrder.{same_key}
use Rattle.stream_model.specs.Windows.{WindowEvent, Insert, Mark, tuples_with, since_mark, has_come, held, content, fires_after}
use Rattle.stream_model.specs.parts.Windows.{relevant, tuple_fires}
use Rattle.spl_value.proofs.KeyOrder.{same_key-equal, same_key-itself}
use Rattle.stream_model.proofs.Contents.{come_is}
use Rattle.key_maps.specs.MapKeys.{equal_key}
use Rattle.window_policy.specs.Parts.{At, Keeps, noted_or}
use Rattle.window_policy.specs.declared.part.Part.{Part}
use Rattle.key_maps.proofs.MapKeys.{key_tie, key_turned}

-- ---- what counts

-- a tuple counts
pub counts_too : (rule : WindowRule) (k t : List Value) (h : List WindowEvent) → Insert k t ∷ relevant rule h ≡ relevant rule (Insert k t ∷ h)
counts_too W.TumblingPunct k t h = refl
counts_too (W.TumblingCount n) k t h = refl
counts_too (W.TumblingDelta a limit) k t h = refl
counts_too (W.SlidingCount n every) k t h = refl
counts_too (W.SlidingDelta a limit every) k t h = refl

-- where something counts, something came
pub came_where : (k : List Value) (h : List WindowEvent) → 0 < length (tuples_with k h) → has_come k h ≡ true
came_where k h some = come_is k h ∙ filled (tuples_with k h) some
  where
    filled : {A : Type 0} (ts : List A) → 0 < length ts → not (is_empty ts) ≡ true
    filled [] e = absurd (omega arith)
    filled (t ∷ ts) e = refl

came_since : (k : List Value) (h : List WindowEvent) → has_come k (since_mark h) ≡ true → has_come k h ≡ true
came_since k [] e = absurd (true≢false (sym e))
came_since k (Mark ∷ h) e = absurd (true≢false (sym e))
came_since k (Insert q t ∷ h) e = go (same_key k q) (came_since k h) e
  where
    go : (b : Bool) → (has_come k (since_mark h) ≡ true → has_come k h ≡ true) → (b || has_come k (since_mark h)) ≡ true → (b || has_come k h) ≡ true
    go true before e = refl
    go false before e = before e

pub came_where_relevant : (rule : WindowRule) (k : List Value) (h : List WindowEvent) → 0 < length (tuples_with k (relevant rule h)) → has_come k h ≡ true
came_where_relevant W.TumblingPunct k h e = came_since k h (came_where k (since_mark h) e)
came_where_relevant (W.TumblingCount n) k h e = came_where k h e
came_where_relevant (W.TumblingDelta a limit) k h e = came_where k h e
came_where_relevant (W.SlidingCount n every) k h e = came_where k h e
came_where_relevant (W.SlidingDelta a limit every) k h e = came_where k h e

-- ---- an insertion

module _ {P : Type 0} (rule : WindowRule) (KeptAt : Option P → List (List Value) → Type 0) where
  at_key : (b : Bool) (o m : Option P) (t : List Value) (ts : List (List Value)) → (b ≡ true → KeptAt m (t ∷ ts)) → KeptAt o ts
      → KeptAt (cond b m o) (cond b (t ∷ ts) ts)
  at_key true o m t ts new old = new refl
  at_key false o m t ts new old = old

  -- what is kept of each key is right after an insertion that changes what is kept of one
  pub inserted : {S : Type 0} (m n : HashMap (List Value) P S) (key t : List Value) (part : P) (h : List WindowEvent)
      → ((q : List Value) → get equal_key n q ≡ cond (equal_key key q) (Some part) (get equal_key m q))
      → ((k : List Value) → KeptAt (get equal_key m k) (tuples_with k (relevant rule h))) → KeptAt (Some part) (t ∷ tuples_with key (relevant rule h))
      → (k : List Value) → KeptAt (get equal_key n k) (tuples_with k (relevant rule (Insert key t ∷ h)))
  inserted m n key t part h updates stood keeps k =
      subst (λ g. KeptAt (get equal_key n k) (tuples_with k g)) (counts_too rule key t h)
      (subst (λ o. KeptAt o (tuples_with k (Insert key t ∷ relevant rule h)))
      (sym (updates k ∙ ap (λ b. cond b (Some part) (get equal_key m k)) (key_turned key k)))
      (at_key (same_key k key) (get equal_key m k) (Some part) t (tuples_with k (relevant rule h))
      (λ e. subst (λ q. KeptAt (Some part) (t ∷ tuples_with q (relevant rule h))) (sym (same_key-equal k key e)) keeps)
      (stood k)))

-- the tuple is the newest one of its key
pub newest : (rule : WindowRule) (key t : List Value) (h : List WindowEvent) → held rule (t ∷ tuples_with key (relevant rule h)) ≡ content rule key (Insert key t ∷ h)
newest rule key t h =
    ap (λ b. held rule (cond b (t ∷ tuples_with key (relevant rule h)) (tuples_with key (relevant rule h)))) (sym (same_key-itself key))
    ∙ ap (λ g. held rule (tuples_with key g)) (counts_too rule key t h)

-- what it fires by what counts
pub fires_by : (rule : WindowRule) (key t : List Value) (h : List WindowEvent) → fires_after rule t (tuples_with key (relevant rule h)) ≡ tuple_fires rule key t h
fires_by W.TumblingPunct key t h = refl
fires_by (W.TumblingCount n) key t h = refl
fires_by (W.TumblingDelta a limit) key t h = refl
fires_by (W.SlidingCount n every) key t h = refl
fires_by (W.SlidingDelta a limit every) key t h = refl

pub kept_at : (rule : WindowRule) (o : Option Part) (part : Part) (ts : List (List Value)) → o ≡ Some part → At rule o ts → Keeps rule part ts × (0 < length ts)
kept_at rule o part ts e at = subst (λ o. At rule o ts) e at

pub none_at : (rule : WindowRule) (o : Option Part) (ts : List (List Value)) → o ≡ None → At rule o ts → ts ≡ []
none_at rule o ts e at = subst (λ o. At rule o ts) e at

-- ---- which keys are known

known_case : (p b s o r : Bool) → (b ≡ true → r ≡ true) → noted_or p s o ≡ r → noted_or p s (cond b true o) ≡ (b || r)
known_case true true s o r was e = e ∙ was refl
known_case true false s o r was e = e
known_case false true s o r was e = refl
known_case false false s o r was e = e

some_case : {A : Type 0} (b : Bool) (x : A) (o : Option A) → is_some (cond b (Some x) o) ≡ cond b true (is_some o)
some_case true x o = refl
some_case false x o = refl

pub known_stays : (p : Bool) (s : List Value → Bool) (f g : List Value → Option Part) (part : Part) (key t : List Value) (h : List WindowEvent) → has_come key h ≡ true
    → ((q : List Value) → g q ≡ cond (equal_key key q) (Some part) (f q)) → ((k : List Value) → noted_or p (s k) (is_some (f k)) ≡ has_come k h)
    → (k : List Value) → noted_or p (s k) (is_some (g k)) ≡ has_come k (Insert key t ∷ h)
known_stays p s f g part key t h was updates old k =
    ap (noted_or p (s k)) (ap is_some (updates k) ∙ some_case (equal_key key k) part (f k) ∙ ap (λ b. cond b true (is_some (f k))) (key_turned key k))
    ∙ known_case p (same_key k key) (s k) (is_some (f k)) (has_come k h) (λ e. ap (λ q. has_come q h) (same_key-equal k key e) ∙ was) (old k)

more_case : (p b s o r : Bool) → noted_or p s o ≡ r → noted_or p (cond p (cond b true s) s) (cond b true o) ≡ (b || r)
more_case true true s o r e = refl
more_case true false s o r e = e
more_case false true s o r e = refl
more_case false false s o r e = e

pub known_more : (p : Bool) (s n : List Value → Bool) (f g : List Value → Option Part) (part : Part) (key t : List Value) (h : List WindowEvent)
    → ((k : List Value) → n k ≡ cond p (cond (equal_key key k) true (s k)) (s k))
    → ((q : List Value) → g q ≡ cond (equal_key key q) (Some part) (f q)) → ((k : List Value) → noted_or p (s k) (is_some (f k)) ≡ has_come k h)
    → (k : List Value) → noted_or p (n k) (is_some (g k)) ≡ has_come k (Insert key t ∷ h)
known_more p s n f g part key t h notes updates old k =
    (λ i. noted_or p (notes k i) ((ap is_some (updates k) ∙ some_case (equal_key key k) part (f k)) i))
    ∙ ap (λ b. noted_or p (cond p (cond b true (s k)) (s k)) (cond b true (is_some (f k)))) (key_turned key k)
    ∙ more_case p (same_key k key) (s k) (is_some (f k)) (has_come k h) (old k)

-- a key that is noted already
noted_case : (p b s : Bool) → (b ≡ true → s ≡ true) → s ≡ cond p (cond b true s) s
noted_case true true s was = was refl
noted_case true false s was = refl
noted_case false b s was = refl

pub noted_before : (p : Bool) (s : List Value → Bool) (key : List Value) → s key ≡ true → (k : List Value) → s k ≡ cond p (cond (equal_key key k) true (s k)) (s k)
noted_before p s key was k =
    noted_case p (equal_key key k) (s k) (λ e. ap s (sym (same_key-equal key k (sym (key_tie key k) ∙ e))) ∙ was)

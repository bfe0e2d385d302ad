-- Windows of mapped tuples.
use Rattle.std.proofs.Common.{ℕ, zero, suc, ℤ, ◌-ℤ◌, ◌<◌, ◌%◌, ◌==◌, Bool, true, false, cond, not, ◌&&◌, ◌||◌, List, [], ◌∷◌, ◌++◌, ◌≡◌, map, take, length, slice_get, int_lt, Option, Some, None, refl, sym, ap, ◌∙◌, arith}
use Rattle.std.specs.Prelude.{⊤, option_map}
use Rattle.std.specs.declared.cmp.Ordering.{Ordering}
use Rattle.std.specs.declared.cmp.Ordering.TheVariants.{Less, Equal, Greater}
use Rattle.std.specs.FinMap.{put}
use Rattle.std.specs.FinMap.Entries.{by_order}
use Rattle.std.specs.List.{list_any, AllByRecursion}
use Rattle.spl_value.specs.declared.value.Value.{Value}
use Rattle.language_model.specs.declared.checked.WindowRule.{WindowRule}
use Rattle.language_model.specs.declared.checked.WindowRule.TheVariants as W
use Rattle.stream_model.specs.Stream.{is_empty}
use Rattle.spl_value.specs.KeyOrder.{key_cmp, same_key, each_key}
use Rattle.stream_model.specs.Windows.{WindowEvent, Firing, contents_of, Insert, Mark, tuples_with, keys_of, since_mark, in_order, is_start, last_start, since_start, near, integer_at, exceeds, held, content, Silent, Flushes, Triggers, trigger_if, fires_after, flushed_after, fired_contents}
use Rattle.stream_model.proofs.parts.Windows.{last_of}
use Rattle.stream_model.specs.parts.Windows.{integer_in, relevant, flush_if, tuple_fires}
use Rattle.stream_model.specs.WindowLaws.{mapped, mapped_event, Keeps, AllKeep, map_firing, MappedLaw, MappedFiringLaw, BehindLaw}
use Rattle.stream_model.proofs.ContentMembers.{all_in_order}
use Rattle.spl_value.proofs.Lists.{map_length}

-- ---- lists

map_push : {X Y : Type 0} (f : X → Y) (xs : List X) (y : X) → map f (xs ++ y ∷ []) ≡ map f xs ++ f y ∷ []
map_push f [] y = refl
map_push f (x ∷ xs) y = ap (λ zs. f x ∷ zs) (map_push f xs y)

map_take : {X Y : Type 0} (f : X → Y) (n : ℕ) (xs : List X) → take n (map f xs) ≡ map f (take n xs)
map_take f zero xs = refl
map_take f (suc n) [] = refl
map_take f (suc n) (x ∷ xs) = ap (λ zs. f x ∷ zs) (map_take f n xs)

map_in_order : {X Y : Type 0} (f : X → Y) (xs : List X) → in_order (map f xs) ≡ map f (in_order xs)
map_in_order f [] = refl
map_in_order f (x ∷ xs) = ap (λ zs. zs ++ f x ∷ []) (map_in_order f xs) ∙ sym (map_push f (in_order xs) x)

map_last : {X Y : Type 0} (f : X → Y) (n : ℕ) (xs : List X) → last_of n (map f xs) ≡ map f (last_of n xs)
map_last f n xs = ap (λ zs. in_order zs) (map_take f n xs) ∙ map_in_order f (take n xs)

map_none : {X Y : Type 0} (f : X → Y) (xs : List X) → is_empty (map f xs) ≡ is_empty xs
map_none f [] = refl
map_none f (x ∷ xs) = refl

-- ---- deltas

module _ (a : ℕ) (limit : ℤ) (f : List Value → List Value) where
  abbrev Kept : List Value → Type 0
  Kept t = integer_at a (f t) ≡ integer_at a t

  abbrev far : List Value → List Value → Bool
  far = exceeds a limit

  any_far : (ts : List (List Value)) (t : List Value) → AllByRecursion Kept ts → Kept t → list_any (λ u. far u (f t)) (map f ts) ≡ list_any (λ u. far u t) ts
  any_far [] t all p = refl
  any_far (u ∷ ts) t all p = λ i. int_lt limit (all.0 i -ℤ p i) || any_far ts t all.1 p i

  map_near_if : (b : Bool) (t : List Value) (ts m : List (List Value)) → m ≡ map f ts → cond b m (f t ∷ m) ≡ map f (cond b ts (t ∷ ts))
  map_near_if true t ts m e = e
  map_near_if false t ts m e = ap (λ zs. f t ∷ zs) e

  map_near : (ts : List (List Value)) → AllByRecursion Kept ts → near far (map f ts) ≡ map f (near far ts)
  map_near [] all = refl
  map_near (t ∷ ts) all =
      ap (λ b. cond b (near far (map f ts)) (f t ∷ near far (map f ts))) (any_far ts t all.1 all.0)
      ∙ map_near_if (list_any (λ u. far u t) ts) t (near far ts) (near far (map f ts)) (map_near ts all.1)

  abbrev IsKept : Option (List Value) → Type 0
  IsKept None = ⊤
  IsKept (Some t) = Kept t

  -- starts of mapped tuples
  record Starts (ts : List (List Value)) : Type 0 where
    last : last_start far (map f ts) ≡ option_map f (last_start far ts)
    kept : IsKept (last_start far ts)
    since : since_start far (map f ts) ≡ map f (since_start far ts)

  map_start : (t : List Value) (o : Option (List Value)) → Kept t → IsKept o → is_start far (f t) (option_map f o) ≡ is_start far t o
  map_start t None p q = refl
  map_start t (Some s) p q = λ i. int_lt limit (p i -ℤ q i)

  map_last_if : (b : Bool) (t : List Value) (o : Option (List Value)) → cond b (Some (f t)) (option_map f o) ≡ option_map f (cond b (Some t) o)
  map_last_if true t o = refl
  map_last_if false t o = refl

  kept_if : (b : Bool) (t : List Value) (o : Option (List Value)) → Kept t → IsKept o → IsKept (cond b (Some t) o)
  kept_if true t o p q = p
  kept_if false t o p q = q

  map_since_if : (b : Bool) (t : List Value) (xs : List (List Value)) → cond b (f t ∷ []) (map f xs ++ f t ∷ []) ≡ map f (cond b (t ∷ []) (xs ++ t ∷ []))
  map_since_if true t xs = refl
  map_since_if false t xs = sym (map_push f xs t)

  starts_more : (t : List Value) (ts : List (List Value)) → Kept t → Starts ts → is_start far (f t) (last_start far (map f ts)) ≡ is_start far t (last_start far ts)
  starts_more t ts p s = ap (is_start far (f t)) s.last ∙ map_start t (last_start far ts) p s.kept

  starts_with : (t : List Value) (ts : List (List Value)) → Kept t → Starts ts → Starts (t ∷ ts)
  starts_with t ts p s = record {
    last = (λ i. cond (starts_more t ts p s i) (Some (f t)) (s.last i)) ∙ map_last_if (is_start far t (last_start far ts)) t (last_start far ts);
    kept = kept_if (is_start far t (last_start far ts)) t (last_start far ts) p s.kept;
    since = (λ i. cond (starts_more t ts p s i) (f t ∷ []) (s.since i ++ f t ∷ [])) ∙ map_since_if (is_start far t (last_start far ts)) t (since_start far ts);
  }

  starts : (ts : List (List Value)) → AllByRecursion Kept ts → Starts ts
  starts [] all = record { last = refl; kept = tt; since = refl }
  starts (t ∷ ts) all = starts_with t ts all.0 (starts ts all.1)

  map_since : (ts : List (List Value)) → AllByRecursion Kept ts → since_start far (map f ts) ≡ map f (since_start far ts)
  map_since ts all = (starts ts all).since

  map_is_start : (t : List Value) (ts : List (List Value)) → Kept t → AllByRecursion Kept ts
      → is_start far (f t) (last_start far (map f ts)) ≡ is_start far t (last_start far ts)
  map_is_start t ts p all = starts_more t ts p (starts ts all)

-- ---- contents

map_held : (rule : WindowRule) (f : List Value → List Value) (ts : List (List Value)) → AllByRecursion (Keeps rule f) ts → held rule (map f ts) ≡ map f (held rule ts)
map_held (W.TumblingCount n) f ts all = ap (λ m. last_of (m % n) (map f ts)) (map_length f ts) ∙ map_last f (length ts % n) ts
map_held (W.TumblingDelta a limit) f ts all = map_since a limit f ts all
map_held W.TumblingPunct f ts all = map_in_order f ts
map_held (W.SlidingCount n every) f ts all = map_last f n ts
map_held (W.SlidingDelta a limit every) f ts all =
    ap (λ zs. near (exceeds a limit) zs) (map_in_order f ts)
    ∙ map_near a limit f (in_order ts) (all_in_order (λ t. integer_at a (f t) ≡ integer_at a t) ts all)

pub tuples_if : (b : Bool) (f : List Value → List Value) (t : List Value) (xs ys : List (List Value)) → ys ≡ map f xs → cond b (f t ∷ ys) ys ≡ map f (cond b (t ∷ xs) xs)
tuples_if true f t xs ys e = ap (λ zs. f t ∷ zs) e
tuples_if false f t xs ys e = e

map_tuples : (f : List Value → List Value) (k : List Value) (h : List WindowEvent) → tuples_with k (mapped f h) ≡ map f (tuples_with k h)
map_tuples f k [] = refl
map_tuples f k (Mark ∷ h) = map_tuples f k h
map_tuples f k (Insert q t ∷ h) = tuples_if (same_key k q) f t (tuples_with k h) (tuples_with k (mapped f h)) (map_tuples f k h)

map_since_mark : (f : List Value → List Value) (h : List WindowEvent) → since_mark (mapped f h) ≡ mapped f (since_mark h)
map_since_mark f [] = refl
map_since_mark f (Mark ∷ h) = refl
map_since_mark f (Insert k t ∷ h) = ap (λ w. Insert k (f t) ∷ w) (map_since_mark f h)

map_relevant : (rule : WindowRule) (f : List Value → List Value) (h : List WindowEvent) → relevant rule (mapped f h) ≡ mapped f (relevant rule h)
map_relevant (W.TumblingCount n) f h = refl
map_relevant (W.TumblingDelta a limit) f h = refl
map_relevant W.TumblingPunct f h = map_since_mark f h
map_relevant (W.SlidingCount n every) f h = refl
map_relevant (W.SlidingDelta a limit every) f h = refl

map_keys : (f : List Value → List Value) (h : List WindowEvent) → keys_of (mapped f h) ≡ keys_of h
map_keys f [] = refl
map_keys f (Mark ∷ h) = map_keys f h
map_keys f (Insert k t ∷ h) = ap (λ ks. k ∷ ks) (map_keys f h)

all_if : (b : Bool) (rule : WindowRule) (f : List Value → List Value) (t : List Value) (ts : List (List Value)) → Keeps rule f t → AllByRecursion (Keeps rule f) ts
    → AllByRecursion (Keeps rule f) (cond b (t ∷ ts) ts)
all_if true rule f t ts p all = (p, all)
all_if false rule f t ts p all = all

all_tuples : (rule : WindowRule) (f : List Value → List Value) (k : List Value) (h : List WindowEvent) → AllKeep rule f h → AllByRecursion (Keeps rule f) (tuples_with k h)
all_tuples rule f k [] all = tt
all_tuples rule f k (Mark ∷ h) all = all_tuples rule f k h all
all_tuples rule f k (Insert q t ∷ h) all = all_if (same_key k q) rule f t (tuples_with k h) all.0 (all_tuples rule f k h all.1)

all_since : (rule : WindowRule) (f : List Value → List Value) (h : List WindowEvent) → AllKeep rule f h → AllKeep rule f (since_mark h)
all_since rule f [] all = tt
all_since rule f (Mark ∷ h) all = tt
all_since rule f (Insert k t ∷ h) all = (all.0, all_since rule f h all.1)

all_relevant : (rule : WindowRule) (f : List Value → List Value) (h : List WindowEvent) → AllKeep rule f h → AllKeep rule f (relevant rule h)
all_relevant (W.TumblingCount n) f h all = all
all_relevant (W.TumblingDelta a limit) f h all = all
all_relevant W.TumblingPunct f h all = all_since W.TumblingPunct f h all
all_relevant (W.SlidingCount n every) f h all = all
all_relevant (W.SlidingDelta a limit every) f h all = all

pub map_content : (rule : WindowRule) (f : List Value → List Value) (k : List Value) (h : List WindowEvent) → AllKeep rule f h
    → content rule k (mapped f h) ≡ map f (content rule k h)
map_content rule f k h all =
    ap (λ ts. held rule ts) (ap (λ w. tuples_with k w) (map_relevant rule f h) ∙ map_tuples f k (relevant rule h))
    ∙ map_held rule f (tuples_with k (relevant rule h)) (all_tuples rule f k (relevant rule h) (all_relevant rule f h all))

-- ---- firing

map_flush : (f : List Value → List Value) (b : Bool) (ts : List (List Value)) → flush_if b (map f ts) ≡ map_firing f (flush_if b ts)
map_flush f true ts = refl
map_flush f false ts = refl

map_trigger : (f : List Value → List Value) (every : Option ℕ) (m : ℕ) (ts : List (List Value)) → trigger_if every m (map f ts) ≡ map_firing f (trigger_if every m ts)
map_trigger f None m ts = refl
map_trigger f (Some every) m ts = go ((m % every) == 0)
  where
    go : (b : Bool) → cond b (Triggers (map f ts)) Silent ≡ map_firing f (cond b (Triggers ts) Silent)
    go true = refl
    go false = refl

map_fires_behind : (rule : WindowRule) (f : List Value → List Value) (t : List Value) (ts : List (List Value)) → Keeps rule f t → AllByRecursion (Keeps rule f) ts
    → fires_after rule (f t) (map f ts) ≡ map_firing f (fires_after rule t ts)
map_fires_behind (W.TumblingCount n) f t ts p all =
    (λ i. flush_if ((suc (map_length f ts i) % n) == 0) (map_last f n (t ∷ ts) i))
    ∙ map_flush f ((suc (length ts) % n) == 0) (last_of n (t ∷ ts))
map_fires_behind (W.TumblingDelta a limit) f t ts p all =
    (λ i. flush_if (map_is_start a limit f t ts p all i && not (map_none f ts i)) (map_since a limit f ts all i))
    ∙ map_flush f (is_start (exceeds a limit) t (last_start (exceeds a limit) ts) && not (is_empty ts)) (since_start (exceeds a limit) ts)
map_fires_behind W.TumblingPunct f t ts p all = refl
map_fires_behind (W.SlidingCount n every) f t ts p all =
    (λ i. trigger_if every (suc (map_length f ts i)) (map_held (W.SlidingCount n every) f (t ∷ ts) (p, all) i))
    ∙ map_trigger f every (suc (length ts)) (held (W.SlidingCount n every) (t ∷ ts))
map_fires_behind (W.SlidingDelta a limit every) f t ts p all =
    (λ i. trigger_if every (suc (map_length f ts i)) (map_held (W.SlidingDelta a limit every) f (t ∷ ts) (p, all) i))
    ∙ map_trigger f every (suc (length ts)) (held (W.SlidingDelta a limit every) (t ∷ ts))

map_fires : (rule : WindowRule) (f : List Value → List Value) (k t : List Value) (h : List WindowEvent) → AllKeep rule f (Insert k t ∷ h)
    → tuple_fires rule k (f t) (mapped f h) ≡ map_firing f (tuple_fires rule k t h)
map_fires rule f k t h all =
    ap (λ ts. fires_after rule (f t) ts) (map_tuples f k h)
    ∙ map_fires_behind rule f t (tuples_with k h) all.0 (all_tuples rule f k h all.1)

-- ---- flushes

module _ (f : List Value → List Value) where
  abbrev pub entry : List Value × List (List Value) → List Value × List (List Value)
  entry e = (e.0, map f e.1)

  map_put : (k : List Value) (v : List (List Value)) (es : List (List Value × List (List Value)))
      → put key_cmp k (map f v) (map entry es) ≡ map entry (put key_cmp k v es)
  map_put k v [] = refl
  map_put k v (e ∷ es) = go (key_cmp k e.0) (map_put k v es)
    where
      go : (o : Ordering) → put key_cmp k (map f v) (map entry es) ≡ map entry (put key_cmp k v es)
          → by_order o ((k, map f v) ∷ entry e ∷ map entry es) ((e.0, map f v) ∷ map entry es) (entry e ∷ put key_cmp k (map f v) (map entry es))
          ≡ map entry (by_order o ((k, v) ∷ e ∷ es) ((e.0, v) ∷ es) (e ∷ put key_cmp k v es))
      go Less more = refl
      go Equal more = refl
      go Greater more = ap (λ zs. entry e ∷ zs) more

  pub map_each_key : (c d : List Value → List (List Value)) → ((k : List Value) → c k ≡ map f (d k)) → (ks : List (List Value))
      → each_key c ks ≡ map entry (each_key d ks)
  map_each_key c d same [] = refl
  map_each_key c d same (k ∷ ks) = (λ i. put key_cmp k (same k i) (map_each_key c d same ks i)) ∙ map_put k (d k) (each_key d ks)

map_flushed : (rule : WindowRule) (f : List Value → List Value) (h : List WindowEvent) → AllKeep rule f h
    → flushed_after rule (mapped f h) ≡ map (λ e. (e.0, map f e.1)) (flushed_after rule h)
map_flushed (W.TumblingCount n) f h all = refl
map_flushed (W.TumblingDelta a limit) f h all = refl
map_flushed W.TumblingPunct f h all =
    ap (λ ks. each_key (λ k. content W.TumblingPunct k (mapped f h)) ks) (ap (λ w. keys_of w) (map_since_mark f h) ∙ map_keys f (since_mark h))
    ∙ map_each_key f (λ k. content W.TumblingPunct k (mapped f h)) (λ k. content W.TumblingPunct k h) (λ k. map_content W.TumblingPunct f k h all) (keys_of (since_mark h))
map_flushed (W.SlidingCount n every) f h all = refl
map_flushed (W.SlidingDelta a limit every) f h all = refl

map_contents_of : (f : List Value → List Value) (x : Firing) → contents_of (map_firing f x) ≡ map (map f) (contents_of x)
map_contents_of f Silent = refl
map_contents_of f (Flushes ts) = refl
map_contents_of f (Triggers ts) = refl

map_seconds : (f : List Value → List Value) (es : List (List Value × List (List Value)))
    → map (λ e. e.1) (map (entry f) es) ≡ map (map f) (map (λ e. e.1) es)
map_seconds f [] = refl
map_seconds f (e ∷ es) = ap (λ zs. map f e.1 ∷ zs) (map_seconds f es)

map_fired : (rule : WindowRule) (f : List Value → List Value) (h : List WindowEvent) (e : WindowEvent) → AllKeep rule f (e ∷ h)
    → fired_contents rule (mapped_event f e) (mapped f h) ≡ map (map f) (fired_contents rule e h)
map_fired rule f h Mark all = ap (λ es. map (λ e. e.1) es) (map_flushed rule f h all) ∙ map_seconds f (flushed_after rule h)
map_fired rule f h (Insert k t) all =
    ap (λ x. contents_of x) (map_fires rule f k t h all) ∙ map_contents_of f (tuple_fires rule k t h)

pub mapped_law : MappedLaw
mapped_law rule f k h all = (map_content rule f k h all, map_flushed rule f h all)

pub mapped_firing_law : MappedFiringLaw
mapped_firing_law rule f h = (λ k t all. map_fires rule f k t h all, λ e all. map_fired rule f h e all)

pub get_behind : (t more : List Value) (a : ℕ) → a < length t → slice_get (t ++ more) a ≡ slice_get t a
get_behind [] more a lt = absurd (omega arith)
get_behind (v ∷ t) more zero lt = refl
get_behind (v ∷ t) more (suc a) lt = get_behind t more a (omega arith)

pub behind_law : BehindLaw
behind_law a t more lt = ap integer_in (get_behind t more a lt)

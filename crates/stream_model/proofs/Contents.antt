-- What a window holds, and what one tuple more makes of it.
use Rattle.std.proofs.Common.{ℕ, zero, suc, ℤ, ◌+◌, ◌-◌, ◌≤◌, ◌<◌, ◌%◌, ◌==◌, min, Bool, true, false, cond, not, ◌&&◌, ◌||◌, true≢false, List, [], ◌∷◌, ◌++◌, ◌≡◌, take, drop, length, Some, refl, sym, ap, ◌∙◌, append-nil, append_assoc, length-append, length-take, length-drop, take-append-drop, arith}
use Rattle.std.specs.List.{filter, list_any}
use Rattle.std.proofs.lemmas.List.Folds.{list_any-append}
use Rattle.std.proofs.lemmas.Bool.{cond-true, cond-false, eqb-true, eqb-false}
use Rattle.std.proofs.Math.Nat.{suc-mod, mod_self, mod-eq_of_lt, mod-lt, mod-le}
use Rattle.std.proofs.Math.Dec.{eqb-suc-zero}
use Rattle.spl_value.specs.declared.item.Item.TheVariants as I
use Rattle.spl_value.specs.declared.value.Value.{Value}
use Rattle.spl_value.specs.Key.{key_of}
use Rattle.language_model.specs.declared.checked.WindowRule.{WindowRule}
use Rattle.language_model.specs.declared.checked.WindowRule.TheVariants as W
use Rattle.stream_model.specs.Stream.{is_empty}
use Rattle.spl_value.specs.KeyOrder.{same_key}
use Rattle.stream_model.specs.Windows.{flushes_at_markers, WindowEvent, Insert, Mark, partition_key, window_events, tuples_with, has_come, since_mark, in_order, is_start, last_start, since_start, near, exceeds, held, content, trigger_if, fires_after}
use Rattle.stream_model.proofs.parts.Windows.{last_of}
use Rattle.stream_model.specs.parts.Windows.{relevant, flush_if}
use Rattle.stream_model.specs.WindowLaws.{FromStart, exceeds_first, with_key, TumblingCountLaw, SlidingCountLaw, TumblingDeltaLaw, SlidingDeltaLaw, TumblingCountInsert, TumblingDeltaInsert, TumblingPunctInsert, SlidingCountInsert, SlidingDeltaInsert, PortLaw, OneKeyLaw, OwnKeyLaw}
use Rattle.spl_value.proofs.KeyOrder.{same_key-itself}

-- ---- the last tuples

pub in_order-append : {A : Type 0} (xs ys : List A) → in_order (xs ++ ys) ≡ in_order ys ++ in_order xs
in_order-append [] ys = sym (append-nil (in_order ys))
in_order-append (x ∷ xs) ys = ap (λ zs. zs ++ x ∷ []) (in_order-append xs ys) ∙ append_assoc (in_order ys) (in_order xs) (x ∷ [])

pub length-in_order : {A : Type 0} (ts : List A) → length (in_order ts) ≡ length ts
length-in_order [] = refl
length-in_order (t ∷ ts) =
    let e : length (in_order ts ++ t ∷ []) ≡ length (in_order ts) + 1 = length-append (in_order ts) (t ∷ []) in
    let r : length (in_order ts) ≡ length ts = length-in_order ts in
    omega (arith, e, r)

-- what is before the last n, and those
split_last : {A : Type 0} (n : ℕ) (ts : List A) → in_order (drop n ts) ++ last_of n ts ≡ in_order ts
split_last n ts = sym (in_order-append (take n ts) (drop n ts)) ∙ ap (λ zs. in_order zs) (take-append-drop n ts)

length-last_of : {A : Type 0} (n : ℕ) (ts : List A) → length (last_of n ts) ≡ min n (length ts)
length-last_of n ts = length-in_order (take n ts) ∙ length-take n ts

drop_past : {A : Type 0} (xs ys : List A) → drop (length xs) (xs ++ ys) ≡ ys
drop_past [] ys = refl
drop_past (x ∷ xs) ys = drop_past xs ys

last_by_drop : {A : Type 0} (n : ℕ) (ts : List A) → last_of n ts ≡ drop (length ts - n) (in_order ts)
last_by_drop n ts =
    let long : length (in_order (drop n ts)) ≡ length ts - n = length-in_order (drop n ts) ∙ length-drop n ts in
    sym (drop_past (in_order (drop n ts)) (last_of n ts))
    ∙ ap (λ zs. drop (length (in_order (drop n ts))) zs) (split_last n ts)
    ∙ ap (λ m. drop m (in_order ts)) long

pub tumbling_count_law : TumblingCountLaw
tumbling_count_law n k h =
    let ts = tuples_with k h in
    let within : length ts % n ≤ length ts = mod-le (length ts) n in
    let long : length (last_of (length ts % n) ts) ≡ min (length ts % n) (length ts) = length-last_of (length ts % n) ts in
    ((in_order (drop (length ts % n) ts), split_last (length ts % n) ts), long ∙ omega (arith, within))

pub sliding_count_law : SlidingCountLaw
sliding_count_law n every k h =
    let ts = tuples_with k h in ((in_order (drop n ts), split_last n ts), length-last_of n ts)

-- ---- the last start

from_start : {A : Type 0} (far : A → A → Bool) (t : A) (ts : List A) → FromStart far (t ∷ ts) (since_start far (t ∷ ts))
from_start far t [] = record { start = t; before = []; later = []; are = refl; starts = refl; last = refl; close = tt; holds = refl }
from_start {A = A} far t (u ∷ ts) = go (is_start far t (last_start far (u ∷ ts))) refl (from_start far u ts)
  where
    go : (b : Bool) → is_start far t (last_start far (u ∷ ts)) ≡ b → FromStart far (u ∷ ts) (since_start far (u ∷ ts))
        → FromStart far (t ∷ u ∷ ts) (since_start far (t ∷ u ∷ ts))
    go true e f = record {
      start = t;
      before = u ∷ ts;
      later = [];
      are = refl;
      starts = e;
      last = cond-true (is_start far t (last_start far (u ∷ ts))) (Some t) (last_start far (u ∷ ts)) e;
      close = tt;
      holds = cond-true (is_start far t (last_start far (u ∷ ts))) (t ∷ []) (since_start far (u ∷ ts) ++ t ∷ []) e;
    }
    go false e f = record {
      start = f.start;
      before = f.before;
      later = t ∷ f.later;
      are = ap (λ zs. t ∷ zs) f.are;
      starts = f.starts;
      last = cond-false (is_start far t (last_start far (u ∷ ts))) (Some t) (last_start far (u ∷ ts)) e ∙ f.last;
      close = (ap (is_start far t) (sym f.last) ∙ e, f.close);
      holds = cond-false (is_start far t (last_start far (u ∷ ts))) (t ∷ []) (since_start far (u ∷ ts) ++ t ∷ []) e ∙ ap (λ zs. zs ++ t ∷ []) f.holds;
    }

-- a tuple came with a key where there is one with it
pub come_is : (k : List Value) (h : List WindowEvent) → has_come k h ≡ not (is_empty (tuples_with k h))
come_is k [] = refl
come_is k (Mark ∷ h) = come_is k h
come_is k (Insert q t ∷ h) = go (same_key k q) (come_is k h)
  where
    go : (b : Bool) → has_come k h ≡ not (is_empty (tuples_with k h)) → (b || has_come k h) ≡ not (is_empty (cond b (t ∷ tuples_with k h) (tuples_with k h)))
    go true e = refl
    go false e = e

pub tumbling_delta_law : TumblingDeltaLaw
tumbling_delta_law a limit k h come = go (tuples_with k h) (sym (come_is k h) ∙ come)
  where
    go : (ts : List (List Value)) → not (is_empty ts) ≡ true → FromStart (exceeds a limit) ts (since_start (exceeds a limit) ts)
    go [] e = absurd (true≢false (sym e))
    go (t ∷ ts) e = from_start (exceeds a limit) t ts

-- ---- one tuple more

inserted : (k t : List Value) (h : List WindowEvent) → tuples_with k (Insert k t ∷ h) ≡ t ∷ tuples_with k h
inserted k t h = cond-true (same_key k k) (t ∷ tuples_with k h) (tuples_with k h) (same_key-itself k)

one_more : (n : ℕ) → suc n ≡ n + 1
one_more n = omega arith

module _ (n : ℕ) (some : 0 < n) (ts : List (List Value)) (t : List Value) where
  abbrev joined : List (List Value)
  joined = last_of (length ts % n) ts ++ t ∷ []

  long : length joined ≡ suc (length ts % n)
  long =
      let e : length joined ≡ length (last_of (length ts % n) ts) + 1 = length-append (last_of (length ts % n) ts) (t ∷ []) in
      let l : length (last_of (length ts % n) ts) ≡ min (length ts % n) (length ts) = length-last_of (length ts % n) ts in
      let w : length ts % n ≤ length ts = mod-le (length ts) n in
      omega (arith, e, l, w)

  abbrev Wanted : Bool → Type 0
  Wanted b = (last_of (suc (length ts) % n) (t ∷ ts) ≡ cond b [] joined)
      × (flush_if ((suc (length ts) % n) == 0) (last_of n (t ∷ ts)) ≡ flush_if b joined)

  full : length joined ≡ n → Wanted true
  full e =
      let turn : suc (length ts % n) ≡ n = sym long ∙ e in
      let round : suc (length ts) % n ≡ 0 = suc-mod (length ts) n ∙ ap (λ k. k % n) turn ∙ mod_self n in (
        ap (λ m. last_of m (t ∷ ts)) round,
        (λ i. flush_if ((round i) == 0) (last_of (sym turn i) (t ∷ ts))),
      )

  on : (length joined ≡ n → ⊥) → Wanted false
  on e =
      let below : length ts % n < n = mod-lt (length ts) some in
      let not_yet : suc (length ts % n) ≡ n → ⊥ = λ p. e (long ∙ p) in
      let next : suc (length ts % n) < n = omega (arith, below, not_yet) in
      let goes : suc (length ts) % n ≡ suc (length ts % n) = suc-mod (length ts) n ∙ mod-eq_of_lt next in (
        ap (λ m. last_of m (t ∷ ts)) goes,
        ap (λ b. flush_if b (last_of n (t ∷ ts))) (ap (λ m. m == 0) goes ∙ eqb-suc-zero (length ts % n)),
      )

  fills : Wanted (length joined == n)
  fills = elim (length joined == n) as (λ b. (length joined == n) ≡ b → Wanted b) [
    | true ↦ λ e. full (eqb-true (length joined) n e)
    | false ↦ λ e. on (eqb-false (length joined) n e)
  ] refl

pub tumbling_count_insert : TumblingCountInsert
tumbling_count_insert n k t h some =
    let both = fills n some (tuples_with k h) t in (ap (λ ts. last_of (length ts % n) ts) (inserted k t h) ∙ both.0, both.1)

and_true : (b : Bool) → (b && true) ≡ b
and_true true = refl
and_true false = refl

module _ (a : ℕ) (limit : ℤ) (t : List Value) where
  abbrev Tumbles : List (List Value) → Type 0
  Tumbles ts =
      (since_start (exceeds a limit) (t ∷ ts)
      ≡ cond (exceeds_first a limit t (since_start (exceeds a limit) ts)) (t ∷ []) (since_start (exceeds a limit) ts ++ t ∷ []))
      × (flush_if (is_start (exceeds a limit) t (last_start (exceeds a limit) ts) && not (is_empty ts)) (since_start (exceeds a limit) ts)
      ≡ flush_if (exceeds_first a limit t (since_start (exceeds a limit) ts)) (since_start (exceeds a limit) ts))

  tumbles : (ts : List (List Value)) → Tumbles ts
  tumbles [] = (refl, refl)
  tumbles (u ∷ ts) =
      let far = exceeds a limit in
      let f = from_start far u ts in
      let same : is_start far t (last_start far (u ∷ ts)) ≡ exceeds_first a limit t (since_start far (u ∷ ts)) =
      ap (is_start far t) f.last ∙ ap (exceeds_first a limit t) (sym f.holds) in (
        ap (λ b. cond b (t ∷ []) (since_start far (u ∷ ts) ++ t ∷ [])) same,
        ap (λ b. flush_if b (since_start far (u ∷ ts))) (and_true (is_start far t (last_start far (u ∷ ts))) ∙ same),
      )

pub tumbling_delta_insert : TumblingDeltaInsert
tumbling_delta_insert a limit k t h =
    let both = tumbles a limit t (tuples_with k h) in (ap (λ ts. since_start (exceeds a limit) ts) (inserted k t h) ∙ both.0, both.1)

pub tumbling_punct_insert : TumblingPunctInsert
tumbling_punct_insert k t h = (ap (λ ts. in_order ts) (inserted k t (since_mark h)), refl)

take_again : {A : Type 0} (n : ℕ) (ts : List A) → take n (take (suc n) ts) ≡ take n ts
take_again zero ts = refl
take_again (suc n) [] = refl
take_again (suc n) (t ∷ ts) = ap (λ zs. t ∷ zs) (take_again n ts)

take_with : {A : Type 0} (n : ℕ) (t : A) (ts : List A) → take n (t ∷ take n ts) ≡ take n (t ∷ ts)
take_with zero t ts = refl
take_with (suc n) t ts = ap (λ zs. t ∷ zs) (take_again n ts)

slides : {A : Type 0} (n : ℕ) (t : A) (ts : List A) → last_of n (t ∷ ts) ≡ drop (length (last_of n ts) + 1 - n) (last_of n ts ++ t ∷ [])
slides n t ts =
    let r : length (last_of n ts) ≡ length (take n ts) = length-in_order (take n ts) in
    let more : suc (length (take n ts)) ≡ length (last_of n ts) + 1 = omega (arith, r) in
    ap (λ zs. in_order zs) (sym (take_with n t ts))
    ∙ last_by_drop n (t ∷ take n ts)
    ∙ ap (λ m. drop (m - n) (last_of n ts ++ t ∷ [])) more

pub sliding_count_insert : SlidingCountInsert
sliding_count_insert n every k t h =
    let ts = tuples_with k h in
    let here : content (W.SlidingCount n every) k (Insert k t ∷ h) ≡ last_of n (t ∷ ts) = ap (λ us. last_of n us) (inserted k t h) in
    (here ∙ slides n t ts, (λ i. trigger_if every (one_more (length ts) i) (sym here i)))

any_push : {A : Type 0} (p : A → Bool) (xs : List A) (t : A) → list_any p (xs ++ t ∷ []) ≡ (list_any p xs || p t)
any_push p [] t = last (p t)
  where
    last : (b : Bool) → (b || false) ≡ b
    last true = refl
    last false = refl
any_push p (x ∷ xs) t = go (p x) (any_push p xs t)
  where
    go : (b : Bool) → list_any p (xs ++ t ∷ []) ≡ (list_any p xs || p t) → (b || list_any p (xs ++ t ∷ [])) ≡ ((b || list_any p xs) || p t)
    go true e = refl
    go false e = e

evicts : {A : Type 0} (keep : A → Bool) (x : A) (m n rest : List A) (a b : Bool) → keep x ≡ not b → n ≡ filter keep m ++ rest
    → cond (a || b) n (x ∷ n) ≡ filter keep (cond a m (x ∷ m)) ++ rest
evicts keep x m n rest true b k e = e
evicts keep x m n rest false true k e = e ∙ sym (ap (λ c. cond c (x ∷ filter keep m) (filter keep m) ++ rest) k)
evicts keep x m n rest false false k e = ap (λ l. x ∷ l) e ∙ sym (ap (λ c. cond c (x ∷ filter keep m) (filter keep m) ++ rest) k)

-- one more tuple takes out those that it is far from
near_push : {A : Type 0} (far : A → A → Bool) (xs : List A) (t : A) → near far (xs ++ t ∷ []) ≡ filter (λ u. not (far t u)) (near far xs) ++ t ∷ []
near_push far [] t = refl
near_push far (x ∷ xs) t =
    ap (λ b. cond b (near far (xs ++ t ∷ [])) (x ∷ near far (xs ++ t ∷ []))) (any_push (λ later. far later x) xs t)
    ∙ evicts (λ u. not (far t u)) x (near far xs) (near far (xs ++ t ∷ [])) (t ∷ []) (list_any (λ later. far later x) xs) (far t x) refl (near_push far xs t)

near-append : {A : Type 0} (far : A → A → Bool) (xs ys : List A)
    → near far (xs ++ ys) ≡ filter (λ u. not (list_any (λ later. far later u) ys)) (near far xs) ++ near far ys
near-append far [] ys = refl
near-append far (x ∷ xs) ys =
    ap (λ b. cond b (near far (xs ++ ys)) (x ∷ near far (xs ++ ys))) (list_any-append (λ later. far later x) xs ys)
    ∙ evicts (λ u. not (list_any (λ later. far later u) ys)) x (near far xs) (near far (xs ++ ys)) (near far ys)
    (list_any (λ later. far later x) xs) (list_any (λ later. far later x) ys) refl (near-append far xs ys)

tuples-append : (k : List Value) (g h : List WindowEvent) → tuples_with k (g ++ h) ≡ tuples_with k g ++ tuples_with k h
tuples-append k [] h = refl
tuples-append k (Mark ∷ g) h = tuples-append k g h
tuples-append k (Insert q t ∷ g) h = go (same_key k q) (tuples-append k g h)
  where
    go : (b : Bool) → tuples_with k (g ++ h) ≡ tuples_with k g ++ tuples_with k h
        → cond b (t ∷ tuples_with k (g ++ h)) (tuples_with k (g ++ h)) ≡ cond b (t ∷ tuples_with k g) (tuples_with k g) ++ tuples_with k h
    go true e = ap (λ ts. t ∷ ts) e
    go false e = e

pub sliding_delta_law : SlidingDeltaLaw
sliding_delta_law a limit every k t newer older =
    let later : List (List Value) = in_order (tuples_with k newer) in
    let before : List (List Value) = in_order (tuples_with k older) in
    ap (λ ts. near (exceeds a limit) (in_order ts))
    (tuples-append k newer (Insert k t ∷ older) ∙ ap (λ ts. tuples_with k newer ++ ts) (inserted k t older))
    ∙ ap (λ ts. near (exceeds a limit) ts)
    (in_order-append (tuples_with k newer) (t ∷ tuples_with k older) ∙ append_assoc before (t ∷ []) later)
    ∙ near-append (exceeds a limit) before (t ∷ later)

pub sliding_delta_insert : SlidingDeltaInsert
sliding_delta_insert a limit every k t h =
    let ts = tuples_with k h in
    let here : content (W.SlidingDelta a limit every) k (Insert k t ∷ h) ≡ near (exceeds a limit) (in_order (t ∷ ts)) =
    ap (λ us. near (exceeds a limit) (in_order us)) (inserted k t h) in
    (here ∙ near_push (exceeds a limit) (in_order ts) t, (λ i. trigger_if every (one_more (length ts) i) (sym here i)))

-- ---- keys

pub port_law : PortLaw
port_law key k [] = refl
port_law key k (I.Tuple t ∷ items) = ap (λ ts. cond (same_key k (key t)) (t ∷ ts) ts) (port_law key k items)
port_law key k (I.Window ∷ items) = port_law key k items
port_law key k (I.Final ∷ items) = port_law key k items
port_law key k (I.Bad f ∷ items) = port_law key k items

pub one_key_law : OneKeyLaw
one_key_law policy places [] e = refl
one_key_law policy places (I.Tuple t ∷ items) e =
    ap (λ b. tuples_with [] (Insert (cond b (key_of t places) []) t ∷ window_events (partition_key policy places) items)) e
    ∙ ap (λ ts. t ∷ ts) (one_key_law policy places items e)
one_key_law policy places (I.Window ∷ items) e = one_key_law policy places items e
one_key_law policy places (I.Final ∷ items) e = one_key_law policy places items e
one_key_law policy places (I.Bad f ∷ items) e = one_key_law policy places items e

module _ (k q t : List Value) (g h : List WindowEvent) where
  -- a tuple more, with the key or with another one
  own : (b : Bool) → same_key k q ≡ b → tuples_with k g ≡ tuples_with k h
      → tuples_with k (cond b (Insert q t ∷ g) g) ≡ cond b (t ∷ tuples_with k h) (tuples_with k h)
  own true e more = cond-true (same_key k q) (t ∷ tuples_with k g) (tuples_with k g) e ∙ ap (λ ts. t ∷ ts) more
  own false e more = more

tuples_own : (k : List Value) (h : List WindowEvent) → tuples_with k (with_key k h) ≡ tuples_with k h
tuples_own k [] = refl
tuples_own k (Mark ∷ h) = tuples_own k h
tuples_own k (Insert q t ∷ h) = own k q t (with_key k h) h (same_key k q) refl (tuples_own k h)

since_if : (b : Bool) (k t : List Value) (h : List WindowEvent) → since_mark (cond b (Insert k t ∷ h) h) ≡ cond b (Insert k t ∷ since_mark h) (since_mark h)
since_if true k t h = refl
since_if false k t h = refl

since_own : (k : List Value) (h : List WindowEvent) → tuples_with k (since_mark (with_key k h)) ≡ tuples_with k (since_mark h)
since_own k [] = refl
since_own k (Mark ∷ h) = refl
since_own k (Insert q t ∷ h) =
    ap (λ w. tuples_with k w) (since_if (same_key k q) q t (with_key k h))
    ∙ own k q t (since_mark (with_key k h)) (since_mark h) (same_key k q) refl (since_own k h)

relevant_own : (rule : WindowRule) (k : List Value) (h : List WindowEvent) → tuples_with k (relevant rule (with_key k h)) ≡ tuples_with k (relevant rule h)
relevant_own (W.TumblingCount n) k h = tuples_own k h
relevant_own (W.TumblingDelta a limit) k h = tuples_own k h
relevant_own W.TumblingPunct k h = since_own k h
relevant_own (W.SlidingCount n every) k h = tuples_own k h
relevant_own (W.SlidingDelta a limit every) k h = tuples_own k h

all_relevant : (rule : WindowRule) (h : List WindowEvent) → flushes_at_markers rule ≡ false → relevant rule h ≡ h
all_relevant (W.TumblingCount n) h e = refl
all_relevant (W.TumblingDelta a limit) h e = refl
all_relevant W.TumblingPunct h e = absurd (true≢false e)
all_relevant (W.SlidingCount n every) h e = refl
all_relevant (W.SlidingDelta a limit every) h e = refl

pub own_key_law : OwnKeyLaw
own_key_law rule k g h = (
  λ e. ap (λ ts. held rule ts) (sym (relevant_own rule k g) ∙ ap (λ w. tuples_with k (relevant rule w)) e ∙ relevant_own rule k h),
  λ e same.
      ap (λ ts. held rule ts)
      (ap (λ w. tuples_with k w) (all_relevant rule g e) ∙ same ∙ ap (λ w. tuples_with k w) (sym (all_relevant rule h e))),
  λ same t. ap (λ ts. fires_after rule t ts) same,
)

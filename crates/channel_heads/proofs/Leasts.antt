-- The least number of the heads, and the width, which no call changes.
use Rattle.std.proofs.Common.{◌≡◌, ◌<◌, ◌≤◌, ◌⊎◌, inl, inr, ℕ, zero, suc, min, Bool, true, false, List, [], ◌∷◌, length, refl, sym, ap, ◌∙◌, arith, cond, fold, slice_get, slice_set, Option, Some, None}
use Rattle.std.specs.Prelude.{unwrap_or}
use Rattle.std.proofs.lemmas.Bool.{cases_lt}
use Rattle.std.proofs.lemmas.List.{length-map, length-set}
use Rattle.spl_value.specs.declared.item.Item.{Item}
use Rattle.spl_value.specs.declared.packet.Packet.{Packet}
use Rattle.spl_value.specs.declared.packet.Packet.TheVariants as P
use Rattle.spl_value.specs.Numbered.{closes}
use Rattle.channel_heads.specs.Held.{Held, is_merging, width_of, least_with, least_of, no_heads, takes, gives_head}
use Rattle.channel_heads.proofs.ByNumber.{Tagged}
use Rattle.channel_heads.proofs.Facts.{no_some}

abbrev at : List (Option Tagged) → ℕ → Option Tagged
at heads c = unwrap_or (slice_get heads c) None

at_none : (c : ℕ) → at [] c ≡ None
at_none zero = refl
at_none (suc c) = refl

-- from a least number on, the result is a number that is no larger than it and than every head
fold_least : (heads : List (Option Tagged)) (m : ℕ) → (n : ℕ) × (fold least_with (Some m) heads ≡ Some n) × (n ≤ m) × ((c k : ℕ) (x : Item) → at heads c ≡ Some (k, x) → n ≤ k)
fold_least [] m = (m, refl, omega arith, λ c k x e. absurd (no_some (at [] c) (k, x) (at_none c) e))
fold_least (None ∷ heads) m = let r = fold_least heads m in (r.0, r.1, r.2, λ c k x e. later r.0 r.3 c k x e) where
  later : (n : ℕ) → ((c k : ℕ) (x : Item) → at heads c ≡ Some (k, x) → n ≤ k) → (c k : ℕ) (x : Item) → at (None ∷ heads) c ≡ Some (k, x) → n ≤ k
  later n rest zero k x e = absurd (no_some None (k, x) refl e)
  later n rest (suc c) k x e = rest c k x e
fold_least (Some p ∷ heads) m = let r = fold_least heads (min m p.0) in
    let low : r.0 ≤ min m p.0 = r.2 in
    (r.0, r.1, omega arith, λ c k x e. later r.0 (omega arith) r.3 c k x e) where
      later : (n : ℕ) → n ≤ p.0 → ((c k : ℕ) (x : Item) → at heads c ≡ Some (k, x) → n ≤ k) → (c k : ℕ) (x : Item) → at (Some p ∷ heads) c ≡ Some (k, x) → n ≤ k
      later n low rest zero k x e = let same : p.0 ≡ k = number p (k, x) e in omega arith where
        number : (p q : Tagged) → Some p ≡ Some q → p.0 ≡ q.0
        number p q e = let same : p ≡ q = cc in ap (λ (z : Tagged). z.0) same
      later n low rest (suc c) k x e = rest c k x e

-- where there is no least number there is no head
pub least_none : (heads : List (Option Tagged)) → least_of heads ≡ None → (c : ℕ) → at heads c ≡ None
least_none [] e c = at_none c
least_none (None ∷ heads) e zero = refl
least_none (None ∷ heads) e (suc c) = least_none heads e c
least_none (Some p ∷ heads) e c = let r = fold_least heads p.0 in absurd (clash (fold least_with (Some p.0) heads) r.0 e r.1) where
  clash : (o : Option ℕ) (n : ℕ) → o ≡ None → o ≡ Some n → ⊥
  clash None n d e = absurd cc
  clash (Some m) n d e = absurd cc

-- and where there is one, no head is below it
pub least_some : (heads : List (Option Tagged)) (n : ℕ) → least_of heads ≡ Some n → (c k : ℕ) (x : Item) → at heads c ≡ Some (k, x) → n ≤ k
least_some [] n e c k x h = absurd (no_some (at [] c) (k, x) (at_none c) h)
least_some (None ∷ heads) n e zero k x h = absurd (no_some None (k, x) refl h)
least_some (None ∷ heads) n e (suc c) k x h = least_some heads n e c k x h
least_some (Some p ∷ heads) n e c k x h = let r = fold_least heads p.0 in go r.0 (same r.0 n (sym r.1 ∙ e)) r.2 r.3 c k x h where
  same : (m n : ℕ) → Some m ≡ Some n → m ≡ n
  same m n e = cc

  go : (m : ℕ) → m ≡ n → m ≤ p.0 → ((c k : ℕ) (x : Item) → at heads c ≡ Some (k, x) → m ≤ k) → (c k : ℕ) (x : Item) → at (Some p ∷ heads) c ≡ Some (k, x) → n ≤ k
  go m s low rest zero k x h = let here : p.0 ≡ k = number p (k, x) h in omega arith where
    number : (p q : Tagged) → Some p ≡ Some q → p.0 ≡ q.0
    number p q e = let same : p ≡ q = cc in ap (λ (z : Tagged). z.0) same
  go m s low rest (suc c) k x h = let l : m ≤ k = rest c k x h in omega arith

-- it is the number of a head
fold_there : (heads : List (Option Tagged)) (m n : ℕ) → fold least_with (Some m) heads ≡ Some n → (n ≡ m) ⊎ ((c : ℕ) × (x : Item) × (at heads c ≡ Some (n, x)))
fold_there [] m n e = inl (same m n e) where
  same : (m n : ℕ) → Some m ≡ Some n → n ≡ m
  same m n e = cc
fold_there (None ∷ heads) m n e = go (fold_there heads m n e) where
  go : ((n ≡ m) ⊎ ((c : ℕ) × (x : Item) × (at heads c ≡ Some (n, x)))) → (n ≡ m) ⊎ ((c : ℕ) × (x : Item) × (at (None ∷ heads) c ≡ Some (n, x)))
  go (inl e) = inl e
  go (inr r) = inr (suc r.0, r.1, r.2)
fold_there (Some p ∷ heads) m n e = go (fold_there heads (min m p.0) n e) (cases_lt m p.0) where
  go : ((n ≡ min m p.0) ⊎ ((c : ℕ) × (x : Item) × (at heads c ≡ Some (n, x)))) → ((m < p.0) ⊎ (p.0 ≤ m)) → (n ≡ m) ⊎ ((c : ℕ) × (x : Item) × (at (Some p ∷ heads) c ≡ Some (n, x)))
  go (inl e) (inl l) = inl (omega arith)
  go (inl e) (inr l) = inr (0, p.1, ap (λ k. Some (k, p.1)) (let k : p.0 ≡ n = omega arith in k))
  go (inr r) l = inr (suc r.0, r.1, r.2)

pub least_there : (heads : List (Option Tagged)) (n : ℕ) → least_of heads ≡ Some n → (c : ℕ) × (x : Item) × (at heads c ≡ Some (n, x))
least_there [] n e = absurd (clash n e) where
  clash : (n : ℕ) → None ≡ Some n → ⊥
  clash n e = absurd cc
least_there (None ∷ heads) n e = let r = least_there heads n e in (suc r.0, r.1, r.2)
least_there (Some p ∷ heads) n e = go (fold_there heads p.0 n e) where
  go : ((n ≡ p.0) ⊎ ((c : ℕ) × (x : Item) × (at heads c ≡ Some (n, x)))) → (c : ℕ) × (x : Item) × (at (Some p ∷ heads) c ≡ Some (n, x))
  go (inl e) = (0, p.1, ap (λ k. Some (k, p.1)) (sym e))
  go (inr r) = (suc r.0, r.1, r.2)

-- ---- the width

pub width-takes : (c : ℕ) (p : Packet) (h : Held) → width_of (takes c p h) ≡ width_of h
width-takes c (P.Item n x) h = go (is_merging h) where
  go : (b : Bool) → length (cond b (slice_set h.heads c (Some (n, x))) h.heads) ≡ length h.heads
  go true = length-set h.heads c (Some (n, x))
  go false = refl
width-takes c (P.Pulse n) h = refl
width-takes c P.Close h = refl
width-takes c P.Cut h = length-map h.heads (λ _. None)

pub width-gives : (c : ℕ) (x : Item) (h : Held) → width_of (gives_head c x h) ≡ width_of h
width-gives c x h = go (closes x) where
  go : (b : Bool) → length (cond b (no_heads (slice_set h.heads c None)) (slice_set h.heads c None)) ≡ length h.heads
  go true = length-map (slice_set h.heads c None) (λ _. None) ∙ length-set h.heads c None
  go false = length-set h.heads c None

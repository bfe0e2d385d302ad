-- What a merger by pulses has taken and given after each call.
use Rattle.std.proofs.Common.{◌≡◌, ◌≢◌, ◌<◌, ◌≤◌, ◌⊎◌, ◌^◌, inl, inr, ℕ, Bool, true, false, refl, List, ◌∷◌, [], ◌++◌, sym, ◌∙◌, arith, subst, Option, Some, None}
use Rattle.std.specs.Prelude.{nat_lt, ◌&&◌}
use Rattle.std.specs.Option.{MatchOption, option_to_list}
use Rattle.std.proofs.lemmas.Bool.{lt-ltb, ltb-true}
use Rattle.spl_value.specs.declared.item.Item.{Item}
use Rattle.spl_value.specs.declared.packet.Packet.{Packet}
use Rattle.spl_value.specs.Numbered.{ByPulses, InOrder, merged, with_packet}
use Rattle.channel_heads.specs.Held.{Held, MergerHolds, MergerHolds.Took, MergerHolds.Gave, IsLeast, head_at, bound_at as bound_of, is_waiting, least_of, wants, width_of, takes, gives_head}
use Rattle.channel_heads.proofs.Facts.{facts}
use Rattle.channel_heads.proofs.Giving.{given_is}
use Rattle.channel_heads.proofs.Leasts.{least_none, least_some, least_there}
use Rattle.channel_heads.proofs.MergeLawLemmas.{prefix, whole}
use Rattle.pulse_rule.specs.Merging.{IsHeldBack}

-- the head that is the next
pub record IsNextHead (h : Held) (c n : ℕ) (x : Item) : Type 0 where
  pub within : c < width_of h
  pub head : head_at h c ≡ Some (n, x)
  pub least : IsLeast h n
  pub calm : (d : ℕ) → d < width_of h → is_waiting h n d ≡ false

pub pulse_took : (w c : ℕ) (p : Packet) (h after : Held) → after ≡ takes c p h → c < width_of h → wants h c ≡ true → (taken : ℕ → List Packet) (given : List Item)
    → MergerHolds ByPulses w h taken given → MergerHolds ByPulses w after (with_packet taken c p) given
pulse_took w c p h after e l want taken given s =
    let size : width_of h ≡ w = (facts ByPulses w h taken given s).size_heads in
    subst (λ k. MergerHolds ByPulses w k (with_packet taken c p) given) (sym e) (Took c p s (omega arith) want)

abbrev pub Gives : Held → Held → ℕ → Option Item → Type 0
Gives h after c r = MatchOption r ((head_at h c ≡ None) × (after ≡ h)) (λ x. (k : ℕ) × (head_at h c ≡ Some (k, x)) × (after ≡ gives_head c x h))

pub pulse_emits : (w c n : ℕ) (x : Item) (h after : Held) (r : Option Item) → Gives h after c r → IsNextHead h c n x → (taken : ℕ → List Packet) (given : List Item)
    → MergerHolds ByPulses w h taken given → MergerHolds ByPulses w after taken (given ++ option_to_list r)
pulse_emits w c n x h after r m next taken given s =
    let g = given_is h after c n x r m next.head in
    let size : width_of h ≡ w = (facts ByPulses w h taken given s).size_heads in
    let within : c < width_of h = next.within in
    let given_on : MergerHolds ByPulses w (gives_head c x h) taken (given ++ x ∷ []) = Gave c n x s (omega arith) next.head (next.least, λ d l. next.calm d (omega arith)) in
    let after_on : MergerHolds ByPulses w after taken (given ++ x ∷ []) = subst (λ k. MergerHolds ByPulses w k taken (given ++ x ∷ [])) (sym g.1) given_on in
    subst (λ o. MergerHolds ByPulses w after taken (given ++ option_to_list o)) (sym g.0) after_on

pub pulse_front : (w : ℕ) (h : Held) (taken : ℕ → List Packet) (given : List Item) → MergerHolds ByPulses w h taken given → InOrder ByPulses w taken → (rest : List Item) × (given ++ rest ≡ merged ByPulses w taken)
pulse_front w h taken given s a = prefix ByPulses w h taken given s a

pub pulse_whole : (w : ℕ) (h : Held) → IsHeldBack h → (taken : ℕ → List Packet) (given : List Item) → MergerHolds ByPulses w h taken given → InOrder ByPulses w taken → h.cut ≡ false → given ≡ merged ByPulses w taken
pulse_whole w h held taken given s a uncut = whole ByPulses w h taken given s a uncut (inr (go held)) where
  size : width_of h ≡ w
  size = (facts ByPulses w h taken given s).size_heads

  go : IsHeldBack h → ((c : ℕ) → c < w → head_at h c ≡ None) ⊎ ((d : ℕ) × (d < w) × ((c n : ℕ) (x : Item) → head_at h c ≡ Some (n, x) → is_waiting h n d ≡ true))
  go (inl none) = inl (λ c l. none c (let z : width_of h ≡ w = size in omega arith))
  go (inr r) = inr (r.0, (let z : width_of h ≡ w = size in let l : r.0 < width_of h = r.1 in omega arith), r.2)

-- ---- which head is the next

pub held_none : (h : Held) → least_of h.heads ≡ None → IsHeldBack h
held_none h e = inl (λ c l. least_none h.heads e c)

-- a channel that is waiting for the least number is waiting for each head's
pub held_waiting : (h : Held) (n d : ℕ) → least_of h.heads ≡ Some n → d < width_of h → is_waiting h n d ≡ true → IsHeldBack h
held_waiting h n d e l w = inr (d, l, λ c k x head. more k (least_some h.heads n e c k x head)) where
  more : (k : ℕ) → n ≤ k → is_waiting h k d ≡ true
  more k le = go (wants h d) refl (nat_lt (bound_of h d) n) refl w where
    go : (a : Bool) → wants h d ≡ a → (b : Bool) → nat_lt (bound_of h d) n ≡ b → (a && b) ≡ true → (wants h d && nat_lt (bound_of h d) k) ≡ true
    go true p true q w = let lt : bound_of h d < n = ltb-true (bound_of h d) n q in λ i. p i && lt-ltb (bound_of h d) k (let z : bound_of h d < k = omega arith in z) i
    go true p false q w = absurd cc
    go false p b q w = absurd cc

pub next_found : (h : Held) (n : ℕ) (r : Option ℕ) → least_of h.heads ≡ Some n → ((d : ℕ) → d < width_of h → is_waiting h n d ≡ false)
    → MatchOption r ((c k : ℕ) (x : Item) → head_at h c ≡ Some (k, x) → k ≢ n) (λ c. (c < width_of h) × (n < 2 ^ 64) × (x : Item) × (head_at h c ≡ Some (n, x)))
    → MatchOption r (IsHeldBack h) (λ c. (c < width_of h) × (k : ℕ) × (x : Item) × (head_at h c ≡ Some (k, x)) × IsLeast h k × ((d : ℕ) → d < width_of h → is_waiting h k d ≡ false))
next_found h n None e calm m = let there = least_there h.heads n e in absurd (m there.0 n there.1 there.2 refl)
next_found h n (Some c) e calm m = (m.0, n, m.2, m.3, (λ c k x head. least_some h.heads n e c k x head), calm)

-- nothing is held back where a head is the next
pub not_held : (h : Held) (c n : ℕ) (x : Item) → IsNextHead h c n x → IsHeldBack h → ⊥
not_held h c n x next (inl none) = clash (head_at h c) (n, x) (none c next.within) next.head where
  clash : (o : Option (ℕ × Item)) (p : ℕ × Item) → o ≡ None → o ≡ Some p → ⊥
  clash None p d e = absurd cc
  clash (Some q) p d e = absurd cc
not_held h c n x next (inr r) = let bad : true ≡ false = sym (r.2 c n x next.head) ∙ next.calm r.0 r.1 in absurd cc

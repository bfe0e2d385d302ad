-- What a merger gives when it gives the head of a channel, or nothing.
use Rattle.std.proofs.Common.{◌≡◌, ℕ, List, [], ◌++◌, sym, ap, ◌∙◌, Option, Some, None}
use Rattle.std.specs.Option.{MatchOption}
use Rattle.std.proofs.lemmas.List.{append-nil}
use Rattle.spl_value.specs.declared.item.Item.{Item}
use Rattle.channel_heads.specs.Held.{Held, head_at, gives_head}

-- a channel that holds a head gives it
pub given_is : (h after : Held) (c n : ℕ) (y : Item) (r : Option Item)
    → MatchOption r ((head_at h c ≡ None) × (after ≡ h)) (λ x. (k : ℕ) × (head_at h c ≡ Some (k, x)) × (after ≡ gives_head c x h)) → head_at h c ≡ Some (n, y)
    → (r ≡ Some y) × (after ≡ gives_head c y h)
given_is h after c n y None m head = absurd (clash (head_at h c) (n, y) m.0 head) where
  clash : (o : Option (ℕ × Item)) (p : ℕ × Item) → o ≡ None → o ≡ Some p → ⊥
  clash None p d e = absurd cc
  clash (Some q) p d e = absurd cc
given_is h after c n y (Some x) m head =
    let same : x ≡ y = item (m.0, x) (n, y) (sym m.1 ∙ head) in (ap Some same, m.2 ∙ ap (λ z. gives_head c z h) same) where
      item : (p q : ℕ × Item) → Some p ≡ Some q → p.1 ≡ q.1
      item p q e = let same : p ≡ q = cc in ap (λ (z : ℕ × Item). z.1) same

-- what nothing was added to
pub front_still : (given front : List Item) (whole : List Item) → ((rest : List Item) × (given ++ rest ≡ whole)) → (rest : List Item) × ((given ++ []) ++ rest ≡ whole)
front_still given front whole r = (r.0, ap (λ z. z ++ r.0) (append-nil given) ∙ r.1)

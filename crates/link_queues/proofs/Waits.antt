-- What waits on links where one queue changes.
use Rattle.std.proofs.Common.{◌≡◌, ℕ, zero, suc, List, [], ◌∷◌, ◌++◌, length, map, replicate, set, slice_get, Option, Some, None, refl, sym, ap, subst, ◌∙◌}
use Rattle.std.specs.Prelude.{MatchOption}
use Rattle.std.specs.Option.{unwrap_or}
use Rattle.spl_value.specs.declared.packet.Packet.{Packet}
use Rattle.stream_model.specs.declared.shape.ShapeLink.{ShapeLink}
use Rattle.link_queues.specs.Links.{Links, Waiting, waits_on}

pub packets_set : (queues : List Waiting) (l : ℕ) (w : Waiting) → map (λ (v : Waiting). v.packets) (set queues l w) ≡ set (map (λ (v : Waiting). v.packets) queues) l w.packets
packets_set [] l w = refl
packets_set (q ∷ queues) zero w = refl
packets_set (q ∷ queues) (suc l) w = ap (λ ps. q.packets ∷ ps) (packets_set queues l w)

pub waits_here : (queues : List Waiting) (l : ℕ) (w : Waiting) → slice_get queues l ≡ Some w → unwrap_or (slice_get (map (λ (v : Waiting). v.packets) queues) l) [] ≡ w.packets
waits_here [] l w e = cc
waits_here (q ∷ queues) zero w e = let same : q ≡ w = cc in ap (λ (v : Waiting). v.packets) same
waits_here (q ∷ queues) (suc l) w e = waits_here queues l w e

pub set_here : (queues : List Waiting) (l : ℕ) (w : Waiting) → slice_get queues l ≡ Some w → set queues l w ≡ queues
set_here [] l w e = refl
set_here (q ∷ queues) zero w e = let same : q ≡ w = cc in ap (λ z. z ∷ queues) (sym same)
set_here (q ∷ queues) (suc l) w e = ap (λ z. q ∷ z) (set_here queues l w e)

pub packets_none : (n room : ℕ) → map (λ (v : Waiting). v.packets) (replicate n (record { packets = []; room = room })) ≡ replicate n []
packets_none zero room = refl
packets_none (suc n) room = ap (λ ps. [] ∷ ps) (packets_none n room)

-- ---- links as they are seen

abbrev pub viewed : List ShapeLink → List Waiting → ℕ → List (List ℕ) → Links
viewed ends queues capacity entering = record { ends = ends; waiting = map (λ (v : Waiting). v.packets) queues; capacity = capacity; elements = length entering }

module _ (ends : List ShapeLink) (queues : List Waiting) (capacity : ℕ) (entering : List (List ℕ)) (l : ℕ) (w v : Waiting) (at : slice_get queues l ≡ Some w) where
  here : waits_on (viewed ends queues capacity entering) l ≡ w.packets
  here = waits_here queues l w at

  changed : (ps : List Packet) → v.packets ≡ ps
      → viewed ends (set queues l v) capacity entering ≡ record { ends = ends; waiting = set (map (λ (u : Waiting). u.packets) queues) l ps; capacity = capacity; elements = length entering }
  changed ps e =
      let ws = packets_set queues l v ∙ ap (set (map (λ (u : Waiting). u.packets) queues) l) e in
      ap (λ z. record { ends = ends; waiting = z; capacity = capacity; elements = length entering }) ws

  pub pushed : (now : Links) (p : Packet) → viewed ends queues capacity entering ≡ now → v ≡ record { packets = w.packets ++ p ∷ []; room = w.room }
      → viewed ends (set queues l v) capacity entering
      ≡ record { ends = now.ends; waiting = set now.waiting l (waits_on now l ++ p ∷ []); capacity = now.capacity; elements = now.elements }
  pushed now p view new =
      subst (λ (z : Links). viewed ends (set queues l v) capacity entering ≡ record { ends = z.ends; waiting = set z.waiting l (waits_on z l ++ p ∷ []); capacity = z.capacity; elements = z.elements })
      view (changed (waits_on (viewed ends queues capacity entering) l ++ p ∷ []) (ap (λ (u : Waiting). u.packets) new ∙ ap (λ ps. ps ++ p ∷ []) (sym here)))

  -- what is taken out
  abbrev pub Taken : Option Packet → Links → Type 0
  Taken None now = (waits_on now l ≡ []) × (viewed ends (set queues l v) capacity entering ≡ now)
  Taken (Some p) now =
      (rest : List Packet) × (waits_on now l ≡ p ∷ rest)
      × (viewed ends (set queues l v) capacity entering ≡ record { ends = now.ends; waiting = set now.waiting l rest; capacity = now.capacity; elements = now.elements })

  taken-now : (r : Option Packet) → MatchOption r ((w.packets ≡ []) × (v.packets ≡ [])) (λ p. w.packets ≡ p ∷ v.packets) → v.room ≡ w.room
      → Taken r (viewed ends queues capacity entering)
  taken-now None e room =
      let both : v.packets ≡ w.packets = e.1 ∙ sym e.0 in
      let same : v ≡ w = λ i. record { packets = both i; room = room i } in
      (here ∙ e.0, ap (λ qs. viewed ends qs capacity entering) (ap (set queues l) same ∙ set_here queues l w at))
  taken-now (Some p) e room = (v.packets, here ∙ e, changed v.packets refl)

  pub taken : (r : Option Packet) (now : Links) → viewed ends queues capacity entering ≡ now
      → MatchOption r ((w.packets ≡ []) × (v.packets ≡ [])) (λ p. w.packets ≡ p ∷ v.packets) → v.room ≡ w.room → Taken r now
  taken r now view e room = subst (Taken r) view (taken-now r e room)

-- the answer of a call that takes a packet out
pub taken_option : (ends : List ShapeLink) (queues : List Waiting) (capacity : ℕ) (entering : List (List ℕ)) (l : ℕ) (w v : Waiting) (at : slice_get queues l ≡ Some w)
    (r : Option Packet) (now : Links) → Taken ends queues capacity entering l w v at r now
    → MatchOption r ((waits_on now l ≡ []) × (viewed ends (set queues l v) capacity entering ≡ now))
    (λ p. (rest : List Packet) × (waits_on now l ≡ p ∷ rest)
    × (viewed ends (set queues l v) capacity entering ≡ record { ends = now.ends; waiting = set now.waiting l rest; capacity = now.capacity; elements = now.elements }))
taken_option ends queues capacity entering l w v at None now h = h
taken_option ends queues capacity entering l w v at (Some p) now h = h

-- links that begin
pub viewed_none : (ends : List ShapeLink) (queues : List Waiting) (capacity : ℕ) (entering : List (List ℕ)) (elements : ℕ)
    → (n : ℕ) → n ≡ length ends → queues ≡ replicate n (record { packets = []; room = capacity }) → length entering ≡ elements
    → viewed ends queues capacity entering ≡ record { ends = ends; waiting = replicate (length ends) []; capacity = capacity; elements = elements }
viewed_none ends queues capacity entering elements n len are many =
    let ws = ap (map (λ (v : Waiting). v.packets)) are ∙ packets_none n capacity ∙ ap (λ k. replicate k []) len in
    λ i. record { ends = ends; waiting = ws i; capacity = capacity; elements = many i }

-- What a merger has taken and given after each call.
use Rattle.std.proofs.Common.{◌≡◌, ◌<◌, ◌≤◌, ◌⊎◌, inl, inr, ℕ, suc, ◌+◌, ◌*◌, true, false, List, [], ◌∷◌, ◌++◌, length, length-append, refl, sym, ap, ◌∙◌, arith, subst, Option, Some, None}
use Rattle.std.specs.Option.{MatchOption, option_to_list}
use Rattle.spl_value.specs.declared.item.Item.{Item}
use Rattle.spl_value.specs.declared.packet.Packet.{Packet}
use Rattle.spl_value.specs.Numbered.{ByTurns, ByNumbers, InOrder, merged, with_packet}
use Rattle.channel_heads.specs.Held.{Held, MergerHolds, MergerHolds.New, MergerHolds.Took, MergerHolds.Gave, head_at, wants, width_of, takes, gives_head}
use Rattle.channel_heads.proofs.Facts.{facts}
use Rattle.channel_heads.proofs.Giving.{given_is}
use Rattle.channel_heads.proofs.MergeLawLemmas.{prefix, whole}
use Rattle.order_merger.specs.Merging.{Turning, TurnStands, new_turning, Numbering, NumberStands, new_numbering}

-- ---- by numbers

pub number_new : (w : ℕ) → 0 < w → NumberStands w (new_numbering w) (λ _. []) []
number_new w l = record { held = New l; next = refl }

pub number_took : (w c : ℕ) (p : Packet) (m : Numbering) (taken : ℕ → List Packet) (given : List Item) → NumberStands w m taken given → c < width_of m.held → wants m.held c ≡ true
    → NumberStands w (record { held = takes c p m.held; next = m.next }) (with_packet taken c p) given
number_took w c p m taken given s l want =
    let size : width_of m.held ≡ w = (facts ByNumbers w m.held taken given s.held).size_heads in
    record { held = Took c p s.held (omega arith) want; next = s.next }

pub number_gave : (w c : ℕ) (x : Item) (m : Numbering) (taken : ℕ → List Packet) (given : List Item) → NumberStands w m taken given → c < width_of m.held → head_at m.held c ≡ Some (m.next, x)
    → NumberStands w (record { held = gives_head c x m.held; next = m.next + 1 }) taken (given ++ x ∷ [])
number_gave w c x m taken given s l e =
    let size : width_of m.held ≡ w = (facts ByNumbers w m.held taken given s.held).size_heads in
    record { held = Gave c m.next x s.held (omega arith) e (sym s.next); next = length-append given (x ∷ []) ∙ ap (λ n. n + 1) s.next }

pub number_front : (w : ℕ) (m : Numbering) (taken : ℕ → List Packet) (given : List Item) → NumberStands w m taken given → InOrder ByNumbers w taken → (rest : List Item) × (given ++ rest ≡ merged ByNumbers w taken)
number_front w m taken given s a = prefix ByNumbers w m.held taken given s.held a

pub number_whole : (w : ℕ) (m : Numbering) (taken : ℕ → List Packet) (given : List Item) → NumberStands w m taken given → InOrder ByNumbers w taken → m.held.cut ≡ false
    → ((c n : ℕ) (x : Item) → head_at m.held c ≡ Some (n, x) → n ≡ m.next → ⊥) → given ≡ merged ByNumbers w taken
number_whole w m taken given s a uncut none = whole ByNumbers w m.held taken given s.held a uncut (inr (λ c n x e is. none c n x e (is ∙ s.next)))

-- ---- by turns

pub turn_new : (w : ℕ) → 0 < w → TurnStands w (new_turning w) (λ _. []) []
turn_new w l = record { held = New l; rounds = 0; turn = omega arith }

pub turn_took : (w c : ℕ) (p : Packet) (m : Turning) (taken : ℕ → List Packet) (given : List Item) → TurnStands w m taken given → c < width_of m.held → wants m.held c ≡ true
    → TurnStands w (record { held = takes c p m.held; turn = m.turn }) (with_packet taken c p) given
turn_took w c p m taken given s l want =
    let size : width_of m.held ≡ w = (facts ByTurns w m.held taken given s.held).size_heads in
    record { held = Took c p s.held (omega arith) want; rounds = s.rounds; turn = s.turn }

-- the turn goes to the next channel, and from the last to the first
pub turn_gave : (w n next : ℕ) (x : Item) (m : Turning) (taken : ℕ → List Packet) (given : List Item) → TurnStands w m taken given → m.turn < width_of m.held → head_at m.held m.turn ≡ Some (n, x)
    → ((next ≡ m.turn + 1) × (m.turn + 1 < width_of m.held)) ⊎ ((next ≡ 0) × (width_of m.held ≤ m.turn + 1))
    → TurnStands w (record { held = gives_head m.turn x m.held; turn = next }) taken (given ++ x ∷ [])
turn_gave w n next x m taken given s l e next_is = go next_is where
  size : width_of m.held ≡ w
  size = (facts ByTurns w m.held taken given s.held).size_heads

  here : m.turn < w
  here = let z : width_of m.held ≡ w = size in omega arith

  held : MergerHolds ByTurns w (gives_head m.turn x m.held) taken (given ++ x ∷ [])
  held = Gave m.turn n x s.held here e (s.rounds, s.turn)

  longer : length (given ++ x ∷ []) ≡ length given + 1
  longer = length-append given (x ∷ [])

  go : (((next ≡ m.turn + 1) × (m.turn + 1 < width_of m.held)) ⊎ ((next ≡ 0) × (width_of m.held ≤ m.turn + 1))) → TurnStands w (record { held = gives_head m.turn x m.held; turn = next }) taken (given ++ x ∷ [])
  go (inl k) =
      let is : next ≡ m.turn + 1 = k.0 in
      let was : length given ≡ s.rounds * w + m.turn = s.turn in
      let more : length (given ++ x ∷ []) ≡ length given + 1 = longer in
      record { held = held; rounds = s.rounds; turn = omega arith }
  go (inr k) =
      let is : next ≡ 0 = k.0 in
      let last : width_of m.held ≤ m.turn + 1 = k.1 in
      let z : width_of m.held ≡ w = size in
      let l : m.turn < w = here in
      let was : length given ≡ s.rounds * w + m.turn = s.turn in
      let more : length (given ++ x ∷ []) ≡ length given + 1 = longer in
      let product : suc s.rounds * w ≡ s.rounds * w + w = omega arith in
      record { held = held; rounds = suc s.rounds; turn = omega arith }

pub turn_front : (w : ℕ) (m : Turning) (taken : ℕ → List Packet) (given : List Item) → TurnStands w m taken given → InOrder ByTurns w taken → (rest : List Item) × (given ++ rest ≡ merged ByTurns w taken)
turn_front w m taken given s a = prefix ByTurns w m.held taken given s.held a

pub turn_whole : (w : ℕ) (m : Turning) (taken : ℕ → List Packet) (given : List Item) → TurnStands w m taken given → InOrder ByTurns w taken → m.turn < width_of m.held → m.held.cut ≡ false
    → head_at m.held m.turn ≡ None → given ≡ merged ByTurns w taken
turn_whole w m taken given s a l uncut none =
    let size : width_of m.held ≡ w = (facts ByTurns w m.held taken given s.held).size_heads in
    whole ByTurns w m.held taken given s.held a uncut (inr (m.turn, s.rounds, omega arith, s.turn, none))

-- ---- the same for a merger by its parts

pub number_takes : (w c next : ℕ) (p : Packet) (h after : Held) (now : Numbering) → record { held = h; next = next } ≡ now → after ≡ takes c p h → c < width_of now.held → wants now.held c ≡ true
    → (taken : ℕ → List Packet) (given : List Item) → NumberStands w now taken given → NumberStands w (record { held = after; next = next }) (with_packet taken c p) given
number_takes w c next p h after now view e l want taken given s =
    let held : takes c p now.held ≡ after = sym (e ∙ ap (λ (m : Numbering). takes c p m.held) view) in
    let same : now.next ≡ next = sym (ap (λ (m : Numbering). m.next) view) in
    let M : (Held × ℕ) → Type 0 = λ m. NumberStands w (record { held = m.0; next = m.1 }) (with_packet taken c p) given in
    subst M (λ i. (held i, same i)) (number_took w c p now taken given s l want)

pub number_gives : (w c next : ℕ) (x : Item) (h after : Held) (now : Numbering) → record { held = h; next = next } ≡ now → after ≡ gives_head c x h → c < width_of h → head_at h c ≡ Some (next, x)
    → (taken : ℕ → List Packet) (given : List Item) → NumberStands w now taken given → NumberStands w (record { held = after; next = next + 1 }) taken (given ++ x ∷ [])
number_gives w c next x h after now view e l head taken given s =
    let m : Numbering = record { held = h; next = next } in
    subst (λ k. NumberStands w (record { held = k; next = next + 1 }) taken (given ++ x ∷ [])) (sym e)
    (number_gave w c x m taken given (subst (λ z. NumberStands w z taken given) (sym view) s) l head)

pub turn_takes : (w c turn : ℕ) (p : Packet) (h after : Held) (now : Turning) → record { held = h; turn = turn } ≡ now → after ≡ takes c p h → c < width_of now.held → wants now.held c ≡ true
    → (taken : ℕ → List Packet) (given : List Item) → TurnStands w now taken given → TurnStands w (record { held = after; turn = turn }) (with_packet taken c p) given
turn_takes w c turn p h after now view e l want taken given s =
    let held : takes c p now.held ≡ after = sym (e ∙ ap (λ (m : Turning). takes c p m.held) view) in
    let same : now.turn ≡ turn = sym (ap (λ (m : Turning). m.turn) view) in
    let M : (Held × ℕ) → Type 0 = λ m. TurnStands w (record { held = m.0; turn = m.1 }) (with_packet taken c p) given in
    subst M (λ i. (held i, same i)) (turn_took w c p now taken given s l want)

pub turn_gives : (w n turn next : ℕ) (x : Item) (h after : Held) (now : Turning) → record { held = h; turn = turn } ≡ now → after ≡ gives_head turn x h → turn < width_of h → head_at h turn ≡ Some (n, x)
    → ((next ≡ turn + 1) × (turn + 1 < width_of h)) ⊎ ((next ≡ 0) × (width_of h ≤ turn + 1))
    → (taken : ℕ → List Packet) (given : List Item) → TurnStands w now taken given → TurnStands w (record { held = after; turn = next }) taken (given ++ x ∷ [])
turn_gives w n turn next x h after now view e l head next_is taken given s =
    let m : Turning = record { held = h; turn = turn } in
    subst (λ k. TurnStands w (record { held = k; turn = next }) taken (given ++ x ∷ [])) (sym e)
    (turn_gave w n next x m taken given (subst (λ z. TurnStands w z taken given) (sym view) s) l head next_is)

pub number_emits : (w c next : ℕ) (y : Item) (h after : Held) (r : Option Item) (now : Numbering) → record { held = h; next = next } ≡ now
    → MatchOption r ((head_at h c ≡ None) × (after ≡ h)) (λ x. (k : ℕ) × (head_at h c ≡ Some (k, x)) × (after ≡ gives_head c x h)) → c < width_of h → head_at h c ≡ Some (next, y)
    → (taken : ℕ → List Packet) (given : List Item) → NumberStands w now taken given → NumberStands w (record { held = after; next = next + 1 }) taken (given ++ option_to_list r)
number_emits w c next y h after r now view m l head taken given s =
    let g = given_is h after c next y r m head in
    subst (λ o. NumberStands w (record { held = after; next = next + 1 }) taken (given ++ option_to_list o)) (sym g.0) (number_gives w c next y h after now view g.1 l head taken given s)

pub number_nothing : (w next : ℕ) (h : Held) (now : Numbering) → record { held = h; next = next } ≡ now → ((c n : ℕ) (x : Item) → head_at h c ≡ Some (n, x) → n ≡ next → ⊥)
    → (taken : ℕ → List Packet) (given : List Item) → NumberStands w now taken given → InOrder ByNumbers w taken → now.held.cut ≡ false → given ≡ merged ByNumbers w taken
number_nothing w next h now view none taken given s a uncut =
    let m : Numbering = record { held = h; next = next } in
    number_whole w m taken given (subst (λ z. NumberStands w z taken given) (sym view) s) a (ap (λ (z : Numbering). z.held.cut) view ∙ uncut) none

pub turn_nothing : (w turn : ℕ) (h : Held) (now : Turning) → record { held = h; turn = turn } ≡ now → turn < width_of h → head_at h turn ≡ None
    → (taken : ℕ → List Packet) (given : List Item) → TurnStands w now taken given → InOrder ByTurns w taken → now.held.cut ≡ false → given ≡ merged ByTurns w taken
turn_nothing w turn h now view l none taken given s a uncut =
    let m : Turning = record { held = h; turn = turn } in
    turn_whole w m taken given (subst (λ z. TurnStands w z taken given) (sym view) s) a l (ap (λ (z : Turning). z.held.cut) view ∙ uncut) none

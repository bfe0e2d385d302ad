-- For what a network stands behind a step.
use Rattle.std.proofs.Common.{◌≡◌, ◌<◌, ℕ, Bool, true, false, not, List, [], ◌∷◌, ◌++◌, length, slice_get, refl, sym, ap, subst, ◌∙◌, arith, length-append}
use Rattle.spl_value.specs.declared.item.Item.{Item}
use Rattle.spl_value.specs.declared.packet.Packet.{Packet}
use Rattle.stream_model.specs.Operators.{Operator}
use Rattle.stream_model.specs.Sending.{outgoing}
use Rattle.stream_model.specs.Stream.{Event, is_empty}
use Rattle.stream_model.specs.declared.shape.ShapeLink.{ShapeLink}
use Rattle.network_model.specs.Legal.{MayPop}
use Rattle.stream_model.specs.declared.outgoing.Outgoing.{Outgoing}
use Rattle.network_model.specs.Picking.{PopAt, PushAt, ReadAt, may_happen}
use Rattle.network_model.specs.Receipts.{Popped, WasRead}
use Rattle.network_model.specs.States.{State, popped_from, put, puts}
use Rattle.elements.specs.declared.element.Element.{Element}
use Rattle.elements.specs.Standing.{MayTake}
use Rattle.link_queues.specs.Links.{Links, waits_on}
use Rattle.enabled_events.specs.Marks.{AreRighted, IsRefreshed, IsRight}
use Rattle.enabled_events.specs.Moments.{Moment, moved}
use Rattle.enabled_events.specs.Standing.{ElementsAt, PartsAt}
use Rattle.enabled_events.proofs.Happening.{pop_none}
use Rattle.enabled_events.proofs.Righting.{one_front}
use Rattle.net_core.specs.Stepping.{StandsFor, taking}
use Rattle.net_core.specs.declared.net.Net.{Net}
use Rattle.net_core.proofs.Enabling.{behind, in_links, popping, pushing_front, pushing_room, reading}
use Rattle.net_core.proofs.Linking.{with_waiting}
use Rattle.net_core.proofs.Unmoved.{no_first}
use Rattle.net_core.proofs.Steps.{pop_marks, pop_parts, push_marks, push_parts, read_marks, read_parts}

module _ {R : Type 0} (spec : R → Operator) (stands : R → List Event → Type 0) (n : Net R) (m : Moment) (k : StandsFor spec stands n m) where
  read_stands : (b : Bool) (e : ℕ) (x : Item) (es : List (Element R)) (marks : List Bool) → may_happen m.net m.state (ReadAt e) ≡ true
      → ElementsAt spec stands (moved m (put m.state e (taking b (m.net.part e) (m.state e) (WasRead x)))) es
      → IsRefreshed m.net (put m.state e (taking b (m.net.part e) (m.state e) (WasRead x))) e n.marks marks
      → StandsFor spec stands (record { elements = es; links = n.links; marks = marks }) (moved m (put m.state e (taking b (m.net.part e) (m.state e) (WasRead x))))
  read_stands b e x es marks may at r = record {
    parts = read_parts spec stands m n.elements n.links k.parts b e x es (reading m.net m.state e may).element at;
    marked = read_marks spec stands m n.elements n.links k.parts b e x n.marks marks may k.marked r;
  }

  pub read_done : (b d : Bool) (e : ℕ) (x : Item) (es : List (Element R)) (marks : List Bool) → b ≡ d → may_happen m.net m.state (ReadAt e) ≡ true
      → ElementsAt spec stands (moved m (put m.state e (taking b (m.net.part e) (m.state e) (WasRead x)))) es
      → IsRefreshed m.net (put m.state e (taking b (m.net.part e) (m.state e) (WasRead x))) e n.marks marks
      → StandsFor spec stands (record { elements = es; links = n.links; marks = marks }) (moved m (put m.state e (taking d (m.net.part e) (m.state e) (WasRead x))))
  read_done b d e x es marks is may at r =
      subst
      (λ z. StandsFor spec stands (record { elements = es; links = n.links; marks = marks }) (moved m (put m.state e (taking z (m.net.part e) (m.state e) (WasRead x)))))
      is (read_stands b e x es marks may at r)

  -- ---- a packet is popped

  -- the state behind a pop
  abbrev pub Popping : Bool → ℕ → Packet → State
  Popping b l p = put m.state (m.net.link l).to (taking b (m.net.part (m.net.link l).to) (m.state (m.net.link l).to) (Popped (m.net.link l).input p))

  pub pop_within : (l : ℕ) → may_happen m.net m.state (PopAt l) ≡ true → l < m.net.links
  pop_within l may = in_links m.net m.state l _ may

  pub pop_some : (l : ℕ) → may_happen m.net m.state (PopAt l) ≡ true → waits_on n.links l ≡ [] → ⊥
  pop_some l may none =
      let none-waits : false ≡ may_happen m.net m.state (PopAt l) =
      pop_none m n.links k.parts.links_at l (pop_within l may) (not (is_empty (waits_on n.links l))) refl (ap (λ ws. not (is_empty ws)) none) in
      let clash : false ≡ true = none-waits ∙ may in
      cc

  pub pop_may : (l : ℕ) (p : Packet) (rest : List Packet) → may_happen m.net m.state (PopAt l) ≡ true → waits_on n.links l ≡ p ∷ rest → MayPop m.net m.state l p
  pop_may l p rest may are =
      popping m.net m.state l p may
      (ap (λ ps. slice_get ps (length (popped_from m.net m.state l)))
      (k.parts.links_at.waits l (pop_within l may) ∙ ap (λ z. popped_from m.net m.state l ++ z) are) ∙ behind (popped_from m.net m.state l) rest p)

  pub pop_take : (l : ℕ) (p : Packet) (x : ShapeLink) → x ≡ m.net.link l
      → MayTake (m.schemas (m.net.link l).to) (m.net.part (m.net.link l).to) (m.state (m.net.link l).to) (m.net.link l).input p
      → MayTake (m.schemas x.to) (m.net.part x.to) (m.state x.to) x.input p
  pop_take l p x is may = subst (λ (y : ShapeLink). MayTake (m.schemas y.to) (m.net.part y.to) (m.state y.to) y.input p) (sym is) may

  pub pop_elements : (b : Bool) (l : ℕ) (p : Packet) (x : ShapeLink) (es : List (Element R)) → x ≡ m.net.link l
      → ElementsAt spec stands (moved m (put m.state x.to (taking b (m.net.part x.to) (m.state x.to) (Popped x.input p)))) es
      → ElementsAt spec stands (moved m (Popping b l p)) es
  pop_elements b l p x es is at =
      subst (λ (y : ShapeLink). ElementsAt spec stands (moved m (put m.state y.to (taking b (m.net.part y.to) (m.state y.to) (Popped y.input p)))) es) is at

  pub pop_ready : (b : Bool) (l : ℕ) (p : Packet) (rest : List Packet) (es : List (Element R)) (links : Links) → may_happen m.net m.state (PopAt l) ≡ true
      → waits_on n.links l ≡ p ∷ rest → links ≡ with_waiting n.links l rest → ElementsAt spec stands (moved m (Popping b l p)) es
      → PartsAt spec stands (moved m (Popping b l p)) es links
  pop_ready b l p rest es links may are new at =
      subst (PartsAt spec stands (moved m (Popping b l p)) es) (sym new) (pop_parts spec stands m n.elements n.links k.parts b l p rest es (pop_within l may) are at)

  pop_stands : (b : Bool) (l : ℕ) (p : Packet) (rest : List Packet) (e : ℕ) (es : List (Element R)) (links : Links) (mid new : List Bool)
      → may_happen m.net m.state (PopAt l) ≡ true → waits_on n.links l ≡ p ∷ rest → PartsAt spec stands (moved m (Popping b l p)) es links → e ≡ (m.net.link l).to
      → IsRefreshed m.net (Popping b l p) e n.marks mid → AreRighted m.net (Popping b l p) mid new → IsRight m.net (Popping b l p) new (PushAt l)
      → StandsFor spec stands (record { elements = es; links = links; marks = new }) (moved m (Popping b l p))
  pop_stands b l p rest e es links mid new may are parts to r more right = record {
    parts = parts;
    marked = pop_marks spec stands m n.elements n.links k.parts b l p n.marks mid new (pop_within l may) (pop_may l p rest may are).idle k.marked
        (subst (λ z. IsRefreshed m.net (Popping b l p) z n.marks mid) to r) more right;
  }

  pub pop_done : (b d : Bool) (l : ℕ) (p : Packet) (rest : List Packet) (e : ℕ) (es : List (Element R)) (links : Links) (mid new : List Bool) → b ≡ d
      → may_happen m.net m.state (PopAt l) ≡ true → waits_on n.links l ≡ p ∷ rest → PartsAt spec stands (moved m (Popping b l p)) es links → e ≡ (m.net.link l).to
      → IsRefreshed m.net (Popping b l p) e n.marks mid → AreRighted m.net (Popping b l p) mid new → IsRight m.net (Popping b l p) new (PushAt l)
      → StandsFor spec stands (record { elements = es; links = links; marks = new }) (moved m (Popping d l p))
  pop_done b d l p rest e es links mid new is may are parts to r more right =
      subst (λ z. StandsFor spec stands (record { elements = es; links = links; marks = new }) (moved m (Popping z l p))) is
      (pop_stands b l p rest e es links mid new may are parts to r more right)

  -- ---- a packet is pushed

  abbrev pub Pushing : ℕ → Packet → State
  Pushing l p = put m.state (m.net.link l).from (puts (m.state (m.net.link l).from) (outgoing (m.net.link l).output p))

  pub push_within : (l : ℕ) → may_happen m.net m.state (PushAt l) ≡ true → l < m.net.links
  push_within l may = in_links m.net m.state l _ may

  pub push_some : (l e : ℕ) → may_happen m.net m.state (PushAt l) ≡ true → e ≡ (m.net.link l).from → (m.state e).outbox ≡ [] → ⊥
  push_some l e may from none =
      let front = pushing_front m.net m.state l may in
      let here : (m.state (m.net.link l).from).outbox ≡ [] = ap (λ z. (m.state z).outbox) (sym from) ∙ none in
      let clash : false ≡ true = sym (no_first (m.state (m.net.link l).from).outbox (m.net.link l).output here) ∙ front in
      cc

  pub push_room : (l : ℕ) → may_happen m.net m.state (PushAt l) ≡ true → length (waits_on n.links l) < n.links.capacity
  push_room l may =
      let room = pushing_room m.net m.state l may in
      let pushed = ap length (k.parts.links_at.waits l (push_within l may)) ∙ length-append (popped_from m.net m.state l) (waits_on n.links l) in
      let capacity = k.parts.links_at.capacity in
      omega arith

  pub push_output : (l o : ℕ) (p : Packet) (rest : List Outgoing) → may_happen m.net m.state (PushAt l) ≡ true
      → (m.state (m.net.link l).from).outbox ≡ outgoing o p ∷ rest → (m.net.link l).output ≡ o
  push_output l o p rest may are = one_front m.state (m.net.link l).from (m.net.link l).output o (outgoing o p) rest are refl (pushing_front m.net m.state l may)

  -- what was put is a packet for the link
  pub push_first : (l o : ℕ) (p : Packet) (rest : List Outgoing) (x : ShapeLink) → may_happen m.net m.state (PushAt l) ≡ true → x ≡ m.net.link l
      → (m.state x.from).outbox ≡ outgoing o p ∷ rest → (m.state (m.net.link l).from).outbox ≡ outgoing (m.net.link l).output p ∷ rest
  push_first l o p rest x may is are =
      let here : (m.state (m.net.link l).from).outbox ≡ outgoing o p ∷ rest = ap (λ (y : ShapeLink). (m.state y.from).outbox) (sym is) ∙ are in
      here ∙ ap (λ z. outgoing z p ∷ rest) (sym (push_output l o p rest may here))

  pub push_elements : (l o : ℕ) (p : Packet) (rest : List Outgoing) (x : ShapeLink) (es : List (Element R)) → may_happen m.net m.state (PushAt l) ≡ true → x ≡ m.net.link l
      → (m.state x.from).outbox ≡ outgoing o p ∷ rest
      → ElementsAt spec stands (moved m (put m.state x.from (puts (m.state x.from) (outgoing o p)))) es → ElementsAt spec stands (moved m (Pushing l p)) es
  push_elements l o p rest x es may is are at =
      let here : (m.state (m.net.link l).from).outbox ≡ outgoing o p ∷ rest = ap (λ (y : ShapeLink). (m.state y.from).outbox) (sym is) ∙ are in
      subst (λ z. ElementsAt spec stands (moved m (put m.state (m.net.link l).from (puts (m.state (m.net.link l).from) (outgoing z p)))) es)
      (sym (push_output l o p rest may here))
      (subst (λ (y : ShapeLink). ElementsAt spec stands (moved m (put m.state y.from (puts (m.state y.from) (outgoing o p)))) es) is at)

  pub push_ready : (l : ℕ) (p : Packet) (es : List (Element R)) (links : Links) → may_happen m.net m.state (PushAt l) ≡ true
      → links ≡ with_waiting n.links l (waits_on n.links l ++ p ∷ []) → ElementsAt spec stands (moved m (Pushing l p)) es
      → PartsAt spec stands (moved m (Pushing l p)) es links
  push_ready l p es links may new at =
      subst (PartsAt spec stands (moved m (Pushing l p)) es) (sym new) (push_parts spec stands m n.elements n.links k.parts l p es (push_within l may) at)

  pub push_stands : (l : ℕ) (p : Packet) (rest : List Outgoing) (e : ℕ) (es : List (Element R)) (links : Links) (mid mid2 new : List Bool)
      → may_happen m.net m.state (PushAt l) ≡ true → (m.state (m.net.link l).from).outbox ≡ outgoing (m.net.link l).output p ∷ rest
      → PartsAt spec stands (moved m (Pushing l p)) es links → e ≡ (m.net.link l).from
      → IsRefreshed m.net (Pushing l p) e n.marks mid → AreRighted m.net (Pushing l p) mid mid2 → IsRight m.net (Pushing l p) mid2 (PopAt l)
      → AreRighted m.net (Pushing l p) mid2 new → IsRight m.net (Pushing l p) new (PushAt l)
      → StandsFor spec stands (record { elements = es; links = links; marks = new }) (moved m (Pushing l p))
  push_stands l p rest e es links mid mid2 new may are parts from r pop-righted pop-right push-righted push-right = record {
    parts = parts;
    marked = push_marks spec stands m n.elements n.links k.parts l p rest n.marks mid mid2 new (push_within l may) are k.marked
        (subst (λ z. IsRefreshed m.net (Pushing l p) z n.marks mid) from r) pop-righted pop-right push-righted push-right;
  }

-- Which events are enabled, by what the elements and the links tell.
use Rattle.std.proofs.Common.{◌≡◌, ◌<◌, ◌≤◌, ◌+◌, ◌⊎◌, inl, inr, ℕ, Bool, true, false, not, ◌&&◌, List, [], ◌∷◌, ◌++◌, length, slice_get, Some, None, refl, sym, ap, subst, ◌∙◌, arith, nat_lt, length-append}
use Rattle.std.specs.Prelude.{is_some}
use Rattle.std.proofs.lemmas.Bool.{cases_lt, lt-ltb, le-ltb}
use Rattle.spl_value.specs.declared.packet.Packet.{Packet}
use Rattle.stream_model.specs.Operators.{Operator}
use Rattle.stream_model.specs.Stream.{Event, is_empty}
use Rattle.stream_model.specs.declared.shape.ShapeLink.{ShapeLink}
use Rattle.network_model.specs.Networks.{inputs}
use Rattle.network_model.specs.Picking.{PopAt, PushAt, ReadAt, front_for, may_happen, may_pop, may_read}
use Rattle.network_model.specs.States.{popped_from, pushed_on}
use Rattle.elements.specs.Standing.{IsAt}
use Rattle.elements.specs.declared.element.Element.{Element}
use Rattle.link_queues.specs.Links.{Links, waits_on}
use Rattle.link_queues.proofs.Listing.{get_there}
use Rattle.enabled_events.specs.Moments.{Moment}
use Rattle.enabled_events.specs.Standing.{ElementsAt, LinksAt, PartsAt}

-- what is behind what was popped
waits-behind : (xs ws : List Packet) → is_some (slice_get (xs ++ ws) (length xs)) ≡ not (is_empty ws)
waits-behind [] [] = refl
waits-behind [] (w ∷ ws) = refl
waits-behind (x ∷ xs) ws = waits-behind xs ws

room-behind : (a b c : ℕ) → nat_lt (a + b) (c + a) ≡ nat_lt b c
room-behind a b c = go (cases_lt b c)
  where
    go : ((b < c) ⊎ (c ≤ b)) → nat_lt (a + b) (c + a) ≡ nat_lt b c
    go (inl h) = lt-ltb (a + b) (c + a) (omega arith) ∙ sym (lt-ltb b c h)
    go (inr h) = le-ltb (a + b) (c + a) (omega arith) ∙ sym (le-ltb b c h)

and_true : (b c : Bool) → c ≡ true → (b && c) ≡ b
and_true true c e = e
and_true false c e = refl

and_false : (b c : Bool) → c ≡ false → (b && c) ≡ false
and_false true c e = e
and_false false c e = refl

pub read_happens : (m : Moment) (e : ℕ) (w : Bool) → e < m.net.size → w ≡ may_read (m.net.part e) (m.state e) → w ≡ may_happen m.net m.state (ReadAt e)
read_happens m e w lt is = is ∙ sym (ap (λ b. b && may_read (m.net.part e) (m.state e)) (lt-ltb e m.net.size lt))

module _ (m : Moment) (links : Links) (k : LinksAt m links) (l : ℕ) (lt : l < m.net.links) where
  front-waits : is_some (slice_get (pushed_on m.net m.state l) (length (popped_from m.net m.state l))) ≡ not (is_empty (waits_on links l))
  front-waits = ap (λ ps. is_some (slice_get ps (length (popped_from m.net m.state l)))) (k.waits l lt) ∙ waits-behind (popped_from m.net m.state l) (waits_on links l)

  has-room : nat_lt (length (pushed_on m.net m.state l)) (m.net.capacity + length (popped_from m.net m.state l)) ≡ nat_lt (length (waits_on links l)) links.capacity
  has-room =
      ap (λ n. nat_lt n (m.net.capacity + length (popped_from m.net m.state l))) (ap length (k.waits l lt) ∙ length-append (popped_from m.net m.state l) (waits_on links l))
      ∙ room-behind (length (popped_from m.net m.state l)) (length (waits_on links l)) m.net.capacity
      ∙ ap (λ n. nat_lt (length (waits_on links l)) n) (sym k.capacity)

  abbrev Popping : Bool
  Popping = may_pop (m.net.part (m.net.link l).to) (m.state (m.net.link l).to) (m.net.link l).input

  pop-is : may_happen m.net m.state (PopAt l) ≡ (Popping && not (is_empty (waits_on links l)))
  pop-is =
      ap (λ b. b && (Popping && is_some (slice_get (pushed_on m.net m.state l) (length (popped_from m.net m.state l))))) (lt-ltb l m.net.links lt)
      ∙ ap (λ b. Popping && b) front-waits

  pub pop_none : (w : Bool) → w ≡ not (is_empty (waits_on links l)) → w ≡ false → false ≡ may_happen m.net m.state (PopAt l)
  pop_none w is none = sym (pop-is ∙ and_false Popping (not (is_empty (waits_on links l))) (sym is ∙ none))

  pub pop_some : (w b : Bool) → w ≡ not (is_empty (waits_on links l)) → w ≡ true
      → b ≡ may_pop (m.net.part (m.net.link l).to) (m.state (m.net.link l).to) (m.net.link l).input → b ≡ may_happen m.net m.state (PopAt l)
  pop_some w b is some pops = pops ∙ sym (pop-is ∙ and_true Popping (not (is_empty (waits_on links l))) (sym is ∙ some))

  abbrev Pushing : Bool
  Pushing = is_some (front_for (m.net.link l).output (m.state (m.net.link l).from).outbox)

  push-is : may_happen m.net m.state (PushAt l) ≡ (nat_lt (length (waits_on links l)) links.capacity && Pushing)
  push-is =
      ap (λ b. b && (nat_lt (length (pushed_on m.net m.state l)) (m.net.capacity + length (popped_from m.net m.state l)) && Pushing)) (lt-ltb l m.net.links lt)
      ∙ ap (λ b. b && Pushing) has-room

  pub push_full : (w : Bool) → w ≡ nat_lt (length (waits_on links l)) links.capacity → w ≡ false → false ≡ may_happen m.net m.state (PushAt l)
  push_full w is full = sym (push-is ∙ ap (λ b. b && Pushing) (sym is ∙ full))

  pub push_room : (w b : Bool) → w ≡ nat_lt (length (waits_on links l)) links.capacity → w ≡ true
      → b ≡ is_some (front_for (m.net.link l).output (m.state (m.net.link l).from).outbox) → b ≡ may_happen m.net m.state (PushAt l)
  push_room w b is room pushes = pushes ∙ sym (push-is ∙ ap (λ z. z && Pushing) (sym is ∙ room))

  -- the ends of the link
  pub end_is : (x : ShapeLink) → slice_get links.ends l ≡ Some x → x ≡ m.net.link l
  end_is x at = k.ends l x at

  pub within : l < length links.ends
  within = subst (λ n. l < n) (sym k.count) lt

-- an element is there
pub no_element : {R : Type 0} (spec : R → Operator) (stands : R → List Event → Type 0) (m : Moment) (elements : List (Element R)) (e : ℕ)
    → ElementsAt spec stands m elements → e < m.net.size → None ≡ slice_get elements e → ⊥
no_element spec stands m elements e k lt none =
    let there = get_there elements e (subst (λ n. e < n) (sym k.count) lt) in
    let clash = none ∙ there.1 in
    cc

-- ---- the elements at the ends of a link

module _ {R : Type 0} (spec : R → Operator) (stands : R → List Event → Type 0) (m : Moment) (elements : List (Element R)) (links : Links)
    (k : PartsAt spec stands m elements links) (l : ℕ) (lt : l < m.net.links) (x : ShapeLink) (at : slice_get links.ends l ≡ Some x) where
  is : x ≡ m.net.link l
  is = k.links_at.ends l x at

  pub taker_at : (e : Element R) → Some e ≡ slice_get elements x.to → IsAt spec stands (m.net.part x.to) e (m.state x.to) (m.poured x.to)
  taker_at e got = (k.elements_at.each x.to e (sym got)).at

  pub input_within : x.input < inputs (m.net.part x.to)
  input_within = subst (λ (y : ShapeLink). y.input < inputs (m.net.part y.to)) (sym is) (k.linked.input l lt)

  pub no_taker : None ≡ slice_get elements x.to → ⊥
  no_taker none = no_element spec stands m elements x.to k.elements_at (subst (λ (y : ShapeLink). y.to < m.net.size) (sym is) (k.linked.to l lt)) none

  pub taker_pops : (b : Bool) → b ≡ may_pop (m.net.part x.to) (m.state x.to) x.input
      → b ≡ may_pop (m.net.part (m.net.link l).to) (m.state (m.net.link l).to) (m.net.link l).input
  taker_pops b e = e ∙ ap (λ (y : ShapeLink). may_pop (m.net.part y.to) (m.state y.to) y.input) is

  pub sender_at : (e : Element R) → Some e ≡ slice_get elements x.from → IsAt spec stands (m.net.part x.from) e (m.state x.from) (m.poured x.from)
  sender_at e got = (k.elements_at.each x.from e (sym got)).at

  pub no_sender : None ≡ slice_get elements x.from → ⊥
  no_sender none = no_element spec stands m elements x.from k.elements_at (subst (λ (y : ShapeLink). y.from < m.net.size) (sym is) (k.linked.from l lt)) none

  pub sender_pushes : (b : Bool) → b ≡ is_some (front_for x.output (m.state x.from).outbox)
      → b ≡ is_some (front_for (m.net.link l).output (m.state (m.net.link l).from).outbox)
  sender_pushes b e = e ∙ ap (λ (y : ShapeLink). is_some (front_for y.output (m.state y.from).outbox)) is

-- For which moment of a network its elements and its links stand.
use Rattle.std.specs.Prelude.{◌≡◌, ◌<◌, ◌+◌, ◌^◌, ℕ, List, ◌++◌, length, slice_get, Some}
use Rattle.stream_model.specs.declared.shape.ShapeLink.{ShapeLink}
use Rattle.stream_model.specs.Operators.{Operator}
use Rattle.stream_model.specs.Stream.{Event}
use Rattle.network_model.specs.States.{popped_from, pushed_on}
use Rattle.link_queues.specs.Links.{Links, waits_on}
use Rattle.elements.specs.Standing.{IsAt, schemas_of}
use Rattle.elements.specs.declared.element.Element.{Element}
use Rattle.enabled_events.specs.Moments.{IsLinked, Moment}

-- an element is in its state, and has poured its tuples
pub record ElementAt {R : Type 0} (spec : R → Operator) (stands : R → List Event → Type 0) (m : Moment) (e : ℕ)
    (x : Element R) : Type 0 where
  pub at : IsAt spec stands (m.net.part e) x (m.state e) (m.poured e)
  pub schemas : schemas_of x ≡ m.schemas e

-- so is each element
pub record ElementsAt {R : Type 0} (spec : R → Operator) (stands : R → List Event → Type 0) (m : Moment)
    (elements : List (Element R)) : Type 0 where
  pub count : length elements ≡ m.net.size
  pub each : (e : ℕ) (x : Element R) → slice_get elements e ≡ Some x → ElementAt spec stands m e x

-- the links are those of the network, and on each waits what was pushed there and not popped
pub record LinksAt (m : Moment) (links : Links) : Type 0 where
  pub count : length links.ends ≡ m.net.links
  pub room : length links.waiting ≡ m.net.links
  pub ends : (l : ℕ) (x : ShapeLink) → slice_get links.ends l ≡ Some x → x ≡ m.net.link l
  pub size : links.elements ≡ m.net.size
  pub capacity : links.capacity ≡ m.net.capacity
  pub waits : (l : ℕ) → l < m.net.links → pushed_on m.net m.state l ≡ popped_from m.net m.state l ++ waits_on links l

-- elements and links, of which there are few enough that each event has a number
pub record PartsAt {R : Type 0} (spec : R → Operator) (stands : R → List Event → Type 0) (m : Moment)
    (elements : List (Element R)) (links : Links) : Type 0 where
  pub linked : IsLinked m.net
  pub few : m.net.size + m.net.links + m.net.links + 1 < 2 ^ 32
  pub elements_at : ElementsAt spec stands m elements
  pub links_at : LinksAt m links

-- Marks of the events that are enabled.
use Rattle.std.specs.Prelude.{◌≡◌, ◌<◌, ◌+◌, ◌⊎◌, ℕ, Bool, true, List, length, is_some, slice_get, Some}
use Rattle.network_model.specs.Networks.{Net}
use Rattle.network_model.specs.Picking.{Choice, PopAt, PushAt, ReadAt, front_for, may_happen}
use Rattle.network_model.specs.States.{State}

-- the place of an event among all: reads by element, then pops by link, then pushes by link
abbrev pub place_of : Net → Choice → ℕ
place_of net (ReadAt e) = e
place_of net (PopAt l) = net.size + l
place_of net (PushAt l) = net.size + net.links + l

-- an event of a network
abbrev pub IsEvent : Net → Choice → Type 0
IsEvent net (ReadAt e) = e < net.size
IsEvent net (PopAt l) = l < net.links
IsEvent net (PushAt l) = l < net.links

-- it is marked exactly where it is enabled
abbrev pub IsRight : Net → State → List Bool → Choice → Type 0
IsRight net st marks choice = slice_get marks (place_of net choice) ≡ Some (may_happen net st choice)

-- so is each of them
pub record MarksAt (net : Net) (st : State) (marks : List Bool) : Type 0 where
  pub count : length marks ≡ net.size + net.links + net.links
  pub each : (choice : Choice) → IsEvent net choice → IsRight net st marks choice

-- marks are made right, and the others stay
pub record AreRighted (net : Net) (st : State) (old new : List Bool) : Type 0 where
  pub count : length new ≡ length old
  pub each : (choice : Choice) → IsEvent net choice
      → IsRight net st new choice ⊎ (slice_get new (place_of net choice) ≡ slice_get old (place_of net choice))

-- an element and an output of it: the element owes first a packet for that output
abbrev pub IsFront : State → ℕ → ℕ → Type 0
IsFront st e output = is_some (front_for output (st e).outbox) ≡ true

-- the marks of all that an element may read, pop and push
pub record IsRefreshed (net : Net) (st : State) (e : ℕ) (old new : List Bool) : Type 0 where
  pub righted : AreRighted net st old new
  pub reads : IsRight net st new (ReadAt e)
  pub pops : (l : ℕ) → l < net.links → (net.link l).to ≡ e → IsRight net st new (PopAt l)
  pub pushes : (l : ℕ) → l < net.links → (net.link l).from ≡ e → IsFront st e (net.link l).output
      → IsRight net st new (PushAt l)

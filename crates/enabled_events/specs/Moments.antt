-- A network at a moment.
use Rattle.std.specs.Prelude.{◌≡◌, ◌<◌, ℕ, List}
use Rattle.spl_value.specs.declared.value.Value.{Value}
use Rattle.language_model.specs.StreamTypes.{Attributes}
use Rattle.network_model.specs.Networks.{Net, inputs, outputs}
use Rattle.network_model.specs.States.{State}

-- a network with the attributes at each input of each element, the state of each element, and the tuples that each has
-- poured
pub record Moment : Type 0 where
  pub net : Net
  pub schemas : ℕ → List Attributes
  pub state : State
  pub poured : ℕ → List (List Value)

-- the same network in another state
abbrev pub moved : Moment → State → Moment
moved m st = record { net = m.net; schemas = m.schemas; state = st; poured = m.poured }

-- each link leads from an output of an element to an input of one, no two from the same output or to the same input
pub record IsLinked (net : Net) : Type 0 where
  pub from : (l : ℕ) → l < net.links → (net.link l).from < net.size
  pub to : (l : ℕ) → l < net.links → (net.link l).to < net.size
  pub output : (l : ℕ) → l < net.links → (net.link l).output < outputs (net.part (net.link l).from)
  pub input : (l : ℕ) → l < net.links → (net.link l).input < inputs (net.part (net.link l).to)
  pub one_output : (l k : ℕ) → l < net.links → k < net.links → (net.link l).from ≡ (net.link k).from
      → (net.link l).output ≡ (net.link k).output → l ≡ k
  pub one_input : (l k : ℕ) → l < net.links → k < net.links → (net.link l).to ≡ (net.link k).to
      → (net.link l).input ≡ (net.link k).input → l ≡ k

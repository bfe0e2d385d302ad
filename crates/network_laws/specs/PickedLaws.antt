-- Laws of the events that are enabled, by their numbers, and of the picked ones.
use Rattle.std.specs.Prelude.{ℕ, ◌<◌, ◌≡◌, true, [], length, map, Some, slice_get}
use Rattle.stream_model.specs.Stream.{is_closed}
use Rattle.stream_model.specs.Meaning.{Lists}
use Rattle.network_model.specs.Networks.{Net, is_sourced}
use Rattle.network_model.specs.Events.{NetEvent, Happens}
use Rattle.network_model.specs.States.{State, begin, reached}
use Rattle.network_model.specs.Legal.{Enabled, Legal}
use Rattle.network_model.specs.Picking.{Choice, choice_of, enabled_choices, event_at, IsNext, picked}

-- an enabled event is among the enabled ones, by its number
abbrev pub EnabledLaw : Type 0
EnabledLaw = (net : Net) (st : State) (event : NetEvent) → Enabled net st event
    → (n : ℕ) × (slice_get (enabled_choices net st) n ≡ Some (choice_of event))

-- and each of these is enabled, with what it takes or gives
abbrev pub ChosenLaw : Type 0
ChosenLaw = (net : Net) (st : State) (n : ℕ) (choice : Choice) → slice_get (enabled_choices net st) n ≡ Some choice
    → (event : NetEvent) × (choice_of event ≡ choice) × Enabled net st event

-- with rows, what it takes or gives is the event at that choice
abbrev pub EventLaw : Type 0
EventLaw = (net : Net) (rows : Lists) (st : State) (event : NetEvent) → Enabled net st event → IsNext rows st event
    → event_at net rows st (choice_of event) ≡ Some event

-- where there is none among them, none is enabled
abbrev pub NoneLaw : Type 0
NoneLaw = (net : Net) (st : State) (event : NetEvent) → enabled_choices net st ≡ [] → Enabled net st event → ⊥

-- what is picked is legal
abbrev pub PickedLaw : Type 0
PickedLaw = (net : Net) (rows : Lists) (x n : ℕ) → Legal net begin (map Happens (picked net rows x n))

-- and where the rows of each source are closed, there are fewer than n only where none is enabled behind them
abbrev pub ShortLaw : Type 0
ShortLaw = (net : Net) (rows : Lists) (x n : ℕ)
    → ((e : ℕ) → e < net.size → is_sourced (net.part e) ≡ true → is_closed (rows e) ≡ true)
    → length (picked net rows x n) < n → enabled_choices net (reached net (map Happens (picked net rows x n))) ≡ []

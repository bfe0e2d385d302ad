-- What waits to be put on the outputs of an element, and the outputs of each port.
use Rattle.std.specs.Prelude.{ℕ, ◌+◌, ◌≡◌, List, [], ◌∷◌, ◌++◌, flat_map, None}
use Rattle.std.specs.Option.{option_to_list}
use Rattle.language_model.specs.declared.outs.Output.{Output}
use Rattle.language_model.specs.Numbering.{numbers_from}
use Rattle.stream_model.specs.declared.outgoing.Outgoing.{Outgoing}
use Rattle.stream_model.specs.Fans.{fans_out}
use Rattle.element_outboxes.specs.declared.fan.Fan.{Fan}
use Rattle.element_outboxes.specs.declared.outbox.Outbox.{Outbox}

-- the packets that wait, in their order
abbrev pub waits : Outbox → List Outgoing
waits outbox = option_to_list outbox.front ++ outbox.queue.items

-- the place of the first one is free, so that a packet can be given back
abbrev pub IsFree : Outbox → Type 0
IsFree outbox = outbox.front ≡ None

-- the outputs of a port
abbrev pub fan_outputs : Fan → List ℕ
fan_outputs fan = numbers_from fan.first fan.count

-- those of each port, by the number of its connections, from an output on
abbrev pub fans_from : ℕ → List ℕ → List Fan
fans_from first [] = []
fans_from first (n ∷ counts) = record { first = first; count = n } ∷ fans_from (first + n) counts

-- the number of all outputs
abbrev pub outputs_in : List ℕ → ℕ
outputs_in [] = 0
outputs_in (n ∷ counts) = n + outputs_in counts

-- what is sent for all that the last operator of an element gives
abbrev pub all_out : List ℕ → List Output → List Outgoing
all_out counts outs = flat_map (fans_out counts) outs

-- The outputs of an element by the number of connections of each output port: outputs are numbered by port and then by
-- connection.
use Prim.Native.Nat.{zero, suc}
use Rattle.std.specs.Prelude.{ℕ, ◌+◌, List, [], ◌∷◌, ◌++◌, map, replicate, if◌then◌else◌}
use Rattle.spl_value.specs.declared.packet.Packet.{Packet}
use Rattle.spl_value.specs.declared.packet.Packet.TheVariants as P
use Rattle.language_model.specs.declared.outs.Output.{Output}
use Rattle.language_model.specs.Numbering.{numbers_from}
use Rattle.spl_value.specs.Numbered.{closes}
use Rattle.stream_model.specs.declared.outgoing.Outgoing.{Outgoing}
use Rattle.stream_model.specs.Sending.{outgoing}

-- the port of each output, for ports from p on
abbrev pub fan_ports_from : ℕ → List ℕ → List ℕ
fan_ports_from p [] = []
fan_ports_from p (n ∷ fans) = replicate n p ++ fan_ports_from (suc p) fans

abbrev pub ports_of_fans : List ℕ → List ℕ
ports_of_fans fans = fan_ports_from 0 fans

-- the outputs of a port, counted from o
abbrev pub outputs_from : ℕ → List ℕ → ℕ → List ℕ
outputs_from o [] port = []
outputs_from o (n ∷ fans) zero = numbers_from o n
outputs_from o (n ∷ fans) (suc port) = outputs_from (o + n) fans port

abbrev pub outputs_of_port : List ℕ → ℕ → List ℕ
outputs_of_port fans port = outputs_from 0 fans port

-- a packet on each of some outputs
abbrev pub on_outputs : List ℕ → Packet → List Outgoing
on_outputs outputs packet = map (λ o. outgoing o packet) outputs

-- an item goes to each output of its port, and where it closes the stream, `Close` follows on each
abbrev pub fans_out : List ℕ → Output → List Outgoing
fans_out fans given =
    on_outputs (outputs_of_port fans given.port) (P.Item 0 given.item)
    ++ (if closes given.item then on_outputs (outputs_of_port fans given.port) P.Close else [])

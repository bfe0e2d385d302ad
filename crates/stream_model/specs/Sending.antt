-- What the splitter of a region and its replicas send. A splitter numbers the items that enter the region, and has an
-- output for each channel. A replica gives what its operators cause, under the number of the cause.
use Rattle.std.specs.Prelude.{ℕ, zero, suc, ◌%◌, ◌==◌, ◌&&◌, Bool, List, [], ◌∷◌, ◌++◌, map, if◌then◌else◌}
use Rattle.spl_value.specs.declared.item.Item.{Item}
use Rattle.spl_value.specs.declared.packet.Packet.{Packet}
use Rattle.spl_value.specs.declared.packet.Packet.TheVariants as P
use Rattle.spl_value.specs.declared.routing.Routing.{Routing}
use Rattle.spl_value.specs.Numbered.{closes}
use Rattle.spl_value.specs.Route.{route}
use Rattle.stream_model.specs.declared.outgoing.Outgoing.{Outgoing}
use Rattle.stream_model.specs.Stages.{Stage, gives_all, stage_after, on_port}
use Rattle.stream_model.specs.Stream.{came}

abbrev pub outgoing : ℕ → Packet → Outgoing
outgoing output packet = record { output = output; packet = packet }

-- the packets for an output
abbrev pub on_output : ℕ → List Outgoing → List Packet
on_output o [] = []
on_output o (sent ∷ more) = if sent.output == o then sent.packet ∷ on_output o more else on_output o more

-- a packet for each output below the width
abbrev pub to_each : ℕ → Packet → List Outgoing
to_each zero packet = []
to_each (suc width) packet = to_each width packet ++ outgoing width packet ∷ []

-- ---- splitters

-- the items, numbered from n on, each to its channel; with pulses, after every 16 items a pulse to each channel, with
-- the number of items sent; and after the item that closes the stream `Close` to each channel
abbrev pub splits : Routing → ℕ → Bool → ℕ → List Item → List Outgoing
splits routing width pulses n [] = []
splits routing width pulses n (x ∷ items) =
    outgoing (route routing width n x) (P.Item n x)
    ∷ ((if pulses && (suc n % 16 == 0) then to_each width (P.Pulse (suc n)) else [])
    ++ (if closes x then to_each width P.Close else splits routing width pulses (suc n) items))

-- ---- replicas

-- what stages, each of which takes what the one before it gives, give for items
abbrev pub stages_give : List Stage → List Item → List Item
stages_give [] items = items
stages_give (s ∷ stages) items = stages_give stages (on_port 0 (gives_all s (map (came 0) items)))

-- where they stand then
abbrev pub stages_after : List Stage → List Item → List Stage
stages_after [] items = []
stages_after (s ∷ stages) items =
    stage_after s (map (came 0) items) ∷ stages_after stages (on_port 0 (gives_all s (map (came 0) items)))

-- what a replica sends for packets: for an item what its stages give for it, under the item's number, and pulses and
-- `Close` as they come
abbrev pub replies : List Stage → List Packet → List Packet
replies stages [] = []
replies stages (P.Item n x ∷ packets) =
    map (P.Item n) (stages_give stages (x ∷ [])) ++ replies (stages_after stages (x ∷ [])) packets
replies stages (P.Pulse n ∷ packets) = P.Pulse n ∷ replies stages packets
replies stages (P.Close ∷ packets) = P.Close ∷ replies stages packets
replies stages (P.Cut ∷ packets) = replies stages packets

-- What an element tells when it is done, for what it has taken, put and poured.
use Rattle.std.specs.Prelude.{ℕ, ◌≡◌, ◌==◌, ◌-◌, ◌^◌, nat_lt, min, not, Bool, false, List, [], ◌∷◌, map, filter, length, Option, None, Some, if◌then◌else◌}
use Rattle.std.specs.List.{list_any}
use Rattle.std.specs.Option.{option_map_or}
use Rattle.spl_value.specs.declared.value.Value.{Value}
use Rattle.language_model.specs.declared.outs.Output.{Output}
use Rattle.language_model.specs.Numbering.{numbers_from}
use Rattle.stream_model.specs.Bodies.{output}
use Rattle.stream_model.specs.Chains.{onward}
use Rattle.stream_model.specs.Ends.{end_from}
use Rattle.stream_model.specs.Operators.{Operator, ports}
use Rattle.stream_model.specs.Sending.{on_output}
use Rattle.stream_model.specs.Stages.{start, gives_all}
use Rattle.stream_model.specs.declared.outgoing.Outgoing.{Outgoing}
use Rattle.network_model.specs.Adds.{merged_for}
use Rattle.network_model.specs.Networks.{Part, FromSource, FromLinks, Splitter, Replica, Merger, last_of, outputs}
use Rattle.network_model.specs.Owed.{entries_of}
use Rattle.network_model.specs.Packets.{items_in}
use Rattle.network_model.specs.Receipts.{Receipt, item_events, read_in}
use Rattle.operator_chains.specs.declared.how.How.{How}
use Rattle.operator_chains.specs.declared.how.How.TheVariants as H
use Rattle.operator_chains.specs.Hows.{how_by, stream_how}
use Rattle.element_notes.specs.declared.ending.End.{End}
use Rattle.element_notes.specs.declared.ending.Ending.{Ending}

-- ---- the record

-- an element whose arrivals are recorded: a chain whose first operator reads several connections
abbrev pub is_recorded : Part → Bool
is_recorded (FromSource source ops outs) = false
is_recorded (FromLinks op ops outs) = nat_lt 1 (length (ports op))
is_recorded (Splitter region) = false
is_recorded (Replica region channel) = false
is_recorded (Merger region outs) = false

abbrev pub arrivals_of : Part → List Receipt → List ℕ
arrivals_of part receipts = if is_recorded part then entries_of part receipts else []

-- ---- the ends

-- how the last of some operators one behind the other ends, for what the operator or the stream before them gives, which
-- ends so itself
abbrev pub how_passed : How → List Operator → List Output → How
how_passed how [] outs = how
how_passed how (op ∷ ops) outs =
    how_passed (how_by (end_from (start op) (onward outs))) ops (gives_all (start op) (onward outs))

-- how the last operator of a chain ends for what the chain has taken; a source alone ends as its stream does, and a merger
-- as the stream that it merges
abbrev pub how_ended : Part → List Receipt → How
how_ended (FromSource source ops outs) receipts =
    how_passed (stream_how (read_in receipts)) ops (map (output 0) (read_in receipts))
how_ended (FromLinks op ops outs) receipts =
    how_passed (how_by (end_from (start op) (item_events receipts))) ops (gives_all (start op) (item_events receipts))
how_ended (Splitter region) receipts = H.Live
how_ended (Replica region channel) receipts = H.Live
how_ended (Merger region outs) receipts = stream_how (merged_for region receipts)

-- the operator whose ends are those of an element: the last of a chain, and the last of a region for its merger
abbrev pub last_in : List Operator → Option Operator
last_in [] = None
last_in (op ∷ ops) = Some (last_of op ops)

abbrev pub last_operator : Part → Option Operator
last_operator (FromSource source ops outs) = Some (last_of source ops)
last_operator (FromLinks op ops outs) = Some (last_of op ops)
last_operator (Splitter region) = None
last_operator (Replica region channel) = None
last_operator (Merger region outs) = last_in region.ops

-- the port of that operator whose stream each output carries
abbrev pub ports_out : Part → List ℕ
ports_out (FromSource source ops outs) = outs
ports_out (FromLinks op ops outs) = outs
ports_out (Splitter region) = []
ports_out (Replica region channel) = []
ports_out (Merger region outs) = outs

-- of so many ports those whose stream no output carries
abbrev pub unread_ports : List ℕ → ℕ → List ℕ
unread_ports outs count = filter (λ p. not (list_any (λ q. q == p) outs)) (numbers_from 0 count)

-- an operator without output ports is an end, under port 0; else each port is one whose stream nobody reads
abbrev pub end_ports : List ℕ → List ℕ → List ℕ
end_ports [] outs = 0 ∷ []
end_ports (s ∷ streams) outs = unread_ports outs (length (s ∷ streams))

-- the ends of an element, each of which stands so
abbrev pub ends_as : Part → How → List End
ends_as part how =
    option_map_or (λ (op : Operator). map (λ p. record { op = op.number; port = p; how = how })
    (end_ports op.outs (ports_out part))) (last_operator part) []

abbrev pub ends_of : Part → List Receipt → List End
ends_of part receipts = ends_as part (how_ended part receipts)

-- ---- counts

-- how many items were put on an output; counts stand still at their greatest number
abbrev pub sent_on : ℕ → List Outgoing → ℕ
sent_on o pushed = min (length (items_in (on_output o pushed))) (2 ^ 64 - 1)

-- on each of them
abbrev pub sent_of : Part → List Outgoing → List ℕ
sent_of part pushed = map (λ o. sent_on o pushed) (numbers_from 0 (outputs part))

-- how many tuples were poured
abbrev pub poured_count : List (List Value) → ℕ
poured_count poured = min (length poured) (2 ^ 64 - 1)

-- ---- all of it

-- what an element tells that has taken, put and poured this
pub record IsEnding (part : Part) (kept : List Receipt) (pushed : List Outgoing) (poured : List (List Value)) (cut : Bool)
    (ending : Ending) : Type 0 where
  pub arrivals : ending.arrivals ≡ arrivals_of part kept
  pub ends : ending.ends ≡ ends_of part kept
  pub sent : ending.sent ≡ sent_of part pushed
  pub tuples : ending.tuples ≡ poured_count poured
  pub was_cut : ending.cut ≡ cut

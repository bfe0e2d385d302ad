-- Laws of streams, operators and graphs.
use Rattle.std.specs.Prelude.{ℕ, ◌+◌, ◌<◌, ◌≤◌, ◌==◌, nat_lt, ◌&&◌, not, Bool, true, false, List, [], ◌∷◌, ◌++◌, ◌≡◌, ◌⊎◌, map, length, reverse, slice_get, Option, Some, None, position, is_some, if◌then◌else◌}
use Rattle.std.specs.List.{concat, count_by, filter_map, flat_map, list_all, list_any, All}
use Rattle.spl_value.specs.declared.item.Item.{Item}
use Rattle.spl_value.specs.declared.item.Item.TheVariants as I
use Rattle.spl_value.specs.declared.item.FaultKind.{FaultKind}
use Rattle.spl_value.specs.declared.item.FaultKind.TheVariants as K
use Rattle.spl_value.specs.declared.value.Value.{Value}
use Rattle.language_model.specs.declared.checked.CheckedClauses.{CheckedClauses}
use Rattle.language_model.specs.declared.checked.CheckedClauses.TheVariants as A
use Rattle.language_model.specs.declared.outs.Output.{Output}
use Rattle.stream_model.specs.Stream.{Event, came, is_final, is_fault, any_closes, is_closed, IsPrefix}
use Rattle.spl_value.specs.Numbered.{closes}
use Rattle.stream_model.specs.Operators.{Operator, ports, connections}
use Rattle.stream_model.specs.React.{react, body, ended, Gives, Faults}
use Rattle.stream_model.specs.Replies.{is_live}
use Rattle.stream_model.specs.Stages.{start, stage_after, out, on_port, chain}
use Rattle.spl_value.specs.Script.{Ending, End, Failed}
use Rattle.stream_model.specs.Rows.{Setting, Given, Row, Nothing, Bad, line_gives, rows}
use Rattle.stream_model.specs.parts.Rows.{pieces}
use Rattle.stream_model.specs.Meaning.{Graph, Lists, Entries, meaning, makes, events_of, in_topo}

abbrev pub has_ended : Operator → List Event → Bool
has_ended op events = (stage_after (start op) events).over

-- with no event, nothing is given and the operator hasn't ended
abbrev pub StartLaw : Type 0
StartLaw = (op : Operator) → ((p : ℕ) → out op p [] ≡ []) × (has_ended op [] ≡ false)

-- while the operator hasn't ended, one event more adds at the end what it causes after all before it; afterwards it
-- adds nothing
abbrev pub HistoryLaw : Type 0
HistoryLaw = (op : Operator) (p : ℕ) (events : List Event) (e : Event) →
    (has_ended op events ≡ false → out op p (events ++ e ∷ []) ≡ out op p events ++ on_port p (react op (reverse events) e))
    × (has_ended op events ≡ true → out op p (events ++ e ∷ []) ≡ out op p events)

-- an operator that hasn't ended ends with an event that ends it after all before it, and stays ended
abbrev pub EndLaw : Type 0
EndLaw = (op : Operator) (events : List Event) (e : Event) →
    has_ended op (events ++ e ∷ []) ≡ (if has_ended op events then true else is_some (ended op (reverse events) e))

-- an operator hasn't ended after a history exactly where it hasn't after its events in their order
abbrev pub LiveLaw : Type 0
LiveLaw = (op : Operator) (h : List Event) → is_live op h ≡ not (has_ended op (reverse h))

-- an operator ends with a final marker, with a fault that came, or with its body's own fault
abbrev pub EndItemLaw : Type 0
EndItemLaw = (op : Operator) (earlier : List Event) (e : Event) (x : Item) → ended op earlier e ≡ Some x →
    (x ≡ I.Final)
    ⊎ (((x ≡ e.item) × (is_fault x ≡ true))
    ⊎ ((kind : FaultKind) × (body op earlier e ≡ Faults kind) × (x ≡ I.Bad (record { op = op.number; kind = kind; line = 0 }))))

-- where an operator ends at an event, the item with which it ends is the last that the event gives on each output port, and
-- no other one closes; where it doesn't end, none does
abbrev pub EndGivesLaw : Type 0
EndGivesLaw = (op : Operator) (p : ℕ) (earlier : List Event) (e : Event) → p < length op.outs →
    ((x : Item) → ended op earlier e ≡ Some x → (front : List Item) × (on_port p (react op earlier e) ≡ front ++ x ∷ []) × (any_closes front ≡ false))
    × (ended op earlier e ≡ None → any_closes (on_port p (react op earlier e)) ≡ false)

-- a final marker on an input gives nothing and doesn't end the operator while another input of the same port has had none
abbrev pub WaitLaw : Type 0
WaitLaw = (op : Operator) (i j p : ℕ) (earlier : List Event) → slice_get (ports op) i ≡ Some p → slice_get (ports op) j ≡ Some p
    → (i ≡ j → ⊥) → list_any (λ e. (e.input == j) && is_final e.item) earlier ≡ false
    → (react op earlier (came i I.Final) ≡ []) × (ended op earlier (came i I.Final) ≡ None)

-- the inputs are numbered by port and then by place within the port: the port of an input is the number of the ports before it
abbrev pub PortsLaw : Type 0
PortsLaw = (op : Operator) (before after : List (List ℕ)) (streams : List ℕ) (k : ℕ) → op.ins ≡ before ++ streams ∷ after → k < length streams
    → slice_get (ports op) (length (concat before) + k) ≡ Some (length before)

-- more events give more
abbrev pub OutGrows : Type 0
OutGrows = (op : Operator) (p : ℕ) (some all : List Event) → IsPrefix some all → IsPrefix (out op p some) (out op p all)

abbrev pub ChainGrows : Type 0
ChainGrows = (ops : List Operator) (some all : List Item) → IsPrefix some all → IsPrefix (chain ops some) (chain ops all)

-- what is given on an output port is closed exactly where the operator has ended
abbrev pub OutCloses : Type 0
OutCloses = (op : Operator) (p : ℕ) (events : List Event) → p < length op.outs → is_closed (out op p events) ≡ has_ended op events

-- a closed stream ends an operator that reads it by its one connection
abbrev pub ClosedEnds : Type 0
ClosedEnds = (op : Operator) (s : ℕ) (items : List Item) → op.ins ≡ (s ∷ []) ∷ [] → is_closed items ≡ true → has_ended op (map (came 0) items) ≡ true

-- so what it gives on an output port is closed
abbrev pub ClosedGivesClosed : Type 0
ClosedGivesClosed = (op : Operator) (s p : ℕ) (items : List Item) → op.ins ≡ (s ∷ []) ∷ [] → p < length op.outs → is_closed items ≡ true
    → is_closed (out op p (map (came 0) items)) ≡ true

-- a body gives neither a final marker nor a fault
abbrev pub BodyLaw : Type 0
BodyLaw = (op : Operator) (earlier : List Event) (e : Event) (outs : List Output) → body op earlier e ≡ Gives outs
    → list_any (λ o. closes o.item) outs ≡ false

-- a Custom picks the ports of its submits by itself
abbrev pub is_custom : CheckedClauses → Bool
is_custom (A.Custom handlers) = true
is_custom _ = false

-- the body of every other operator with output ports gives on these alone
abbrev pub BodyPorts : Type 0
BodyPorts = (op : Operator) (earlier : List Event) (e : Event) (outs : List Output) → is_custom op.clauses ≡ false → 0 < length op.outs
    → body op earlier e ≡ Gives outs → list_all (λ o. nat_lt o.port (length op.outs)) outs ≡ true

-- and that of a sink on port 0, as which its writer stands
abbrev pub SinkPorts : Type 0
SinkPorts = (op : Operator) (file : List ℕ) (earlier : List Event) (e : Event) (outs : List Output) → op.clauses ≡ A.FileSink file
    → body op earlier e ≡ Gives outs → list_all (λ o. o.port == 0) outs ≡ true

abbrev pub makes_stream : Operator → ℕ → Bool
makes_stream op s = list_any (λ o. o == s) op.outs

abbrev pub reads_stream : Operator → ℕ → Bool
reads_stream op s = list_any (λ i. i == s) (connections op)

-- one of the operators makes the stream
abbrev pub is_made : List Operator → ℕ → Bool
is_made ops s = list_any (λ op. makes_stream op s) ops

-- no stream is made by two operators, and none is read by its maker or by an operator before it
pub record IsOrdered (ops : List Operator) : Type 0 where
  pub once : (before after : List Operator) (op : Operator) (s : ℕ) → ops ≡ before ++ op ∷ after → makes_stream op s ≡ true → is_made after s ≡ false
  pub forward : (before after : List Operator) (op : Operator) (s : ℕ) → ops ≡ before ++ op ∷ after → reads_stream op s ≡ true → is_made (op ∷ after) s ≡ false

-- in an ordered graph the stream at each port of an operator is what the operator makes of the streams of the graph
abbrev pub GraphLaw : Type 0
GraphLaw = (g : Graph) (rows : Lists) (entries : Entries) (before after : List Operator) (op : Operator) (p s : ℕ) →
    IsOrdered (in_topo g) → in_topo g ≡ before ++ op ∷ after → position (λ o. o == s) op.outs ≡ Some p
    → (meaning g rows entries).streams s ≡ makes op p (meaning g rows entries).streams rows entries

-- the number of each operator is its place in the order of declaration
abbrev pub IsNumbered : Graph → Type 0
IsNumbered g = (n : ℕ) (op : Operator) → slice_get g.ops n ≡ Some op → op.number ≡ n

-- then the events of an operator are those of the streams of the graph at its inputs, under the operator's own record
abbrev pub EventsLaw : Type 0
EventsLaw = (g : Graph) (rows : Lists) (entries : Entries) (op : Operator) (n : ℕ) → IsNumbered g → slice_get g.ops n ≡ Some op
    → (meaning g rows entries).events op.number ≡ events_of op (meaning g rows entries).streams (entries op.number)

-- so they are of one that stands in the topological order
abbrev pub TopoEventsLaw : Type 0
TopoEventsLaw = (g : Graph) (rows : Lists) (entries : Entries) (before after : List Operator) (op : Operator) →
    IsNumbered g → in_topo g ≡ before ++ op ∷ after
    → (meaning g rows entries).events op.number ≡ events_of op (meaning g rows entries).streams (entries op.number)

-- the rows of a file end with a final marker or a fault, and nothing follows it
abbrev pub RowsClose : Type 0
RowsClose = (o : Setting) (bytes : List ℕ) (ending : Ending) → is_closed (rows o bytes ending) ≡ true

-- all pieces but the last
abbrev pub but_last : List (List ℕ) → List (List ℕ)
but_last [] = []
but_last (piece ∷ []) = []
but_last (piece ∷ next ∷ rest) = piece ∷ but_last (next ∷ rest)

abbrev pub unless_empty : List ℕ → List (List ℕ)
unless_empty [] = []
unless_empty (b ∷ bytes) = (b ∷ bytes) ∷ []

-- all pieces but a last one that is empty
abbrev pub but_empty_last : List (List ℕ) → List (List ℕ)
but_empty_last [] = []
but_empty_last (piece ∷ []) = unless_empty piece
but_empty_last (piece ∷ next ∷ rest) = piece ∷ but_empty_last (next ∷ rest)

-- the lines of a file, and those of them that a line feed ends
abbrev pub lines : List ℕ → List (List ℕ)
lines bytes = but_empty_last (pieces bytes)

abbrev pub ended_lines : List ℕ → List (List ℕ)
ended_lines bytes = but_last (pieces bytes)

-- the values of a row
abbrev pub row_of : Given → Option (List Value)
row_of (Row values) = Some values
row_of Nothing = None
row_of Bad = None

abbrev pub is_bad : Given → Bool
is_bad (Row values) = false
is_bad Nothing = false
is_bad Bad = true

-- the tuples of those lines that give a row, in their order
abbrev pub tuples : Setting → List (List ℕ) → List Item
tuples o all = map I.Tuple (filter_map (λ line. row_of (line_gives o.schema line)) all)

-- a bad line is a fault, and one of these lines is bad
abbrev pub any_bad : Setting → List (List ℕ) → Bool
any_bad o all = o.strict && list_any (λ line. is_bad (line_gives o.schema line)) all

-- no line has more than 65,536 bytes, and the file has no more than its limit
pub record IsWithin (o : Setting) (bytes : List ℕ) : Type 0 where
  pub each : All (λ piece. length piece ≤ 65536) (pieces bytes)
  pub file : length bytes ≤ o.limit

-- lines with a line feed after each, and a last piece with none, are the pieces of the whole
abbrev pub PiecesLaw : Type 0
PiecesLaw = (ended : List (List ℕ)) (last : List ℕ) → All (λ line. list_any (λ b. b == 10) line ≡ false) (ended ++ last ∷ [])
    → pieces (flat_map (λ line. line ++ 10 ∷ []) ended ++ last) ≡ ended ++ last ∷ []

-- a file with no fault gives a tuple for each row, in the order of the lines, and then a window marker and the final marker
abbrev pub RowsLaw : Type 0
RowsLaw = (o : Setting) (bytes : List ℕ) → IsWithin o bytes → any_bad o (lines bytes) ≡ false
    → rows o bytes End ≡ tuples o (lines bytes) ++ I.Window ∷ I.Final ∷ []

-- where a read failed after such bytes, the rows of the lines that a line feed ends, and then the fault, at the next line
abbrev pub FailedRowsLaw : Type 0
FailedRowsLaw = (o : Setting) (bytes : List ℕ) → IsWithin o bytes → any_bad o (ended_lines bytes) ≡ false
    → rows o bytes Failed ≡ tuples o (ended_lines bytes) ++ I.Bad (record { op = o.op; kind = K.ReadFailed; line = 1 + count_by (λ b. b == 10) bytes }) ∷ []

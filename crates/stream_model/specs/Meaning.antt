-- What a graph of operators means on one thread: the events of every operator and the list of every stream.
use Prim.Native.Nat.{zero, suc}
use Rattle.std.specs.Prelude.{ℕ, ◌^◌, Bool, ◌==◌, List, [], ◌∷◌, map, reverse, position, slice_get, if◌then◌else◌}
use Rattle.std.specs.List.{filter_map}
use Rattle.std.specs.Option.{option_map_or}
use Rattle.spl_value.specs.declared.item.Item.{Item}
use Rattle.stream_model.specs.Stream.{Event, came}
use Rattle.spl_value.specs.Script.{Script}
use Rattle.language_model.specs.declared.checked.CheckedClauses.{CheckedClauses}
use Rattle.language_model.specs.declared.checked.CheckedClauses.TheVariants as A
use Rattle.stream_model.specs.Operators.{Operator, connections, output_attributes}
use Rattle.stream_model.specs.Stages.{out}
use Rattle.stream_model.specs.Rows.{rows, text_of}

-- the operators in order of declaration, and their numbers in topological order
pub record Graph : Type 0 where
  pub ops : List Operator
  pub topo : List ℕ

-- a list for each input, by its number
abbrev pub Lists : Type 0
Lists = ℕ → List Item

-- the entries of each operator's record, by its number: inputs, in the order in which items came on them
abbrev pub Entries : Type 0
Entries = ℕ → List ℕ

-- an event of the first item of an input's list, and what comes after it
abbrev pub taking : ℕ → List Item → (List Item → List Event) → List Event
taking i [] behind = []
taking i (x ∷ items) behind = came i x ∷ behind items

-- the events that the entries of a record take, each the next item of the list that it names, as far as each named list
-- has one
abbrev pub arrive : Lists → List ℕ → List Event
arrive lists [] = []
arrive lists (i ∷ entries) = taking i (lists i) (λ items. arrive (λ j. if j == i then items else lists j) entries)

-- the list of the stream at each input; none past the last one
abbrev pub lists_at : Lists → List ℕ → Lists
lists_at streams [] i = []
lists_at streams (s ∷ ss) zero = streams s
lists_at streams (s ∷ ss) (suc i) = lists_at streams ss i

-- the events of these connections: the one stream, or the arrival of several under a record
abbrev pub events_at : Lists → List ℕ → List ℕ → List Event
events_at streams [] entries = []
events_at streams (s ∷ []) entries = map (came 0) (streams s)
events_at streams (s ∷ t ∷ ss) entries = arrive (lists_at streams (s ∷ t ∷ ss)) entries

abbrev pub events_of : Operator → Lists → List ℕ → List Event
events_of op streams entries = events_at streams (connections op) entries

-- what an operator makes on a port: a source its rows, another what it gives for its events
abbrev pub made_by : CheckedClauses → Operator → ℕ → List Event → List Item → List Item
made_by (A.FileSource file strict) op p events rows = rows
made_by _ op p events rows = out op p events

-- what the operator makes of the streams, its rows and its record
abbrev pub makes : Operator → ℕ → Lists → Lists → Entries → List Item
makes op p streams rows entries = made_by op.clauses op p (events_of op streams (entries op.number)) (rows op.number)

-- the list of each stream, made by operators whose last is first
abbrev pub streams_of : List Operator → Lists → Entries → Lists
streams_of [] rows entries s = []
streams_of (op ∷ earlier) rows entries s =
    option_map_or (λ p. makes op p (streams_of earlier rows entries) rows entries)
    (position (λ o. o == s) op.outs) (streams_of earlier rows entries s)

pub record Meaning : Type 0 where
  pub streams : ℕ → List Item
  pub events : ℕ → List Event

abbrev pub in_topo : Graph → List Operator
in_topo g = filter_map (slice_get g.ops) g.topo

-- The meaning of a graph for the rows of each source and the arrival record of each operator with several connections,
-- both by the operator's number.
abbrev pub meaning : Graph → Lists → Entries → Meaning
meaning g rows entries = record {
  streams = streams_of (reverse (in_topo g)) rows entries;
  events =
      λ n. option_map_or (λ op. events_of op (streams_of (reverse (in_topo g)) rows entries) (entries n))
      (slice_get g.ops n) [];
}

-- the stream of a source, for what its reader gives, of at most 2^40 bytes; a bad row is a fault where the source is
-- strict
abbrev pub rows_of : Operator → Bool → Script → List Item
rows_of op strict script =
    rows (record {
      op = op.number;
      schema = output_attributes op 0;
      strict = strict;
      limit = 2 ^ 40;
    }) script.bytes script.ending

-- the text that a sink writes for its events, up to its end
abbrev pub text : Operator → List Event → List ℕ
text sink events = text_of (out sink 0 events)

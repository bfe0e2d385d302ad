-- What a run of a graph is given and gives: the rows of its sources, what its sinks get, and its arrival record and
-- counts.
use Rattle.std.specs.Prelude.{◌≡◌, ◌-◌, ◌^◌, ℕ, Bool, true, false, List, [], ◌∷◌, ◌++◌, map, length, min, Option, Some, slice_get}
use Rattle.std.specs.List.{Contains, filter_map}
use Rattle.std.specs.Option.{option_map, unwrap_or}
use Rattle.spl_value.specs.declared.item.Item.{Item}
use Rattle.language_model.specs.declared.checked.CheckedClauses.TheVariants as A
use Rattle.language_model.specs.Files.{sink_file}
use Rattle.stream_model.specs.declared.record.Arrivals.{Arrivals}
use Rattle.stream_model.specs.declared.record.Counts.{Counts}
use Rattle.stream_model.specs.declared.record.SinkCount.{SinkCount}
use Rattle.stream_model.specs.Arrivals.{entries_in, has_several, several}
use Rattle.stream_model.specs.Meaning.{Graph, Lists, Entries, Meaning, lists_at}
use Rattle.stream_model.specs.Operators.{Operator, connections, output_attributes}
use Rattle.stream_model.specs.Records.{is_whole}
use Rattle.stream_model.specs.Stages.{out}
use Rattle.stream_model.specs.Stream.{is_closed, TuplesFit}

-- ---- rows

-- the rows of each operator by its number; none past the last one
abbrev pub rows_at : List (List Item) → Lists
rows_at rows n = unwrap_or (slice_get rows n) []

-- there is a list for each operator, and that of a source is a closed stream of tuples of its attributes
pub record RowsFit (g : Graph) (rows : List (List Item)) : Type 0 where
  pub count : length rows ≡ length g.ops
  pub closed : (n : ℕ) (op : Operator) (file : List ℕ) (strict : Bool) → slice_get g.ops n ≡ Some op
      → op.clauses ≡ A.FileSource file strict → is_closed (rows_at rows n) ≡ true
  pub fit : (n : ℕ) (op : Operator) (file : List ℕ) (strict : Bool) → slice_get g.ops n ≡ Some op
      → op.clauses ≡ A.FileSource file strict → TuplesFit (output_attributes op 0) (rows_at rows n)

-- ---- what sinks get

-- what each operator without output ports gave its writer
pub record SinksGiven (g : Graph) (m : Meaning) (sinks : List (List Item)) : Type 0 where
  pub count : length sinks ≡ length g.ops
  pub given : (n : ℕ) (op : Operator) → slice_get g.ops n ≡ Some op → op.outs ≡ []
      → rows_at sinks n ≡ out op 0 (m.events op.number)

-- how many tuples a sink has, where the operator is one
abbrev pub sink_count : Meaning → Operator → Option SinkCount
sink_count m op =
    option_map (λ file. record { op = op.number; tuples = min (length (out op 0 (m.events op.number))) (2 ^ 64 - 1) })
    (sink_file op.clauses)

-- the counts of a run without replicas: the tuples of each sink, in the order of the operators
abbrev pub counts_of : Graph → Meaning → Counts
counts_of g m = record { channels = []; sinks = filter_map (sink_count m) g.ops }

-- ---- records

-- the record of an operator is whole for the streams that it reads
abbrev pub is_whole_at : Meaning → Entries → Operator → Bool
is_whole_at m entries op = is_whole op (lists_at m.streams (connections op)) (entries op.number)

-- that of each operator with several connections is
abbrev pub AreWhole : Graph → Meaning → Entries → Type 0
AreWhole g m entries = (n : ℕ) (op : Operator) → slice_get g.ops n ≡ Some op → has_several (connections op) ≡ true
    → is_whole_at m entries op ≡ true

-- the record has a list for each operator with several connections, and each is whole in this meaning
pub record IsRecordOf (g : Graph) (m : Meaning) (arrivals : Arrivals) : Type 0 where
  pub lists : map (λ l. l.op) arrivals.lists ≡ several g
  pub whole : AreWhole g m (entries_in arrivals.lists)

-- of the operators with several connections, the one with this number is the first in topological order whose record
-- isn't whole
pub record IsFirstNotWhole (g : Graph) (m : Meaning) (entries : Entries) (n : ℕ) : Type 0 where
  pub op : Operator
  pub there : slice_get g.ops n ≡ Some op
  pub several : has_several (connections op) ≡ true
  pub not_whole : is_whole_at m entries op ≡ false
  pub before : List ℕ
  pub behind : List ℕ
  pub order : g.topo ≡ before ++ n ∷ behind
  pub earlier : (k : ℕ) (o : Operator) → Contains before k → slice_get g.ops k ≡ Some o
      → has_several (connections o) ≡ true
      → is_whole_at m entries o ≡ true

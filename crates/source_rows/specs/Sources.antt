-- The rows of the sources of a checked graph, as a shelf tells their files.
use Rattle.std.specs.Prelude.{◌≡◌, ◌≢◌, ⊤, ℕ, Bool, true, false, List, [], Option, Some, IfSome, slice_get}
use Rattle.std.specs.List.{All, list_any}
use Rattle.std.specs.Option.{option_map_or}
use Rattle.spl_value.specs.Script.{Ending}
use Rattle.spl_value.specs.Script as S
use Rattle.spl_value.specs.declared.item.Item.{Item}
use Rattle.feed_pour.specs.Counts.{PerName, Rose}
use Rattle.feed_pour.specs.Contents.{Told}
use Rattle.language_model.specs.declared.checked.CheckedClauses.{CheckedClauses}
use Rattle.language_model.specs.declared.checked.CheckedClauses.TheVariants as A
use Rattle.language_model.specs.CheckedGraph.{CheckedGraph}
use Rattle.stream_model.specs.CheckedMeaning.{graph_of}
use Rattle.stream_model.specs.Meaning.{Graph, rows_of}
use Rattle.stream_model.specs.Operators.{Operator}
use Rattle.stream_model.specs.SourceFaults.{NamesOperator, is_read_fault}
use Rattle.stream_model.specs.Runs.{RowsFit, rows_at}
use Rattle.source_rows.specs.Counting.{OnlyOf, OnlyReads, OpeningFailed}
use Rattle.source_rows.specs.declared.sources.Sources.{Sources}
use Rattle.source_rows.specs.declared.sources.Sources.TheVariants as R

-- the rows of an operator's file, where it is a source, from what the shelf tells
abbrev pub rows_by : Told → CheckedClauses → Operator → List Item
rows_by told (A.FileSource file strict) op = rows_of op strict (told.script file)
rows_by told _ op = []

abbrev pub rows_told : Graph → Told → ℕ → List Item
rows_told g told n = option_map_or (λ op. rows_by told op.clauses op) (slice_get g.ops n) []

-- where a source's rows end in a read that failed, its file's count of reading rose
abbrev pub ReadsCounted : Graph → List (List Item) → PerName → PerName → Type 0
ReadsCounted g rows counts now = (n : ℕ) (op : Operator) (file : List ℕ) (strict : Bool) → slice_get g.ops n ≡ Some op
    → op.clauses ≡ A.FileSource file strict
    → list_any is_read_fault (rows_at rows n) ≡ true → Rose (counts file).reading (now file).reading

-- a source's faults name it
abbrev pub FaultsNameSources : Graph → List (List Item) → Type 0
FaultsNameSources g rows =
    (n : ℕ) (op : Operator) (file : List ℕ) (strict : Bool)
    → slice_get g.ops n ≡ Some op → op.clauses ≡ A.FileSource file strict
    → All (NamesOperator op.number) (rows_at rows n)

-- the rows of all operators: those of a source fit, and are what the shelf tells of its file
pub record AreRows (g : Graph) (rows : List (List Item)) (told : Option Told) (counts now : PerName) : Type 0 where
  pub fit : RowsFit g rows
  pub names : FaultsNameSources g rows
  pub same : IfSome told (λ t. (n : ℕ) → rows_at rows n ≡ rows_told g t n)
  pub read : ReadsCounted g rows counts now

abbrev pub SourcesOf : Sources → CheckedGraph → Option Told → PerName → PerName → Type 0
SourcesOf (R.Rows rows) c told counts now = (g : Graph) → graph_of c ≡ g → AreRows g rows told counts now
SourcesOf (R.OpenFailed name) c told counts now = ⊤
SourcesOf R.Memory c told counts now = ⊤

-- which counts change: those of reading alone, and that of opening where a file couldn't be opened
abbrev pub SourcesCounted : Sources → List (List ℕ) → PerName → PerName → Type 0
SourcesCounted (R.Rows rows) files old new = OnlyReads files old new
SourcesCounted (R.OpenFailed name) files old new = OpeningFailed files name old new
SourcesCounted R.Memory files old new = OnlyOf files old new

abbrev pub is_failed : Ending → Bool
is_failed S.End = false
is_failed S.Failed = true

-- a count of reading changes only at a file whose reader fails in the end
abbrev pub ReadsFail : PerName → PerName → Told → Type 0
ReadsFail counts now told =
    (n : List ℕ) → (now n).reading ≢ (counts n).reading → is_failed (told.script n).ending ≡ true

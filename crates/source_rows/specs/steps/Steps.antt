-- The results of the steps of reading sources: one file, and one operator.
use Rattle.std.specs.Prelude.{◌≡◌, ◌⊎◌, ◌^◌, ⊤, ℕ, Bool, true, List, [], ◌∷◌, Option, IfSome}
use Rattle.std.specs.List.{All, list_any}
use Rattle.spl_value.specs.Script.{Script}
use Rattle.spl_value.specs.declared.item.Item.{Item}
use Rattle.spl_value.specs.declared.types.Named.{Named}
use Rattle.spl_value.specs.declared.types.SplType.{SplType}
use Rattle.feed_pour.specs.Counts.{PerName, OpeningCounted, ReadingCounted, Rose}
use Rattle.feed_pour.specs.Contents.{Told}
use Rattle.language_model.specs.declared.checked.CheckedClauses.{CheckedClauses}
use Rattle.language_model.specs.declared.checked.CheckedClauses.TheVariants as A
use Rattle.stream_model.specs.Meaning.{rows_of}
use Rattle.stream_model.specs.Operators.{Operator, output_attributes}
use Rattle.stream_model.specs.Rows.{rows}
use Rattle.stream_model.specs.Stream.{is_closed, TuplesFit}
use Rattle.row_reader.specs.Reading.{setting}
use Rattle.stream_model.specs.SourceFaults.{NamesOperator, is_read_fault}
use Rattle.language_model.specs.Files.{source_files}
use Rattle.source_rows.specs.Counting.{OnlyOf, OnlyReads}
use Rattle.source_rows.specs.declared.file.FileRows.{FileRows}
use Rattle.source_rows.specs.declared.file.FileRows.TheVariants as F
use Rattle.source_rows.specs.declared.sources.OneSource.{OneSource}
use Rattle.source_rows.specs.declared.sources.OneSource.TheVariants as O

-- ---- a file

-- a closed stream of tuples of these attributes, whose faults name this operator
pub record AreClosed (op : ℕ) (schema : List (Named SplType)) (items : List Item) : Type 0 where
  pub closed : is_closed items ≡ true
  pub fit : TuplesFit schema items
  pub names : All (NamesOperator op) items

abbrev pub FileRowsFit : FileRows → ℕ → List (Named SplType) → Type 0
FileRowsFit (F.Rows items) op schema = AreClosed op schema items
FileRowsFit F.OpenFailed op schema = ⊤
FileRowsFit F.Memory op schema = ⊤

-- they are the rows of this script
abbrev pub FileRowsOf : FileRows → ℕ → List (Named SplType) → Bool → Script → Type 0
FileRowsOf (F.Rows items) op schema strict script = items ≡ rows (setting op schema strict (2 ^ 40)) script.bytes script.ending
FileRowsOf F.OpenFailed op schema strict script = ⊤
FileRowsOf F.Memory op schema strict script = ⊤

-- a count of reading rises where the rows end so, and one of opening where the file couldn't be opened
abbrev pub FileCounted : FileRows → PerName → PerName → List ℕ → Type 0
FileCounted (F.Rows items) old new file = ReadingCounted (list_any is_read_fault items) old new file
FileCounted F.OpenFailed old new file = OpeningCounted true old new file
FileCounted F.Memory old new file = (n : List ℕ) → new n ≡ old n

-- ---- an operator

-- the rows of a source, of which the shelf tells the file
pub record SourceRows (file : List ℕ) (strict : Bool) (op : Operator) (items : List Item) (told : Option Told) (counts now : PerName) : Type 0 where
  pub are : AreClosed op.number (output_attributes op 0) items
  pub told_rows : IfSome told (λ t. items ≡ rows_of op strict (t.script file))
  pub read : list_any is_read_fault items ≡ true → Rose (counts file).reading (now file).reading

abbrev pub RowsOf : CheckedClauses → Operator → List Item → Option Told → PerName → PerName → Type 0
RowsOf (A.FileSource file strict) op items told counts now = SourceRows file strict op items told counts now
RowsOf _ op items told counts now = items ≡ []

abbrev pub SourceOf : OneSource → CheckedClauses → Operator → Option Told → PerName → PerName → Type 0
SourceOf (O.Rows items) part op told counts now = RowsOf part op items told counts now
SourceOf (O.OpenFailed name) part op told counts now = ⊤
SourceOf O.Memory part op told counts now = ⊤

-- the opening of a file failed, and nothing else was counted
pub record FirstOpening (name : List ℕ) (old new : PerName) : Type 0 where
  pub rose : Rose (old name).opening (new name).opening
  pub reading : (new name).reading ≡ (old name).reading
  pub others : (n : List ℕ) → (n ≡ name → ⊥) → new n ≡ old n

abbrev pub SourceCounted : OneSource → CheckedClauses → PerName → PerName → Type 0
SourceCounted (O.Rows items) part old new = OnlyReads (source_files (part ∷ [])) old new
SourceCounted (O.OpenFailed name) part old new = (source_files (part ∷ []) ≡ name ∷ []) × FirstOpening name old new
SourceCounted O.Memory part old new = OnlyOf (source_files (part ∷ [])) old new

-- it couldn't be opened, or memory ran out for its name
abbrev pub IsNotOpened : OneSource → List ℕ → Type 0
IsNotOpened result file = (result ≡ O.OpenFailed file) ⊎ (result ≡ O.Memory)

-- Where the faults of a run come from: the rows of its sources, and what its operators evaluate.
use Rattle.std.specs.Prelude.{◌≡◌, ℕ, Bool, true, false, List, Some, slice_get}
use Rattle.std.specs.List.{list_any}
use Rattle.spl_value.specs.declared.item.Fault.{Fault}
use Rattle.spl_value.specs.declared.item.FaultKind.{FaultKind}
use Rattle.spl_value.specs.declared.item.FaultKind.TheVariants as K
use Rattle.spl_value.specs.declared.item.Item.{Item}
use Rattle.spl_value.specs.declared.item.Item.TheVariants as I
use Rattle.language_model.specs.declared.checked.CheckedClauses.TheVariants as A
use Rattle.language_model.specs.CheckedGraph.{CheckedGraph}
use Rattle.language_model.specs.Keeping.{Keeps}
use Rattle.stream_model.specs.CheckedMeaning.{graph_of}
use Rattle.stream_model.specs.Ends.{run_fault}
use Rattle.stream_model.specs.Meaning.{Graph, Lists, Entries, Meaning, meaning}
use Rattle.stream_model.specs.Operators.{Operator}
use Rattle.stream_model.specs.PathLaws.{fault_by}
use Rattle.fault_kinds.specs.Kinds.{is_evaluation_kind}
use Rattle.list_engine.specs.RunLaws.{SourcesName}
use Rattle.stream_schemas.specs.Schemas.{SourcesFit}

-- ---- a test of faults

-- each fault of a stream passes the test
abbrev pub FaultsPass : (Fault → Bool) → List Item → Type 0
FaultsPass test items = (i : ℕ) (f : Fault) → slice_get items i ≡ Some (I.Bad f) → test f ≡ true

-- each fault in the rows of a source does
abbrev pub SourcesPass : (Fault → Bool) → Graph → Lists → Type 0
SourcesPass test g rows = (n : ℕ) (op : Operator) (file : List ℕ) (strict : Bool) → slice_get g.ops n ≡ Some op → op.clauses ≡ A.FileSource file strict → FaultsPass test (rows n)

-- each fault of evaluation of an operator does
abbrev pub OperatorsPass : (Fault → Bool) → Graph → Type 0
OperatorsPass test g = (n : ℕ) (op : Operator) (kind : FaultKind) → slice_get g.ops n ≡ Some op → is_evaluation_kind kind ≡ true → test (fault_by op.number kind) ≡ true

-- each fault of a stream of the run does, and so does the run's own
pub record RunPasses (test : Fault → Bool) (g : Graph) (m : Meaning) : Type 0 where
  pub streams : (s : ℕ) → FaultsPass test (m.streams s)
  pub run : (f : Fault) → run_fault g m ≡ Some f → test f ≡ true

-- a test that the faults in the rows of the sources pass, and those of evaluation of the operators, is passed by all faults of a run
abbrev pub FaultsLaw : Type 0
FaultsLaw = (test : Fault → Bool) (c : CheckedGraph) (g : Graph) (rows : Lists) (entries : Entries) → Keeps c → graph_of c ≡ g → SourcesFit g rows
    → SourcesPass test g rows → OperatorsPass test g → RunPasses test g (meaning g rows entries)

-- ---- faults of rows

-- a fault stands in the rows of the source that it names
pub record IsRowFault (g : Graph) (rows : Lists) (f : Fault) : Type 0 where
  pub op : Operator
  pub file : List ℕ
  pub strict : Bool
  pub named : slice_get g.ops f.op ≡ Some op
  pub source : op.clauses ≡ A.FileSource file strict
  pub place : ℕ
  pub there : slice_get (rows f.op) place ≡ Some (I.Bad f)

-- where the faults in the rows of each source name it, each fault of a run that isn't one of evaluation, with its line, is one of these
abbrev pub RowFaultLaw : Type 0
RowFaultLaw = (c : CheckedGraph) (g : Graph) (rows : Lists) (entries : Entries) (f : Fault) → Keeps c → graph_of c ≡ g → SourcesFit g rows → SourcesName g rows
    → run_fault g (meaning g rows entries) ≡ Some f → is_evaluation_kind f.kind ≡ false → IsRowFault g rows f

-- so where the fault of a run is a read that failed, each test for such a fault finds one in the rows of the source that it names
abbrev pub ReadFaultLaw : Type 0
ReadFaultLaw = (c : CheckedGraph) (g : Graph) (rows : Lists) (entries : Entries) (f : Fault) → Keeps c → graph_of c ≡ g → SourcesFit g rows → SourcesName g rows
    → run_fault g (meaning g rows entries) ≡ Some f → f.kind ≡ K.ReadFailed
    → IsRowFault g rows f × ((is_read : Item → Bool) → is_read (I.Bad f) ≡ true → list_any is_read (rows f.op) ≡ true)

-- What holds of each graph that is run.
use Rattle.std.specs.Prelude.{◌≡◌, ◌<◌, ⊤, ℕ, Bool, List, [], ◌∷◌, length, Some, slice_get}
use Rattle.std.specs.List.{count_by}
use Rattle.spl_value.specs.declared.item.Fault.{Fault}
use Rattle.spl_value.specs.declared.item.Item.{Item}
use Rattle.spl_value.specs.declared.item.Item.TheVariants as I
use Rattle.language_model.specs.declared.checked.CheckedClauses.TheVariants as A
use Rattle.language_model.specs.CheckedGraph.{CheckedGraph}
use Rattle.language_model.specs.Keeping.{Keeps}
use Rattle.stream_model.specs.CheckedMeaning.{graph_of}
use Rattle.stream_model.specs.Ends.{run_fault}
use Rattle.stream_model.specs.Meaning.{Graph, Lists, Entries, meaning}
use Rattle.stream_model.specs.Operators.{Operator}
use Rattle.stream_model.specs.Stages.{out}
use Rattle.stream_model.specs.Stream.{Event, is_tuple}

-- a sink has no output port, and gives its writer tuples alone: a row for each item
abbrev pub SinkLaw : Type 0
SinkLaw = (c : CheckedGraph) (g : Graph) (n : ℕ) (op : Operator) (file : List ℕ) → Keeps c → graph_of c ≡ g → slice_get g.ops n ≡ Some op → op.clauses ≡ A.FileSink file
    → (op.outs ≡ []) × ((events : List Event) → count_by is_tuple (out op 0 events) ≡ length (out op 0 events))

-- each fault of a stream names this operator
abbrev pub FaultsName : ℕ → List Item → Type 0
FaultsName n [] = ⊤
FaultsName n (I.Tuple vs ∷ items) = FaultsName n items
FaultsName n (I.Window ∷ items) = FaultsName n items
FaultsName n (I.Final ∷ items) = FaultsName n items
FaultsName n (I.Bad f ∷ items) = (f.op ≡ n) × FaultsName n items

-- the faults in the rows of each source name it
abbrev pub SourcesName : Graph → Lists → Type 0
SourcesName g rows = (n : ℕ) (op : Operator) (file : List ℕ) (strict : Bool) → slice_get g.ops n ≡ Some op → op.clauses ≡ A.FileSource file strict → FaultsName n (rows n)

-- then the fault of a run names an operator
abbrev pub FaultNamesLaw : Type 0
FaultNamesLaw = (c : CheckedGraph) (g : Graph) (rows : Lists) (entries : Entries) (f : Fault)
    → Keeps c → graph_of c ≡ g → SourcesName g rows → run_fault g (meaning g rows entries) ≡ Some f → f.op < length g.ops

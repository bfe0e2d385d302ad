-- What a filter and a sink with one connection give for a stream, item by item, and the fault with which a sink ends; and the path
-- from a source through a filter to a sink.
use Rattle.std.specs.Prelude.{ℕ, Bool, List, [], ◌∷◌, ◌≡◌, map, Option, if◌then◌else◌}
use Rattle.spl_value.specs.declared.item.Item.{Item}
use Rattle.spl_value.specs.declared.item.Item.TheVariants as I
use Rattle.spl_value.specs.declared.item.Fault.{Fault}
use Rattle.spl_value.specs.declared.item.FaultKind.{FaultKind}
use Rattle.spl_value.specs.declared.item.FaultKind.TheVariants as K
use Rattle.spl_value.specs.declared.value.Value.{Value}
use Rattle.spl_tree.specs.declared.body.Function.{Function}
use Rattle.language_model.specs.declared.checked.CheckedClauses.TheVariants as A
use Rattle.language_model.specs.StreamTypes.{Attributes}
use Rattle.spl_tree.specs.declared.code.Code.{Code}
use Rattle.spl_tree.specs.declared.code.Slot.{Slot}
use Rattle.stream_model.specs.Stream.{came}
use Rattle.language_model.specs.Outcomes.{Outcome, Done, Faulted, Stuck}
use Rattle.stream_model.specs.Operators.{Operator}
use Rattle.stream_model.specs.Bodies.{at_tuple, most_turns, passes}
use Rattle.stream_model.specs.Stages.{out}
use Rattle.stream_model.specs.Meaning.{Graph}
use Rattle.stream_model.specs.Ends.{stream_fault}
use Rattle.stream_model.specs.parts.Ends.{operator_fault}

-- a fault of the operator with this number itself
abbrev pub fault_by : ℕ → FaultKind → Fault
fault_by n kind = record { op = n; kind = kind; line = 0 }

-- what a tuple and those after it become, by the result of the condition of the operator with this number for it
abbrev pub pass : ℕ → Outcome Bool → List Value → List Item → List Item
pass n (Done b turns) vs behind = if b then I.Tuple vs ∷ behind else behind
pass n (Faulted kind) vs behind = I.Bad (fault_by n kind) ∷ []
pass n Stuck vs behind = I.Bad (fault_by n K.BadRow) ∷ []

-- what passes the condition of the operator with this number, which may call these functions: its tuples and the window markers,
-- up to a final marker or a fault, which is the last, as the condition's own is
abbrev pub passed : ℕ → List Function → Option (Code Slot) → List Item → List Item
passed n functions condition [] = []
passed n functions condition (I.Tuple vs ∷ items) = pass n (passes functions condition (at_tuple vs) most_turns) vs (passed n functions condition items)
passed n functions condition (I.Window ∷ items) = I.Window ∷ passed n functions condition items
passed n functions condition (I.Final ∷ items) = I.Final ∷ []
passed n functions condition (I.Bad f ∷ items) = I.Bad f ∷ []

-- what a sink writes of a stream: its tuples up to a final marker or a fault
abbrev pub written : List Item → List Item
written [] = []
written (I.Tuple vs ∷ items) = I.Tuple vs ∷ written items
written (I.Window ∷ items) = written items
written (I.Final ∷ items) = []
written (I.Bad f ∷ items) = []

-- a source of stream 0, a filter that reads it and makes stream 1, and a sink that reads that, where all streams have these attributes
abbrev pub path_source : Attributes → List ℕ → Bool → Operator
path_source schema file strict =
    record {
      number = 0;
      clauses = A.FileSource file strict;
      functions = [];
      types = record { ins = []; outs = schema ∷ [] };
      ins = [];
      outs = 0 ∷ [];
    }

abbrev pub path_filter : Attributes → Option (Code Slot) → Operator
path_filter schema condition =
    record {
      number = 1;
      clauses = A.Filter condition;
      functions = [];
      types = record { ins = schema ∷ []; outs = schema ∷ [] };
      ins = (0 ∷ []) ∷ [];
      outs = 1 ∷ [];
    }

abbrev pub path_sink : Attributes → List ℕ → Operator
path_sink schema file =
    record {
      number = 2;
      clauses = A.FileSink file;
      functions = [];
      types = record { ins = schema ∷ []; outs = [] };
      ins = (1 ∷ []) ∷ [];
      outs = [];
    }

-- whose source has a file, and whose sink another
abbrev pub path_graph : Attributes → List ℕ → Bool → Option (Code Slot) → List ℕ → Graph
path_graph schema source strict condition sink =
    record {
      ops = path_source schema source strict ∷ path_filter schema condition ∷ path_sink schema sink ∷ [];
      topo = 0 ∷ 1 ∷ 2 ∷ [];
    }

-- ---- the laws

-- a filter with one connection passes the tuples for which its condition holds, up to one for which it faults, window markers, and the end
abbrev pub FilterLaw : Type 0
FilterLaw = (op : Operator) (condition : Option (Code Slot)) (s t : ℕ) (items : List Item)
    → op.clauses ≡ A.Filter condition → op.ins ≡ (s ∷ []) ∷ [] → op.outs ≡ t ∷ [] → out op 0 (map (came 0) items) ≡ passed op.number op.functions condition items

-- a sink with one connection gives its writer the tuples before the end
abbrev pub SinkLaw : Type 0
SinkLaw = (op : Operator) (file : List ℕ) (s : ℕ) (items : List Item)
    → op.clauses ≡ A.FileSink file → op.ins ≡ (s ∷ []) ∷ [] → op.outs ≡ [] → out op 0 (map (came 0) items) ≡ written items

-- and ends with the fault that its stream does
abbrev pub SinkFaultLaw : Type 0
SinkFaultLaw = (op : Operator) (file : List ℕ) (s : ℕ) (items : List Item)
    → op.clauses ≡ A.FileSink file → op.ins ≡ (s ∷ []) ∷ [] → op.outs ≡ [] → operator_fault op (map (came 0) items) ≡ stream_fault items

-- Laws on the texts of plans.
use Rattle.std.specs.Prelude.{◌≡◌, ℕ, slice_get, Some}
use Rattle.language_model.specs.CheckedGraph.{CheckedGraph}
use Rattle.stream_model.specs.CheckedMeaning.{graph_of}
use Rattle.stream_model.specs.Operators.{Operator, input_attributes}
use Rattle.run_report.specs.PlanTexts.{read_schema}

-- the names of a key are those of the attributes that the first operator of its region has at its input, of which the places of the key speak
abbrev pub KeyNamesLaw : Type 0
KeyNamesLaw = (c : CheckedGraph) (n : ℕ) (op : Operator) → slice_get (graph_of c).ops n ≡ Some op → read_schema c n ≡ input_attributes op 0

-- Each tuple of a stream of a run has the attributes of the stream.
use Rattle.std.specs.Prelude.{◌≡◌, ℕ, Bool, true, List, Some, slice_get}
use Rattle.std.specs.List.{list_all}
use Rattle.spl_value.specs.Numbered.{item_fits}
use Rattle.language_model.specs.declared.checked.CheckedClauses.TheVariants as A
use Rattle.language_model.specs.CheckedGraph.{CheckedGraph}
use Rattle.language_model.specs.Keeping.{Keeps}
use Rattle.stream_model.specs.CheckedMeaning.{graph_of, schema_at}
use Rattle.stream_model.specs.Meaning.{Graph, Lists, Entries, meaning}
use Rattle.stream_model.specs.Operators.{Operator, output_attributes}
use Rattle.stream_model.specs.Stream.{TuplesFit}

-- the tuples in the rows of each source have its attributes
abbrev pub SourcesFit : Graph → Lists → Type 0
SourcesFit g rows = (n : ℕ) (op : Operator) (file : List ℕ) (strict : Bool) → slice_get g.ops n ≡ Some op
    → op.clauses ≡ A.FileSource file strict → TuplesFit (output_attributes op 0) (rows n)

-- then those of each stream of the meaning of a checked graph have the stream's
abbrev pub StreamsLaw : Type 0
StreamsLaw = (c : CheckedGraph) (rows : Lists) (entries : Entries) → Keeps c → SourcesFit (graph_of c) rows → (s : ℕ)
    → TuplesFit (schema_at c s) ((meaning (graph_of c) rows entries).streams s)

-- so each item of it fits that
abbrev pub ItemsLaw : Type 0
ItemsLaw = (c : CheckedGraph) (rows : Lists) (entries : Entries) → Keeps c → SourcesFit (graph_of c) rows → (s : ℕ)
    → list_all (item_fits (schema_at c s)) ((meaning (graph_of c) rows entries).streams s) ≡ true

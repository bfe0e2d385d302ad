-- The tuples that a chain gives its sink.
use Rattle.std.specs.Prelude.{Bool, true, false, List, [], ◌∷◌, if◌then◌else◌}
use Rattle.spl_value.specs.declared.item.Item.{Item}
use Rattle.spl_value.specs.declared.item.Item.TheVariants as I
use Rattle.spl_value.specs.declared.value.Value.{Value}
use Rattle.language_model.specs.declared.checked.CheckedClauses.{CheckedClauses}
use Rattle.language_model.specs.declared.checked.CheckedClauses.TheVariants as A
use Rattle.language_model.specs.declared.outs.Output.{Output}
use Rattle.stream_model.specs.Operators.{Operator}
use Rattle.stream_model.specs.Stages.{on_port}
use Rattle.network_model.specs.Networks.{Part, FromSource, FromLinks, Splitter, Replica, Merger, last_of}
use Rattle.network_model.specs.Receipts.{Receipt}
use Rattle.network_model.specs.Owed.{given, taken_of}
use Rattle.network_model.specs.Adds.{gives_more}

abbrev pub is_sink : CheckedClauses → Bool
is_sink (A.FileSink file) = true
is_sink _ = false

-- the tuples among items
abbrev pub tuples_in : List Item → List (List Value)
tuples_in [] = []
tuples_in (I.Tuple values ∷ items) = values ∷ tuples_in items
tuples_in (I.Window ∷ items) = tuples_in items
tuples_in (I.Final ∷ items) = tuples_in items
tuples_in (I.Bad fault ∷ items) = tuples_in items

-- those that a sink is given, as which its writer stands on its first port; another operator has no writer
abbrev pub for_sink : Operator → List Output → List (List Value)
for_sink last outputs = if is_sink last.clauses then tuples_in (on_port 0 outputs) else []

abbrev pub poured_of : Part → List Output → List (List Value)
poured_of (FromSource source ops outs) outputs = for_sink (last_of source ops) outputs
poured_of (FromLinks op ops outs) outputs = for_sink (last_of op ops) outputs
poured_of (Splitter region) outputs = []
poured_of (Replica region channel) outputs = []
poured_of (Merger region outs) outputs = []

-- the tuples for the sink of a chain that has taken these, and those for one receipt more
abbrev pub pours : Part → List Receipt → List (List Value)
pours part receipts = poured_of part (given part (taken_of part receipts))

abbrev pub pours_more : Part → List Receipt → Receipt → List (List Value)
pours_more part receipts receipt = poured_of part (gives_more part receipts receipt)

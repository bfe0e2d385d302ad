-- The ends of an element as streams.
use Rattle.std.specs.Prelude.{ℕ, ◌≡◌, ◌<◌, length, List, Some}
use Rattle.stream_model.specs.Meaning.{Graph}
use Rattle.stream_model.specs.Operators.{Operator}
use Rattle.stream_model.specs.Stages.{on_port}
use Rattle.network_model.specs.Networks.{Part}
use Rattle.network_model.specs.Owed.{given, taken_of}
use Rattle.network_model.specs.Receipts.{Receipt}
use Rattle.network_model.specs.Wiring.{PartFits}
use Rattle.operator_chains.specs.Hows.{stream_how}
use Rattle.element_notes.specs.Endings.{how_ended, last_operator}

-- each stream of the operator whose ends are those of an element ends as it is told of that operator
abbrev pub StreamEndsLaw : Type 0
StreamEndsLaw = (g : Graph) (part : Part) (op : Operator) (p : ℕ) (receipts : List Receipt) → PartFits g part
    → last_operator part ≡ Some op → p < length op.outs
    → stream_how (on_port p (given part (taken_of part receipts))) ≡ how_ended part receipts

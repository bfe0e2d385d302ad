-- In which order the operators of a run take the items of their inputs, and why a run in an order isn't made.
use Rattle.std.specs.Prelude.{◌≡◌, ℕ, true, List, Some, slice_get}
use Rattle.stream_model.specs.Arrivals.{entries_in, has_several}
use Rattle.stream_model.specs.Meaning.{Graph, Lists, Entries, Meaning, lists_at, meaning}
use Rattle.stream_model.specs.Operators.{Operator, connections}
use Rattle.stream_model.specs.Records.{input_after_input}
use Rattle.stream_model.specs.Runs.{IsFirstNotWhole}
use Rattle.list_engine.specs.declared.run_order.Order.{Order}
use Rattle.list_engine.specs.declared.run_order.Order.TheVariants.{InTurn, Recorded}
use Rattle.list_engine.specs.declared.run_order.RunAnswer.{RunAnswer}
use Rattle.list_engine.specs.declared.run_order.RunAnswer.TheVariants.{NotWhole, Memory}

-- ---- the order

-- the entries of an operator for the lists of its inputs: input after input until it ends, or those that a record has
abbrev pub Follows : Order → Operator → Lists → List ℕ → Type 0
Follows InTurn op lists entries = entries ≡ input_after_input op lists
Follows (Recorded arrivals) op lists entries = entries ≡ entries_in arrivals.lists op.number

-- those of each operator with several connections
abbrev pub AreInOrder : Order → Graph → Meaning → Entries → Type 0
AreInOrder order g m entries = (n : ℕ) (op : Operator) → slice_get g.ops n ≡ Some op → has_several (connections op) ≡ true
    → Follows order op (lists_at m.streams (connections op)) (entries op.number)

-- ---- records that aren't whole

-- why a run in this order isn't made: for lack of memory, or since the record isn't whole in the meaning of the graph for these rows
-- under it
abbrev pub StopsRun : RunAnswer → Order → Graph → Lists → Type 0
StopsRun Memory order g rows = Unit {0}
StopsRun (NotWhole n) InTurn g rows = ⊥
StopsRun (NotWhole n) (Recorded arrivals) g rows = IsFirstNotWhole g (meaning g rows (entries_in arrivals.lists)) (entries_in arrivals.lists) n

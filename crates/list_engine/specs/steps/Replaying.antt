-- How an operator takes its events in an order, or as a record says.
use Rattle.std.specs.Prelude.{◌≡◌, ◌<◌, ℕ, true, false, List, [], ◌∷◌, ◌++◌, map, length, Option}
use Rattle.spl_value.specs.declared.item.Fault.{Fault}
use Rattle.spl_value.specs.declared.item.Item.{Item}
use Rattle.stream_model.specs.Arrivals.{entries_in}
use Rattle.stream_model.specs.Inputs.{inputs_of}
use Rattle.stream_model.specs.Meaning.{Lists, arrive}
use Rattle.stream_model.specs.Operators.{Operator}
use Rattle.stream_model.specs.Records.{is_whole}
use Rattle.stream_model.specs.parts.Records.{names_inputs}
use Rattle.stream_model.specs.Stream.{Event, came}
use Rattle.list_engine.specs.declared.operator.Given.{Given}
use Rattle.list_engine.specs.declared.run_order.Order.{Order}
use Rattle.list_engine.specs.declared.run_order.Order.TheVariants.{InTurn, Recorded}
use Rattle.list_engine.specs.declared.run_order.RunAnswer.{RunAnswer}
use Rattle.list_engine.specs.declared.run_order.RunAnswer.TheVariants.{NotWhole, Memory}
use Rattle.stream_model.specs.Runs.{rows_at}
use Rattle.list_engine.specs.RunOrders.{Follows}
use Rattle.list_engine.specs.steps.Taking.{EndsBy, HasGiven, Task}

-- ---- one item

-- the last item of one of these lists was taken
pub record TakesLast (i : ℕ) (x : Item) (old new : List (List Item)) : Type 0 where
  pub within : i < length old
  pub count : length new ≡ length old
  pub last : rows_at old i ≡ rows_at new i ++ x ∷ []
  pub others : (j : ℕ) → (i ≡ j → ⊥) → rows_at new j ≡ rows_at old j

-- ---- all items

-- an operator took an item for each of these entries, and ended at the last
pub record Replayed (task : Task) (lists : Lists) (entries : List ℕ) (given : Given) (fault : Option Fault) : Type 0 where
  pub done : List Event
  pub arrived : arrive lists entries ≡ done
  pub found : inputs_of done ≡ entries
  pub named : names_inputs task.op entries ≡ true
  pub ends : EndsBy task.op done fault
  pub gave : HasGiven task done given

-- an operator stopped for lack of memory, or since its record, that of this number, fails so
abbrev pub Stops : ℕ → Type 0 → RunAnswer → Type 0
Stops n Fails Memory = Unit {0}
Stops n Fails (NotWhole k) = (k ≡ n) × Fails

-- ---- in an order

-- these events are those that an operator takes of the lists of its inputs, by their inputs: a front of its one list, or those of a whole record
pub record Takes (op : Operator) (lists : List (List Item)) (done : List Event) : Type 0 where
  pub alone : (items : List Item) → lists ≡ items ∷ [] → (more : List Event) × (map (came 0) items ≡ done ++ more)
  pub arrived : arrive (rows_at lists) (inputs_of done) ≡ done
  pub whole : is_whole op (rows_at lists) (inputs_of done) ≡ true

-- an operator took the lists of its inputs up to its end, in this order where there are several
pub record RanIn (order : Order) (task : Task) (lists : List (List Item)) (given : Given) (fault : Option Fault) : Type 0 where
  pub done : List Event
  pub took : Takes task.op lists done
  pub ends : EndsBy task.op done fault
  pub gave : HasGiven task done given
  pub follows : 1 < length lists → Follows order task.op (rows_at lists) (inputs_of done)

-- it has several inputs, and its record isn't whole for them
abbrev pub FailsOn : Order → Operator → List (List Item) → Type 0
FailsOn InTurn op lists = ⊥
FailsOn (Recorded arrivals) op lists = (1 < length lists) × (is_whole op (rows_at lists) (entries_in arrivals.lists op.number) ≡ false)

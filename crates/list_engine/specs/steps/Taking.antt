-- How an operator takes its events: what it has given after some of them, how it stands, and which may come.
use Rattle.std.specs.Prelude.{◌≡◌, ◌<◌, ◌==◌, ⊤, ℕ, suc, Bool, true, false, if◌then◌else◌, List, [], ◌∷◌, ◌++◌, map, length, reverse, slice_get, Option, Some, None, is_some}
use Rattle.spl_value.specs.declared.item.Fault.{Fault}
use Rattle.spl_value.specs.declared.item.Item.{Item}
use Rattle.spl_value.specs.declared.item.Item.TheVariants as I
use Rattle.language_model.specs.declared.outs.Output.{Output}
use Rattle.stream_model.specs.Stream.{Event, came, is_closed, TuplesFit}
use Rattle.stream_model.specs.Inputs.{inputs_of, came_on}
use Rattle.stream_model.specs.Operators.{Operator, ports, input_attributes}
use Rattle.stream_model.specs.parts.Operators.{port_at}
use Rattle.stream_model.specs.React.{ended}
use Rattle.stream_model.specs.Replies.{end_by, given_attributes}
use Rattle.stream_model.specs.Stages.{on_port, out}
use Rattle.stream_model.specs.Laws.{has_ended}
use Rattle.list_engine.specs.declared.operator.Given.{Given}
use Rattle.list_engine.specs.declared.operator.Standing.{Standing}
use Rattle.list_engine.specs.declared.operator.Standing.TheVariants.{Live, Ended}

-- ---- what is given

-- each list has its port's items added
pub record Adds (caused : List Output) (old new : List (List Item)) : Type 0 where
  pub count : length new ≡ length old
  pub each : (p : ℕ) (items : List Item) → slice_get old p ≡ Some items → slice_get new p ≡ Some (items ++ on_port p caused)

-- the inputs, where they are recorded, with one more
abbrev pub noted : ℕ → Option (List ℕ) → Option (List ℕ)
noted input None = None
noted input (Some inputs) = Some (inputs ++ input ∷ [])

-- an operator, on how many ports its items are kept, and whether the inputs of its events are recorded
pub record Task : Type 0 where
  pub op : Operator
  pub ports : ℕ
  pub recorded : Bool

-- after some events: the items on each port, and the inputs, where they are recorded
pub record HasGiven (task : Task) (done : List Event) (given : Given) : Type 0 where
  pub count : length given.outs ≡ task.ports
  pub outs : (p : ℕ) → p < task.ports → slice_get given.outs p ≡ Some (out task.op p done)
  pub inputs : given.inputs ≡ (if task.recorded then Some (inputs_of done) else None)
  pub fit : (p : ℕ) → TuplesFit (given_attributes task.op.clauses task.op p) (out task.op p done)

-- the task of an operator that gives what is kept so
abbrev pub task_of : Operator → Given → Task
task_of op given = record { op = op; ports = length given.outs; recorded = is_some given.inputs }

-- ---- how it stands

-- the last of some events ended the operator with a fault, or with the final marker, and none before it ended it
pub record EndsBy (op : Operator) (done : List Event) (fault : Option Fault) : Type 0 where
  pub front : List Event
  pub last : Event
  pub are : done ≡ front ++ last ∷ []
  pub before : has_ended op front ≡ false
  pub ends : ended op (reverse front) last ≡ Some (end_by fault)

-- a state of an operator stands for some events that haven't ended it
pub record IsLive {S : Type 0} (spec : S → Operator) (stands : S → List Event → Type 0) (op : Operator) (done : List Event) (s : S) : Type 0 where
  pub same : spec s ≡ op
  pub state : stands s (reverse done)
  pub live : has_ended op done ≡ false

abbrev pub StandsAs : {S : Type 0} → (S → Operator) → (S → List Event → Type 0) → Operator → List Event → S → Standing → Type 0
StandsAs spec stands op done s Live = IsLive spec stands op done s
StandsAs spec stands op done s (Ended fault) = EndsBy op done fault

-- an operator has taken some events
pub record Reached {S : Type 0} (spec : S → Operator) (stands : S → List Event → Type 0) (task : Task) (done : List Event) (s : S) (given : Given) (standing : Standing) : Type 0 where
  pub stood : StandsAs spec stands task.op done s standing
  pub gave : HasGiven task done given

-- ---- what may come

-- nothing follows a final marker or a fault
abbrev pub EndsOnce : List Item → Type 0
EndsOnce [] = ⊤
EndsOnce (I.Tuple vs ∷ items) = EndsOnce items
EndsOnce (I.Window ∷ items) = EndsOnce items
EndsOnce (I.Final ∷ items) = items ≡ []
EndsOnce (I.Bad f ∷ items) = items ≡ []

-- after some events these items may come on an input
pub record MayCome (op : Operator) (done : List Event) (i : ℕ) (items : List Item) : Type 0 where
  pub input : i < length (ports op)
  pub none : came_on (λ j. j == i) done ≡ []
  pub once : EndsOnce items
  pub fit : TuplesFit (input_attributes op (port_at (ports op) i)) items

-- a front of these items was taken, and all of them where the operator hasn't ended
pub record Took {S : Type 0} (spec : S → Operator) (stands : S → List Event → Type 0) (task : Task) (done : List Event) (i : ℕ) (items : List Item) (s : S) (given : Given)
    (standing : Standing) : Type 0 where
  pub taken : List Item
  pub rest : List Item
  pub split : items ≡ taken ++ rest
  pub all : standing ≡ Live → rest ≡ []
  pub reached : Reached spec stands task (done ++ map (came i) taken) s given standing

-- there is a closed list of tuples that fit for each input, and an input
pub record AreInputs (op : Operator) (lists : List (List Item)) : Type 0 where
  pub count : length lists ≡ length (ports op)
  pub some : 0 < length lists
  pub closed : (i : ℕ) (items : List Item) → slice_get lists i ≡ Some items → is_closed items ≡ true
  pub fit : (i : ℕ) (items : List Item) → slice_get lists i ≡ Some items → TuplesFit (input_attributes op (port_at (ports op) i)) items

-- the items of these lists, one list after the other, from that of input i on
abbrev pub in_turn : ℕ → List (List Item) → List Event
in_turn i [] = []
in_turn i (items ∷ lists) = map (came i) items ++ in_turn (suc i) lists

-- of these events an operator took those up to its end
pub record Ran (task : Task) (events : List Event) (given : Given) (fault : Option Fault) : Type 0 where
  pub done : List Event
  pub rest : List Event
  pub split : events ≡ done ++ rest
  pub ends : EndsBy task.op done fault
  pub gave : HasGiven task done given

-- What an operator gives for a list of events, the oldest first, up to the one that ends it.
use Rattle.std.specs.Prelude.{ℕ, ◌==◌, Bool, false, List, [], ◌∷◌, ◌++◌, map, if◌then◌else◌, is_some}
use Rattle.spl_value.specs.declared.item.Item.{Item}
use Rattle.language_model.specs.declared.outs.Output.{Output}
use Rattle.stream_model.specs.Stream.{Event, came}
use Rattle.stream_model.specs.Operators.{Operator}
use Rattle.stream_model.specs.React.{react, ended}

-- an operator, the events that it has taken, the newest first, and whether it has ended
pub record Stage : Type 0 where
  pub op : Operator
  pub seen : List Event
  pub over : Bool

abbrev pub start : Operator → Stage
start op = record { op = op; seen = []; over = false }

abbrev pub next : Stage → Event → Stage
next s e = if s.over then s else record { op = s.op; seen = e ∷ s.seen; over = is_some (ended s.op s.seen e) }

-- what it gives while it hasn't ended
abbrev pub gives_all : Stage → List Event → List Output
gives_all s [] = []
gives_all s (e ∷ es) = (if s.over then [] else react s.op s.seen e) ++ gives_all (next s e) es

abbrev pub stage_after : Stage → List Event → Stage
stage_after s [] = s
stage_after s (e ∷ es) = stage_after (next s e) es

-- the items on a port
abbrev pub on_port : ℕ → List Output → List Item
on_port p [] = []
on_port p (o ∷ os) = if o.port == p then o.item ∷ on_port p os else on_port p os

-- what the operator gives on a port for these events
abbrev pub out : Operator → ℕ → List Event → List Item
out op p events = on_port p (gives_all (start op) events)

-- what a chain of operators, each with one connection and one output port, gives for a stream
abbrev pub chain : List Operator → List Item → List Item
chain [] items = items
chain (op ∷ ops) items = chain ops (out op 0 (map (came 0) items))

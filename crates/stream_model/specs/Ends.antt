-- How a run ends: the ends of a graph are its operators without output ports and its streams that nobody reads, and the
-- run's fault is that of the first end that ended with one.
use Rattle.std.specs.Prelude.{ℕ, ◌==◌, Bool, List, [], ◌∷◌, map, Option, None, Some, if◌then◌else◌}
use Rattle.std.specs.List.{list_any}
use Rattle.std.specs.Option.{option_and_then, option_or}
use Rattle.spl_value.specs.declared.item.Fault.{Fault}
use Rattle.spl_value.specs.declared.item.Item.{Item}
use Rattle.spl_value.specs.declared.item.Item.TheVariants as I
use Rattle.stream_model.specs.Stream.{Event}
use Rattle.stream_model.specs.Operators.{Operator, connections}
use Rattle.stream_model.specs.React.{ended}
use Rattle.stream_model.specs.Stages.{Stage, start, next}
use Rattle.stream_model.specs.Meaning.{Graph, Meaning}

-- the fault that an item is
abbrev pub fault_of : Item → Option Fault
fault_of (I.Tuple vs) = None
fault_of I.Window = None
fault_of I.Final = None
fault_of (I.Bad f) = Some f

-- the fault that ends a stream
abbrev pub stream_fault : List Item → Option Fault
stream_fault [] = None
stream_fault (I.Tuple vs ∷ items) = stream_fault items
stream_fault (I.Window ∷ items) = stream_fault items
stream_fault (I.Final ∷ items) = None
stream_fault (I.Bad f ∷ items) = Some f

-- the final marker or the fault with which an operator ends, where one of the events ends it
abbrev pub end_from : Stage → List Event → Option Item
end_from s [] = None
end_from s (e ∷ es) = option_or (ended s.op s.seen e) (end_from (next s e) es)

-- an operator reads the stream
abbrev pub is_read : List Operator → ℕ → Bool
is_read ops s = list_any (λ op. list_any (λ t. t == s) (connections op)) ops

-- the fault of a stream that nobody reads
abbrev pub unread_fault : Graph → Meaning → ℕ → Option Fault
unread_fault g m s = if is_read g.ops s then None else stream_fault (m.streams s)

-- the first fault that there is
abbrev pub first_fault : List (Option Fault) → Option Fault
first_fault [] = None
first_fault (o ∷ os) = option_or o (first_fault os)

-- the fault of the first of an operator's ends with one: its own where it has no output port, else that of one of its
-- streams that nobody reads
abbrev pub end_fault : Graph → Meaning → Operator → List ℕ → Option Fault
end_fault g m op [] = option_and_then fault_of (end_from (start op) (m.events op.number))
end_fault g m op (s ∷ outs) = first_fault (map (unread_fault g m) (s ∷ outs))

-- the fault of a run: ends stand in the order of their operators, then of ports
abbrev pub run_fault : Graph → Meaning → Option Fault
run_fault g m = first_fault (map (λ op. end_fault g m op op.outs) g.ops)

-- What the bodies of operators with one port, and of a Union, make of an item of a port: items on the output ports,
-- with the turns that are left of an event's, or a fault.
--
-- A body has a meaning for each tuple. Where a tuple doesn't fit, so that an expression has no value for it, the event
-- faults, as it does for a row that doesn't fit; no run has such a tuple. The index of a Split that is no integer
-- counts as 0.
use Prim.Native.Nat.{zero, suc}
use Rattle.std.specs.Prelude.{ℕ, ℤ, pos, negsuc, ◌%◌, Bool, true, List, [], ◌∷◌, ◌++◌, Option, None, Some, slice_get, if◌then◌else◌}
use Rattle.std.specs.Option.{option_and_then, option_map, option_map_or}
use Rattle.spl_value.specs.declared.item.Item.{Item}
use Rattle.spl_value.specs.declared.item.Item.TheVariants as I
use Rattle.spl_value.specs.declared.value.Value.{Value}
use Rattle.spl_value.specs.declared.value.Value.TheViews.{out-Value}
use Rattle.spl_tree.specs.declared.body.Function.{Function}
use Rattle.spl_tree.specs.declared.code.Code.{Code}
use Rattle.spl_tree.specs.declared.code.Slot.{Slot}
use Rattle.language_model.specs.declared.checked.Position.{Position}
use Rattle.language_model.specs.declared.checked.Position.TheVariants as P
use Rattle.language_model.specs.declared.env.Env.{Env}
use Rattle.language_model.specs.declared.outs.Output.{Output}
use Rattle.language_model.specs.Evaluation.{truth, world_of}
use Rattle.language_model.specs.Functions.{value}
use Rattle.language_model.specs.Outcomes.{Outcome, Done, Faulted, Stuck, followed, need}
use Rattle.language_model.specs.Statements.{level_tuple}
use Rattle.stream_model.specs.Windows.{integer_of}

-- the turns that an operator may take for one event, in all that it evaluates
unfoldable pub most_turns : ℕ
most_turns = 1000000

-- what a body makes
abbrev pub Makes : Type 0
Makes = Outcome (List Output)

-- what a function makes of the value of an outcome, or else another value
abbrev pub done_or : {A B : Type 0} → (A → B) → Outcome A → B → B
done_or f (Done x turns) other = f x
done_or f (Faulted kind) other = other
done_or f Stuck other = other

-- ---- outputs

abbrev pub output : ℕ → Item → Output
output p x = record { port = p; item = x }

-- an item on the first output port
abbrev pub on_first : Item → List Output
on_first x = output 0 x ∷ []

-- the item on each of n output ports, by ascending port
abbrev pub on_each : ℕ → Item → List Output
on_each zero x = []
on_each (suc n) x = on_each n x ++ output n x ∷ []

-- ---- expressions

-- where an expression of an operator with one input port is evaluated, which a tuple has come on
abbrev pub at_tuple : List Value → Env
at_tuple vs = record { inputs = vs ∷ []; vars = []; punct = None }

-- whether a condition, which may call these functions, holds
abbrev pub holds : List Function → Code Slot → Env → ℕ → Outcome Bool
holds functions condition env turns = truth (value functions condition) (world_of env) turns

-- the same of a condition that may be absent, and holds then
abbrev pub passes : List Function → Option (Code Slot) → Env → ℕ → Outcome Bool
passes functions condition env turns =
    option_map_or (λ code. holds functions code env turns) condition (Done true turns)

-- the tuple that an expression gives
abbrev pub tuple_by : List Function → Code Slot → Env → ℕ → Outcome (List Value)
tuple_by functions code env turns = followed (value functions code (world_of env) turns) (λ v turns.
    need (level_tuple (out-Value v)) (λ vs. Done vs turns))

-- where the condition holds, the tuple that the expression gives, and else nothing
abbrev pub made_where : List Function → Option (Code Slot) → Code Slot → Env → ℕ → Makes
made_where functions condition code env turns =
    followed (passes functions condition env turns) (λ b turns.
    if b then followed (tuple_by functions code env turns) (λ vs turns. Done (on_first (I.Tuple vs)) turns)
    else Done [] turns)

-- ---- bodies

-- this of a tuple, these items at a window marker, and nothing at the end of a port
abbrev pub by_item : (List Value → Makes) → List Output → Item → Makes
by_item tuple marker (I.Tuple vs) = tuple vs
by_item tuple marker I.Window = Done marker most_turns
by_item tuple marker I.Final = Done [] most_turns
by_item tuple marker (I.Bad f) = Done [] most_turns

-- a Filter passes the tuples for which its condition holds, and window markers
abbrev pub filter_body : List Function → Option (Code Slot) → Item → Makes
filter_body functions condition = by_item
    (λ vs. followed (passes functions condition (at_tuple vs) most_turns) (λ b turns.
    Done (if b then on_first (I.Tuple vs) else []) turns))
    (on_first I.Window)

-- a Functor makes a tuple of each for which its condition holds, and passes window markers
abbrev pub functor_body : List Function → Option (Code Slot) → Code Slot → Item → Makes
functor_body functions condition made =
    by_item (λ vs. made_where functions condition made (at_tuple vs) most_turns) (on_first I.Window)

-- a tuple with a window marker at this position
abbrev pub with_marker : Position → List Value → List Output
with_marker P.Before vs = on_first I.Window ++ on_first (I.Tuple vs)
with_marker P.After vs = on_first (I.Tuple vs) ++ on_first I.Window

-- a Punctor passes all, and adds a window marker at a tuple for which its condition holds
abbrev pub punctor_body : List Function → Code Slot → Position → Item → Makes
punctor_body functions condition position = by_item
    (λ vs. followed (holds functions condition (at_tuple vs) most_turns) (λ b turns.
    Done (if b then with_marker position vs else on_first (I.Tuple vs)) turns))
    (on_first I.Window)

-- an item on the port that an index picks of n: none where the index is negative, and else its remainder by n
abbrev pub on_picked : ℕ → ℤ → Item → List Output
on_picked n (pos i) x = output (i % n) x ∷ []
on_picked n (negsuc i) x = []

-- a Split gives each tuple on the port that its index picks of n, and window markers on each
abbrev pub split_body : List Function → Code Slot → ℕ → Item → Makes
split_body functions index n = by_item
    (λ vs. followed (value functions index (world_of (at_tuple vs)) most_turns) (λ v turns.
    Done (on_picked n (integer_of (out-Value v)) (I.Tuple vs)) turns))
    (on_each n I.Window)

-- the values at these places, where each is there
abbrev pub values_at : List Value → List ℕ → Option (List Value)
values_at vs [] = Some []
values_at vs (i ∷ is) = option_and_then (λ v. option_map (λ us. v ∷ us) (values_at vs is)) (slice_get vs i)

-- a Union gives each tuple with its attributes taken by name, from their places in the tuples of its port
abbrev pub union_body : List (List ℕ) → ℕ → Item → Makes
union_body places port =
    by_item (λ vs. need (slice_get places port) (λ is. need (values_at vs is)
    (λ us. Done (on_first (I.Tuple us)) most_turns))) []

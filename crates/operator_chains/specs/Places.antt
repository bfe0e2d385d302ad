-- What is given, by where it stands: tuples stand at places, a place for each operator behind that of the tuple that came.
use Rattle.std.specs.Prelude.{ℕ, ◌<◌, ⊤, List, [], slice_get}
use Rattle.std.specs.Option.{unwrap_or}
use Rattle.spl_value.specs.declared.item.Item.TheVariants as I
use Rattle.spl_value.specs.declared.value.Value.{Value}
use Rattle.language_model.specs.declared.outs.Output.{Output}
use Rattle.stream_model.specs.Bodies.{on_first}
use Rattle.stream_model.specs.declared.went.Went.{Went}
use Rattle.stream_model.specs.declared.went.Went.TheVariants as W
use Rattle.operator_chains.specs.declared.given.Given.{Given}
use Rattle.operator_chains.specs.declared.given.Given.TheVariants as G

-- what an operator gave, by the tuple that came, the one that is made, and the outputs
abbrev pub given_as : Went → List Value → List Value → List Output → List Output
given_as W.Kept came made outs = on_first (I.Tuple came)
given_as W.Made came made outs = on_first (I.Tuple made)
given_as W.Gone came made outs = []
given_as W.Gave came made outs = outs
given_as (W.Ended fault) came made outs = outs
given_as W.Memory came made outs = []

-- the tuple at a place
abbrev pub tuple_at : List (List Value) → ℕ → List Value
tuple_at places n = unwrap_or (slice_get places n) []

abbrev pub given_by : Given → List (List Value) → List Output → List Output
given_by (G.Tuple n) places outs = on_first (I.Tuple (tuple_at places n))
given_by G.Nothing places outs = []
given_by G.Outs places outs = outs

-- a tuple that is given at a place is at one of the first n
abbrev pub IsBelow : ℕ → Given → Type 0
IsBelow n (G.Tuple at) = at < n
IsBelow n G.Nothing = ⊤
IsBelow n G.Outs = ⊤

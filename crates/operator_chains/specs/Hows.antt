-- How streams and operators end: with the final marker or with a fault. One that is live hasn't ended.
use Rattle.std.specs.Prelude.{List, [], ◌∷◌, Option, None, Some, if◌then◌else◌}
use Rattle.spl_value.specs.declared.item.Item.{Item}
use Rattle.spl_value.specs.declared.item.Item.TheVariants as I
use Rattle.stream_model.specs.Operators.{Operator}
use Rattle.stream_model.specs.React.{ended}
use Rattle.stream_model.specs.Stages.{Stage}
use Rattle.stream_model.specs.Stream.{Event}
use Rattle.operator_chains.specs.declared.how.How.{How}
use Rattle.operator_chains.specs.declared.how.How.TheVariants as H

-- by an item, which ends nothing where it doesn't close
abbrev pub how_of : Item → How
how_of (I.Tuple values) = H.Live
how_of I.Window = H.Live
how_of I.Final = H.Final
how_of (I.Bad fault) = H.Bad fault

-- by the item with which it ended, where it did
abbrev pub how_by : Option Item → How
how_by None = H.Live
how_by (Some item) = how_of item

-- ---- streams

-- by the first item that closes
abbrev pub stream_how : List Item → How
stream_how [] = H.Live
stream_how (I.Tuple values ∷ items) = stream_how items
stream_how (I.Window ∷ items) = stream_how items
stream_how (I.Final ∷ items) = H.Final
stream_how (I.Bad fault ∷ items) = H.Bad fault

-- with one item more
abbrev pub how_behind : How → Item → How
how_behind H.Live item = how_of item
how_behind H.Final item = H.Final
how_behind (H.Bad fault) item = H.Bad fault

-- ---- operators

-- by the last of its events, the newest first
abbrev pub how_seen : Operator → List Event → How
how_seen op [] = H.Live
how_seen op (e ∷ earlier) = how_by (ended op earlier e)

abbrev pub stage_how : Stage → How
stage_how s = if s.over then how_seen s.op s.seen else H.Live

-- the last of some; where there is none, as the stream before them
abbrev pub last_how : How → List Stage → How
last_how how [] = how
last_how how (s ∷ stages) = last_how (stage_how s) stages

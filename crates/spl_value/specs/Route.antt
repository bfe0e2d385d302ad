-- The channels of a region's items. The items that enter the region are numbered from 0. What a channel's
-- replica gives for its part carries the number of its cause, and is defined with the chains of operators.
use Rattle.std.specs.Prelude.{ℕ, ◌%◌, ◌==◌, List, filter}
use Rattle.std.specs.List.{enumerate_from}
use Rattle.spl_value.specs.declared.item.Item.{Item}
use Rattle.spl_value.specs.declared.item.Item.TheVariants.{Tuple, Window, Final, Bad}
use Rattle.spl_value.specs.declared.routing.Routing.{Routing}
use Rattle.spl_value.specs.declared.routing.Routing.TheVariants.{Turns, Key}
use Rattle.spl_value.specs.Key.{enc, fnv}

-- the channel, of `width`, of the item with this number: with a key a tuple goes by the hash of its key, and
-- every other item goes in turn
abbrev pub route : Routing → ℕ → ℕ → Item → ℕ
route (Key key) width number (Tuple values) = fnv (enc values key) % width
route (Key key) width number Window = number % width
route (Key key) width number Final = number % width
route (Key key) width number (Bad fault) = number % width
route Turns width number item = number % width

-- the items of a stream that go to a channel, each under its number
abbrev pub part : Routing → ℕ → List Item → ℕ → List (ℕ × Item)
part routing width stream channel = filter (λ p. route routing width p.0 p.1 == channel) (enumerate_from 0 stream)

-- What a splitter was made of and what it has sent.
use Rattle.std.specs.Prelude.{ℕ, ◌%◌, ◌==◌, ◌&&◌, nat_lt, not, Bool, IsTrue}
use Rattle.spl_value.specs.declared.item.Item.{Item}
use Rattle.spl_value.specs.declared.item.Item.TheVariants.{Tuple, Window, Final, Bad}
use Rattle.spl_value.specs.declared.routing.Routing.{Routing}
use Rattle.spl_value.specs.declared.routing.Routing.TheVariants.{Turns, Key}
use Rattle.spl_value.specs.Key.{are_key_places}

pub record Splitting : Type 0 where
  pub width : ℕ
  pub routing : Routing
  pub pulses : Bool
  -- how many items were sent
  pub sent : ℕ
  -- after how many of them the last pulse was given, and 0 before the first
  pub pulsed : ℕ

abbrev pub new_splitting : ℕ → Routing → Bool → Splitting
new_splitting width routing pulses = record { width = width; routing = routing; pulses = pulses; sent = 0; pulsed = 0 }

-- the places of the key are in range of a tuple, with values that a key may have
abbrev pub IsRoutable : Routing → Item → Type 0
IsRoutable (Key key) (Tuple values) = IsTrue (are_key_places values key)
IsRoutable (Key key) Window = Unit {0}
IsRoutable (Key key) Final = Unit {0}
IsRoutable (Key key) (Bad fault) = Unit {0}
IsRoutable Turns item = Unit {0}

-- pulses are given, the number of items sent is a multiple of 16 above 0, and no pulse was given after that number
abbrev pub is_pulse_due : Splitting → Bool
is_pulse_due s = s.pulses && nat_lt 0 s.sent && (s.sent % 16 == 0) && not (s.pulsed == s.sent)

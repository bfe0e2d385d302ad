-- What the two ends of a link know, and what is known once they are joined.
use Rattle.std.specs.Prelude.{◌≡◌, ℕ, ◌+◌, ◌⊎◌, Bool, true, false, List, length, Result, Ok, Err}
use Rattle.crossbeam_queue.specs.Passes.{view, IsPassOf}
use Rattle.crossbeam_queue.specs.Fifo.{Learns}
use Rattle.spl_value.specs.declared.packet.Packet.{Packet}
use Rattle.spl_value.specs.Numbered.{is_last}
use Rattle.ordered_link.specs.declared.ends.Link.{Link}
use Rattle.ordered_link.specs.declared.ends.Put.{Put}
use Rattle.ordered_link.specs.declared.ends.Put.TheVariants.{Full, Worn}
use Rattle.ordered_link.specs.declared.ends.SendPass.{SendPass}
use Rattle.ordered_link.specs.declared.ends.TakePass.{TakePass}
use Rattle.ordered_link.specs.declared.ends.Settled.{Settled}
use Rattle.ordered_link.specs.Rule.{Keeps}

-- how many packets the link holds and carries at most
abbrev pub capacity_of : Link → ℕ
capacity_of l = l.capacity

abbrev pub wear_of : Link → ℕ
wear_of l = l.wear

-- what the sender's calls have put, in order
abbrev pub sent : SendPass → List Packet
sent p = (view p.pass).sent

-- what the taker's calls have taken, in order
abbrev pub taken : TakePass → List Packet
taken p = (view p.pass).taken

-- it is the sender's pass of this link
abbrev pub IsSenderOf : Link → SendPass → Type 0
IsSenderOf l p = IsPassOf l.queue p.pass × (p.capacity ≡ l.capacity) × (p.wear ≡ l.wear)

-- it is the taker's pass of this link
abbrev pub IsTakerOf : Link → TakePass → Type 0
IsTakerOf l p = IsPassOf l.queue p.pass × (p.capacity ≡ l.capacity) × (p.wear ≡ l.wear)

-- no packet like this one may follow these on a link that carries `wear` packets
abbrev pub IsWornFor : ℕ → List Packet → Packet → Type 0
IsWornFor wear sent x = (length sent ≡ wear) ⊎ ((length sent + 1 ≡ wear) × (is_last x ≡ false))

abbrev pub handed_back : Put → Packet
handed_back (Full x) = x
handed_back (Worn x) = x

abbrev pub is_worn : Result (Unit {0}) Put → Bool
is_worn (Ok _) = false
is_worn (Err (Full _)) = false
is_worn (Err (Worn _)) = true

abbrev pub is_full : Result (Unit {0}) Put → Bool
is_full (Ok _) = false
is_full (Err (Full _)) = true
is_full (Err (Worn _)) = false

-- whatever the link may hold, by its rule and by what the taker knows, passes the test
abbrev pub ShowsWhatIsHeld : TakePass → (List Packet → Bool) → Type 0
ShowsWhatIsHeld p seen = Learns Keeps p.pass.id (view p.pass) (λ items. seen items ≡ true)

-- what was sent and what was taken over a settled link
abbrev pub sent_in : Settled → List Packet
sent_in s = (view s.pass).sent

abbrev pub taken_in : Settled → List Packet
taken_in s = (view s.pass).taken

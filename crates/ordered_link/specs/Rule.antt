-- The rule of a link's queue: what was sent is what was taken and then what the queue holds, within the bounds. One pass
-- at most may send, and it knows what was sent. The same for taking.
use Rattle.std.specs.Prelude.{◌≡◌, ℕ, ◌≤◌, Bool, true, List, [], ◌∷◌, ◌++◌, length}
use mathlib.Core.Option.{some}
use lib.ListN.{get_elem?}
use Rattle.spl_value.specs.declared.packet.Packet.{Packet}
use Rattle.ordered_link.specs.declared.rule.Log.{Log}

abbrev pub log : Bool → Bool → ℕ → ℕ → List Packet → List Packet → Log
log a b capacity wear sent taken = record { sends = a; takes = b; capacity = capacity; wear = wear; sent = sent; taken = taken }

-- one packet more was sent, or taken
abbrev pub sends_more : Log → Packet → Log
sends_more v x = log v.sends v.takes v.capacity v.wear (v.sent ++ x ∷ []) v.taken

abbrev pub takes_more : Log → Packet → Log
takes_more v x = log v.sends v.takes v.capacity v.wear v.sent (v.taken ++ x ∷ [])

-- a pass that may send or take is the one that does, and it knows the list and the bounds
abbrev pub Fits : ℕ → ℕ → ℕ → ℕ → List Packet → List Packet → ℕ → Log → Type 0
Fits writer reader capacity wear sent taken port v =
    (v.sends ≡ true → (port ≡ writer) × (v.sent ≡ sent) × (v.capacity ≡ capacity) × (v.wear ≡ wear))
    × (v.takes ≡ true → (port ≡ reader) × (v.taken ≡ taken) × (v.capacity ≡ capacity) × (v.wear ≡ wear))

abbrev pub Keeps : List Packet → List Log → Type 0
Keeps items views = (writer : ℕ) × (reader : ℕ) × (capacity : ℕ) × (wear : ℕ) × (sent : List Packet) × (taken : List Packet)
    × (sent ≡ taken ++ items) × (length items ≤ capacity) × (length sent ≤ wear)
    × ((port : ℕ) (v : Log) → get_elem? views port ≡ some v → Fits writer reader capacity wear sent taken port v)

-- at that moment the link held these items, the last of those sent
abbrev pub IsSentUpTo : List Packet → List Packet → Type 0
IsSentUpTo sent items = (taken : List Packet) × (sent ≡ taken ++ items)

-- who knows both lists knows what is held
abbrev pub IsRest : Log → List Packet → Type 0
IsRest v items = (v.sent ≡ v.taken ++ items) × (length items ≤ v.capacity)

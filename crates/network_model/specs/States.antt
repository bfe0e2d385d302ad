-- The state of each element of a network, and what each event makes of it.
use Rattle.std.specs.Prelude.{ℕ, zero, suc, ◌==◌, Bool, true, false, List, [], ◌∷◌, ◌++◌, if◌then◌else◌, length, drop}
use Rattle.spl_value.specs.declared.packet.Packet.{Packet}
use Rattle.spl_value.specs.declared.packet.Packet.TheVariants as P
use Rattle.spl_value.specs.declared.value.Value.{Value}
use Rattle.spl_value.specs.Numbered.{is_cut}
use Rattle.stream_model.specs.declared.outgoing.Outgoing.{Outgoing}
use Rattle.stream_model.specs.Sending.{outgoing, on_output}
use Rattle.network_model.specs.Packets.{has_last}
use Rattle.network_model.specs.Networks.{Part, outputs, Net}
use Rattle.network_model.specs.Receipts.{Receipt, Popped, WasRead, popped}
use Rattle.network_model.specs.Adds.{adds}
use Rattle.network_model.specs.Sinks.{pours}
use Rattle.network_model.specs.Events.{NetEvent, Read, Pop, Push, Occurrence, Happens, Lacks, Cuts}

-- what it has taken as far as it owes for it, what it has taken besides, what it has pushed, what it owes and hasn't
-- pushed, and whether it is cut
pub record At : Type 0 where
  pub kept : List Receipt
  pub dropped : List Receipt
  pub pushed : List Outgoing
  pub outbox : List Outgoing
  pub cut : Bool

abbrev pub all_taken : At → List Receipt
all_taken a = a.kept ++ a.dropped

abbrev pub new_element : At
new_element = record { kept = []; dropped = []; pushed = []; outbox = []; cut = false }

-- `Cut` on each of the outputs from o on on which neither `Close` nor `Cut` was pushed
abbrev pub cuts_from : ℕ → ℕ → List Outgoing → List Outgoing
cuts_from o zero pushed = []
cuts_from o (suc n) pushed =
    if has_last (on_output o pushed) then cuts_from (suc o) n pushed else outgoing o P.Cut ∷ cuts_from (suc o) n pushed

-- it is cut: what it owes is `Cut` alone
abbrev pub cut_off : Part → At → At
cut_off part a =
    if a.cut then a
    else record {
      kept = a.kept;
      dropped = a.dropped;
      pushed = a.pushed;
      outbox = cuts_from 0 (outputs part) a.pushed;
      cut = true;
    }

-- it takes something and owes nothing for it
abbrev pub drops : At → Receipt → At
drops a taken =
    record { kept = a.kept; dropped = a.dropped ++ taken ∷ []; pushed = a.pushed; outbox = a.outbox; cut = a.cut }

-- it takes something and owes for it
abbrev pub keeps : Part → At → Receipt → At
keeps part a taken = record {
  kept = a.kept ++ taken ∷ [];
  dropped = a.dropped;
  pushed = a.pushed;
  outbox = a.outbox ++ adds part a.kept taken;
  cut = a.cut;
}

abbrev pub is_cut_receipt : Receipt → Bool
is_cut_receipt (Popped i packet) = is_cut packet
is_cut_receipt (WasRead item) = false

-- an element that is cut drops what it takes, and one that takes `Cut`, or that has no memory for what it takes, is cut
abbrev pub takes : Part → At → Receipt → At
takes part a taken =
    if a.cut then drops a taken else if is_cut_receipt taken then cut_off part (drops a taken) else keeps part a taken

-- it finds no memory for what it takes, and is cut
abbrev pub lacks : Part → At → Receipt → At
lacks part a taken = cut_off part (drops a taken)

-- it pushes what it owes first
abbrev pub puts : At → Outgoing → At
puts a s =
    record { kept = a.kept; dropped = a.dropped; pushed = a.pushed ++ s ∷ []; outbox = drop 1 a.outbox; cut = a.cut }

-- the tuples that wait for its sink, where these were handed out
abbrev pub waiting : Part → At → List (List Value) → List (List Value)
waiting part a poured = if a.cut then [] else drop (length poured) (pours part a.kept)

-- ---- the state of a network

-- an element's state, by its number; a link has none
abbrev pub State : Type 0
State = ℕ → At

abbrev pub begin : State
begin e = new_element

abbrev pub put : State → ℕ → At → State
put st e a k = if k == e then a else st k

abbrev pub happens_with : (Part → At → Receipt → At) → Net → State → NetEvent → State
happens_with take net st (Read e x) = put st e (take (net.part e) (st e) (WasRead x))
happens_with take net st (Pop l p) =
    put st (net.link l).to (take (net.part (net.link l).to) (st (net.link l).to) (Popped (net.link l).input p))
happens_with take net st (Push l p) =
    put st (net.link l).from (puts (st (net.link l).from) (outgoing (net.link l).output p))

abbrev pub after : Net → State → Occurrence → State
after net st (Happens event) = happens_with takes net st event
after net st (Lacks event) = happens_with lacks net st event
after net st (Cuts e) = put st e (cut_off (net.part e) (st e))

abbrev pub after_all : Net → State → List Occurrence → State
after_all net st [] = st
after_all net st (h ∷ list) = after_all net (after net st h) list

-- the state to which a list of events leads
abbrev pub reached : Net → List Occurrence → State
reached net list = after_all net begin list

-- the packets that were pushed on a link, and those that were popped from it
abbrev pub pushed_on : Net → State → ℕ → List Packet
pushed_on net st l = on_output (net.link l).output (st (net.link l).from).pushed

abbrev pub popped_from : Net → State → ℕ → List Packet
popped_from net st l = popped (net.link l).input (all_taken (st (net.link l).to))

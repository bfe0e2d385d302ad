-- The lists of a legal list of events in which every element is done.
use Rattle.std.proofs.Common.{ℕ, ◌<◌, List, [], ◌++◌, ◌≡◌, true, sym, ap, ◌∙◌, append-nil, arith}
use Rattle.spl_value.specs.declared.packet.Packet.{Packet}
use Rattle.spl_value.specs.Numbered.{stops_once}
use Rattle.stream_model.specs.Sending.{on_output}
use Rattle.network_model.specs.Networks.{Net}
use Rattle.network_model.specs.Receipts.{popped}
use Rattle.network_model.specs.Owed.{Binds}
use Rattle.network_model.specs.States.{State, begin, all_taken, after_all}
use Rattle.network_model.specs.Legal.{AllDone}
use Rattle.network_model.specs.Joined.{Joined, InProgress, taken_at, lists_of}
use Rattle.network_laws.specs.Shaped.{IsNet}
use Rattle.network_laws.specs.Flowing.{LegalAreInProgress, LegalJoins}
use Rattle.network_laws.proofs.Flowing.{binds-at}
use Rattle.network_model.proofs.Packets.{stops-end}
use Rattle.network_model.proofs.ElementLists.{lists-done, lists-move, stops-pushed}
use Rattle.network_laws.proofs.Legal.{LinkKeeps, NetKeeps, keep-begin, keep-all}

-- ---- joined lists

pub joined-state : (net : Net) (st : State) → IsNet net → NetKeeps net st → AllDone net st → ((e : ℕ) → e < net.size → Binds (net.part e) (taken_at (net.part e) (st e))) → Joined net (lists_of net st)
joined-state net st is k d b = record {
  links = links;
  elements = λ e lt. lists-done (net.part e) (st e) (is.parts e lt) (k.elements e lt).rule (k.elements e lt).range (d e lt);
}
  where
    links : (l : ℕ) → l < net.links → popped (net.link l).input (all_taken (st (net.link l).to)) ≡ on_output (net.link l).output (st (net.link l).from).pushed
    links l lt =
        let c : LinkKeeps (net.link l) st = k.links l lt in
        let low : (net.link l).from < (net.link l).to = is.earlier l lt in
        let top : (net.link l).to < net.size = is.within l lt in
        let from : (net.link l).from < net.size = omega (arith, low, top) in
        let got : List Packet = popped (net.link l).input (all_taken (st (net.link l).to)) in
        let stops : stops_once (on_output (net.link l).output (st (net.link l).from).pushed) ≡ true =
        stops-pushed (net.part (net.link l).from) (st (net.link l).from) (is.parts (net.link l).from from) (k.elements (net.link l).from from).rule (k.elements (net.link l).from from).range (d (net.link l).from from) (b (net.link l).from from)
        (net.link l).output (is.output l lt) in
        let none : c.waiting ≡ [] = stops-end got c.waiting (ap stops_once (sym c.are) ∙ stops) ((d (net.link l).to top).inputs_end (net.link l).input (is.input l lt)) in
        sym (c.are ∙ ap (λ z. got ++ z) none ∙ append-nil got)

-- ---- lists at any moment

pub progress-state : (net : Net) (st : State) → IsNet net → NetKeeps net st → InProgress net (lists_of net st)
progress-state net st is k = record {
  links = λ l lt. ((k.links l lt).waiting, sym (k.links l lt).are);
  elements = λ e lt. lists-move (net.part e) (st e) (is.parts e lt) (k.elements e lt).rule (k.elements e lt).range;
}

pub legal_are_in_progress : LegalAreInProgress
legal_are_in_progress net list is legal = progress-state net (after_all net begin list) is (keep-all net begin list is legal.legal (keep-begin net is))

pub legal_joins : LegalJoins
legal_joins net m rows entries list f legal under done =
    let st : State = after_all net begin list in
    let k : NetKeeps net (after_all net begin list) = keep-all net begin list f.is_net legal.legal (keep-begin net f.is_net) in
    let j : Joined net (lists_of net (after_all net begin list)) =
    joined-state net (after_all net begin list) f.is_net k done (λ e lt. binds-at net m rows entries (lists_of net (after_all net begin list)) f (progress-state net (after_all net begin list) f.is_net k) under e lt) in
    (j, λ clean. record { joined = j; whole = clean })

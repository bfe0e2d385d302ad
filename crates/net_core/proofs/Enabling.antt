-- What an enabled event says.
use Rattle.std.proofs.Common.{◌≡◌, ◌<◌, ◌+◌, ℕ, Bool, true, not, ◌&&◌, ◌||◌, List, [], ◌∷◌, ◌++◌, length, slice_get, Some, refl, nat_lt}
use Rattle.std.specs.Prelude.{is_some}
use Rattle.std.proofs.lemmas.Bool.{and_parts, ltb-true, or_cases}
use Rattle.spl_value.proofs.SegmentLaws.{not_true}
use Rattle.spl_value.specs.declared.packet.Packet.{Packet}
use Rattle.stream_model.specs.Sending.{outgoing}
use Rattle.stream_model.specs.Stream.{any_closes, is_empty}
use Rattle.stream_model.specs.declared.outgoing.Outgoing.{Outgoing}
use Rattle.network_model.specs.Legal.{MayPop, MayPush, MayRead, wants_at}
use Rattle.network_model.specs.Networks.{Net, Part, is_sourced}
use Rattle.network_model.specs.Packets.{has_last}
use Rattle.network_model.specs.Picking.{PopAt, PushAt, ReadAt, front_for, may_happen, may_pop, may_read}
use Rattle.network_model.specs.Receipts.{popped, read_in}
use Rattle.network_model.specs.States.{At, State, all_taken, popped_from, pushed_on}
use Rattle.network_model.proofs.Packets.{empty-nil}

pub reading : (net : Net) (st : State) (e : ℕ) → may_happen net st (ReadAt e) ≡ true → MayRead net st e
reading net st e h =
    let first = and_parts (nat_lt e net.size) (may_read (net.part e) (st e)) h in
    let second = and_parts (is_empty (st e).outbox) (is_sourced (net.part e) && (not (st e).cut && not (any_closes (read_in (st e).kept)))) first.1 in
    let third = and_parts (is_sourced (net.part e)) (not (st e).cut && not (any_closes (read_in (st e).kept))) second.1 in
    let fourth = and_parts (not (st e).cut) (not (any_closes (read_in (st e).kept))) third.1 in
    record {
      element = ltb-true e net.size first.0;
      idle = empty-nil (st e).outbox second.0;
      sourced = third.0;
      whole = not_true (st e).cut fourth.0;
      is_open = not_true (any_closes (read_in (st e).kept)) fourth.1;
    }

pub popping : (net : Net) (st : State) (l : ℕ) (p : Packet) → may_happen net st (PopAt l) ≡ true → slice_get (pushed_on net st l) (length (popped_from net st l)) ≡ Some p
    → MayPop net st l p
popping net st l p h front =
    let a : At = st (net.link l).to in
    let part : Part = net.part (net.link l).to in
    let i : ℕ = (net.link l).input in
    let first = and_parts (nat_lt l net.links) (may_pop part a i && is_some (slice_get (pushed_on net st l) (length (popped_from net st l)))) h in
    let may = and_parts (may_pop part a i) (is_some (slice_get (pushed_on net st l) (length (popped_from net st l)))) first.1 in
    let second = and_parts (is_empty a.outbox) (not (has_last (popped i (all_taken a))) && (a.cut || wants_at part a i)) may.0 in
    let third = and_parts (not (has_last (popped i (all_taken a)))) (a.cut || wants_at part a i) second.1 in
    record {
      link = ltb-true l net.links first.0;
      idle = empty-nil a.outbox second.0;
      front = front;
      is_open = not_true (has_last (popped i (all_taken a))) third.0;
      wanted = or_cases a.cut (wants_at part a i) third.1;
    }

pub pushing : (net : Net) (st : State) (l : ℕ) (p : Packet) (rest : List Outgoing) → may_happen net st (PushAt l) ≡ true
    → (st (net.link l).from).outbox ≡ outgoing (net.link l).output p ∷ rest → MayPush net st l p
pushing net st l p rest h front =
    let held : ℕ = length (pushed_on net st l) in
    let most : ℕ = net.capacity + length (popped_from net st l) in
    let first = and_parts (nat_lt l net.links) (nat_lt held most && is_some (front_for (net.link l).output (st (net.link l).from).outbox)) h in
    let room = and_parts (nat_lt held most) (is_some (front_for (net.link l).output (st (net.link l).from).outbox)) first.1 in
    record { link = ltb-true l net.links first.0; others = rest; first = front; room = ltb-true held most room.0 }

pub pushing_front : (net : Net) (st : State) (l : ℕ) → may_happen net st (PushAt l) ≡ true → is_some (front_for (net.link l).output (st (net.link l).from).outbox) ≡ true
pushing_front net st l h =
    let first = and_parts (nat_lt l net.links) (nat_lt (length (pushed_on net st l)) (net.capacity + length (popped_from net st l))
    && is_some (front_for (net.link l).output (st (net.link l).from).outbox)) h in
    (and_parts (nat_lt (length (pushed_on net st l)) (net.capacity + length (popped_from net st l)))
    (is_some (front_for (net.link l).output (st (net.link l).from).outbox)) first.1).1

pub pushing_room : (net : Net) (st : State) (l : ℕ) → may_happen net st (PushAt l) ≡ true → length (pushed_on net st l) < net.capacity + length (popped_from net st l)
pushing_room net st l h =
    let first = and_parts (nat_lt l net.links) (nat_lt (length (pushed_on net st l)) (net.capacity + length (popped_from net st l))
    && is_some (front_for (net.link l).output (st (net.link l).from).outbox)) h in
    ltb-true (length (pushed_on net st l)) (net.capacity + length (popped_from net st l))
    (and_parts (nat_lt (length (pushed_on net st l)) (net.capacity + length (popped_from net st l)))
    (is_some (front_for (net.link l).output (st (net.link l).from).outbox)) first.1).0

pub in_links : (net : Net) (st : State) (l : ℕ) (rest : Bool) → (nat_lt l net.links && rest) ≡ true → l < net.links
in_links net st l rest h = ltb-true l net.links (and_parts (nat_lt l net.links) rest h).0

-- the packet behind those that were popped
pub behind : (xs rest : List Packet) (p : Packet) → slice_get (xs ++ p ∷ rest) (length xs) ≡ Some p
behind [] rest p = refl
behind (x ∷ xs) rest p = behind xs rest p

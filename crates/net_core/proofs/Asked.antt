-- Which events are enabled, by their marks.
use Rattle.std.proofs.Common.{◌≡◌, ◌≤◌, ℕ, Bool, false, List, slice_get, Some, sym, ap, ◌∙◌, nat_lt}
use Rattle.std.proofs.lemmas.Bool.{and_left, le-ltb}
use Rattle.network_model.specs.Networks.{Net}
use Rattle.network_model.specs.Picking.{Choice, PopAt, PushAt, ReadAt, may_happen}
use Rattle.network_model.specs.States.{State}
use Rattle.enabled_events.specs.Marks.{IsEvent, MarksAt, place_of}

pub mark_is : (net : Net) (st : State) (marks : List Bool) (c : Choice) (place : ℕ) (r : Bool) → MarksAt net st marks → IsEvent net c → slice_get marks place ≡ Some r
    → place ≡ place_of net c → r ≡ may_happen net st c
mark_is net st marks c place r k ev got at =
    let both : Some r ≡ Some (may_happen net st c) = sym got ∙ ap (slice_get marks) at ∙ k.each c ev in
    cc

pub past_read : (net : Net) (st : State) (e : ℕ) → net.size ≤ e → false ≡ may_happen net st (ReadAt e)
past_read net st e h = sym (and_left (nat_lt e net.size) _ (le-ltb e net.size h))

pub past_pop : (net : Net) (st : State) (l : ℕ) → net.links ≤ l → false ≡ may_happen net st (PopAt l)
past_pop net st l h = sym (and_left (nat_lt l net.links) _ (le-ltb l net.links h))

pub past_push : (net : Net) (st : State) (l : ℕ) → net.links ≤ l → false ≡ may_happen net st (PushAt l)
past_push net st l h = sym (and_left (nat_lt l net.links) _ (le-ltb l net.links h))

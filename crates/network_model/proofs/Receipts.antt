-- What more receipts bring.
use Rattle.std.proofs.Common.{ℕ, ◌==◌, Bool, true, false, cond, List, [], ◌∷◌, ◌++◌, ◌≡◌, refl, sym, ap, ◌∙◌, append-nil, subst, map}
use Rattle.spl_value.specs.declared.packet.Packet.{Packet}
use Rattle.spl_value.specs.declared.packet.Packet.TheVariants as P
use Rattle.stream_model.specs.Stream.{IsPrefix, Event}
use Rattle.stream_model.specs.Inputs.{inputs_of, came_on}
use Rattle.stream_model.specs.Operators.{Operator}
use Rattle.stream_model.specs.Stages.{Stage, start, next, gives_all}
use Rattle.stream_model.specs.Records.{up_to_end}
use Rattle.stream_model.specs.parts.Records.{finds_items}
use Rattle.network_model.specs.Packets.{items_in, without_cut}
use Rattle.network_model.specs.Networks.{Part, FromSource, FromLinks, Splitter, Replica, Merger}
use Rattle.network_model.specs.Receipts.{Receipt, Popped, WasRead, popped, read_in, event_first, item_events}
use Rattle.network_model.specs.Owed.{entries_of, taken_of, send_all, item_lists}
use Rattle.network_model.specs.PartLaws.{IsLess}
use Rattle.network_model.proofs.Packets.{front-trans, front-left, front-without_cut, items_in-append}
use Rattle.network_model.proofs.Arrivals.{finds-own, front_to_end, front-came_on, arrive-own}
use Rattle.stream_model.specs.Meaning.{arrive}
use Rattle.stream_model.proofs.StageLaws.{gives_all-over}
use Rattle.stream_model.proofs.parts.Stages.{stage_outputs}
use Rattle.stream_model.specs.Chains.{passed}
use Rattle.network_model.specs.PartLaws.{ReceiptsLaw}

-- ---- what more receipts bring

pub popped-append : (i : ℕ) (T U : List Receipt) → popped i (T ++ U) ≡ popped i T ++ popped i U
popped-append i [] U = refl
popped-append i (WasRead x ∷ T) U = popped-append i T U
popped-append i (Popped j p ∷ T) U = go (j == i) (popped-append i T U)
  where
    go : (b : Bool) → popped i (T ++ U) ≡ popped i T ++ popped i U → cond b (p ∷ popped i (T ++ U)) (popped i (T ++ U)) ≡ cond b (p ∷ popped i T) (popped i T) ++ popped i U
    go true rest = ap (λ z. p ∷ z) rest
    go false rest = rest

pub read_in-append : (T U : List Receipt) → read_in (T ++ U) ≡ read_in T ++ read_in U
read_in-append [] U = refl
read_in-append (WasRead x ∷ T) U = ap (λ z. x ∷ z) (read_in-append T U)
read_in-append (Popped j p ∷ T) U = read_in-append T U

event_first-append : (i : ℕ) (p : Packet) (a b : List Event) → event_first i p (a ++ b) ≡ event_first i p a ++ b
event_first-append i (P.Item n x) a b = refl
event_first-append i (P.Pulse n) a b = refl
event_first-append i P.Close a b = refl
event_first-append i P.Cut a b = refl

pub item_events-append : (T U : List Receipt) → item_events (T ++ U) ≡ item_events T ++ item_events U
item_events-append [] U = refl
item_events-append (WasRead x ∷ T) U = item_events-append T U
item_events-append (Popped j p ∷ T) U = ap (event_first j p) (item_events-append T U) ∙ event_first-append j p (item_events T) (item_events U)

-- the events on an input are the items there
pub came_on-items : (i : ℕ) (T : List Receipt) → came_on (λ j. j == i) (item_events T) ≡ items_in (popped i T)
came_on-items i [] = refl
came_on-items i (WasRead x ∷ T) = came_on-items i T
came_on-items i (Popped j (P.Item n x) ∷ T) = go (j == i) (came_on-items i T)
  where
    go : (b : Bool) → came_on (λ k. k == i) (item_events T) ≡ items_in (popped i T)
        → cond b (x ∷ came_on (λ k. k == i) (item_events T)) (came_on (λ k. k == i) (item_events T)) ≡ items_in (cond b (P.Item n x ∷ popped i T) (popped i T))
    go true rest = ap (λ z. x ∷ z) rest
    go false rest = rest
came_on-items i (Popped j (P.Pulse n) ∷ T) = go (j == i) (came_on-items i T)
  where
    go : (b : Bool) → came_on (λ k. k == i) (item_events T) ≡ items_in (popped i T) → came_on (λ k. k == i) (item_events T) ≡ items_in (cond b (P.Pulse n ∷ popped i T) (popped i T))
    go true rest = rest
    go false rest = rest
came_on-items i (Popped j P.Close ∷ T) = go (j == i) (came_on-items i T)
  where
    go : (b : Bool) → came_on (λ k. k == i) (item_events T) ≡ items_in (popped i T) → came_on (λ k. k == i) (item_events T) ≡ items_in (cond b (P.Close ∷ popped i T) (popped i T))
    go true rest = rest
    go false rest = rest
came_on-items i (Popped j P.Cut ∷ T) = go (j == i) (came_on-items i T)
  where
    go : (b : Bool) → came_on (λ k. k == i) (item_events T) ≡ items_in (popped i T) → came_on (λ k. k == i) (item_events T) ≡ items_in (cond b (P.Cut ∷ popped i T) (popped i T))
    go true rest = rest
    go false rest = rest

-- ---- records of receipts

inputs-append : (xs ys : List Event) → inputs_of (xs ++ ys) ≡ inputs_of xs ++ inputs_of ys
inputs-append [] ys = refl
inputs-append (x ∷ xs) ys = ap (λ z. x.input ∷ z) (inputs-append xs ys)

pub front-inputs : (a b : List Event) → IsPrefix a b → IsPrefix (inputs_of a) (inputs_of b)
front-inputs a b p = (inputs_of p.0, sym (inputs-append a p.0) ∙ ap inputs_of p.1)

-- more events, and perhaps more up to the end
pub to_end-grows : (s : Stage) (a b : List Event) → IsPrefix (up_to_end s a) (up_to_end s (a ++ b))
to_end-grows s [] b = (up_to_end s b, refl)
to_end-grows s (e ∷ a) b = go (next s e).over (to_end-grows (next s e) a b)
  where
    go : (c : Bool) → IsPrefix (up_to_end (next s e) a) (up_to_end (next s e) (a ++ b))
        → IsPrefix (e ∷ cond c [] (up_to_end (next s e) a)) (e ∷ cond c [] (up_to_end (next s e) (a ++ b)))
    go true p = ([], refl)
    go false p = (p.0, ap (λ z. e ∷ z) p.1)

pub entries-grow : (part : Part) (T U : List Receipt) → IsPrefix (entries_of part T) (entries_of part (T ++ U))
entries-grow (FromSource source ops outs) T U = ([], refl)
entries-grow (FromLinks op ops outs) T U =
    front-inputs (up_to_end (start op) (item_events T)) (up_to_end (start op) (item_events (T ++ U)))
    (front-left (up_to_end (start op) (item_events T)) (up_to_end (start op) (item_events T)) (up_to_end (start op) (item_events (T ++ U))) (up_to_end (start op) (item_events T ++ item_events U))
    refl (ap (up_to_end (start op)) (item_events-append T U)) (to_end-grows (start op) (item_events T) (item_events U)))
entries-grow (Splitter region) T U = ([], refl)
entries-grow (Replica region channel) T U = ([], refl)
entries-grow (Merger region outs) T U = ([], refl)

-- the events up to the end come from the lists of all receipts
pub own-front : (op : Operator) (T U : List Receipt) (i : ℕ) → IsPrefix (came_on (λ j. j == i) (up_to_end (start op) (item_events T))) (items_in (popped i (T ++ U)))
own-front op T U i =
    front-trans (came_on (λ j. j == i) (up_to_end (start op) (item_events T))) (came_on (λ j. j == i) (item_events T)) (items_in (popped i (T ++ U)))
    (front-came_on i (up_to_end (start op) (item_events T)) (item_events T) (front_to_end (start op) (item_events T)))
    (items_in (popped i U), ap (λ z. z ++ items_in (popped i U)) (came_on-items i T) ∙ sym (items_in-append (popped i T) (popped i U)) ∙ ap items_in (sym (popped-append i T U)))

pub entries-found : (part : Part) (T U : List Receipt) → finds_items (λ i. items_in (popped i (T ++ U))) (entries_of part T) ≡ true
entries-found (FromSource source ops outs) T U = refl
entries-found (FromLinks op ops outs) T U = finds-own (up_to_end (start op) (item_events T)) (λ i. items_in (popped i (T ++ U))) (own-front op T U)
entries-found (Splitter region) T U = refl
entries-found (Replica region channel) T U = refl
entries-found (Merger region outs) T U = refl

pub front-popped : (T U : List Receipt) (i : ℕ) → IsPrefix (without_cut (popped i T)) (without_cut (popped i (T ++ U)))
front-popped T U i = front-without_cut (popped i T) (popped i (T ++ U)) (popped i U, sym (popped-append i T U))

pub found-here : (part : Part) (T : List Receipt) → finds_items (λ i. items_in (popped i T)) (entries_of part T) ≡ true
found-here part T = subst (λ Z. finds_items (λ i. items_in (popped i Z)) (entries_of part T) ≡ true) (append-nil T) (entries-found part T [])

-- what was taken is less than with more
pub taken-less : (part : Part) (T U : List Receipt) → IsLess (taken_of part T) (taken_of part (T ++ U))
taken-less part T U = record {
  packets = front-popped T U;
  items = (read_in U, sym (read_in-append T U));
  entries = entries-grow part T U;
  found = found-here part T;
}

-- ---- receipts in order

gives-to-end : (s : Stage) (events : List Event) → gives_all s (up_to_end s events) ≡ gives_all s events
gives-to-end s [] = refl
gives-to-end s (e ∷ events) = ap (λ z. stage_outputs s e ++ z) (go (next s e).over refl (gives-to-end (next s e) events))
  where
    go : (b : Bool) → (next s e).over ≡ b → gives_all (next s e) (up_to_end (next s e) events) ≡ gives_all (next s e) events
        → gives_all (next s e) (cond b [] (up_to_end (next s e) events)) ≡ gives_all (next s e) events
    go true q rest = sym (gives_all-over (next s e) events q)
    go false q rest = rest

-- what the first operator gives for the events that its record finds
pub own-arrive : (op : Operator) (ops : List Operator) (outs : List ℕ) (T : List Receipt)
    → gives_all (start op) (arrive (item_lists (taken_of (FromLinks op ops outs) T)) (entries_of (FromLinks op ops outs) T)) ≡ gives_all (start op) (item_events T)
own-arrive op ops outs T =
    ap (gives_all (start op))
    (arrive-own (up_to_end (start op) (item_events T)) (λ i. items_in (popped i T))
    (λ i. subst (λ Z. IsPrefix (came_on (λ j. j == i) (up_to_end (start op) (item_events T))) (items_in (popped i Z))) (append-nil T) (own-front op T [] i)))
    ∙ gives-to-end (start op) (item_events T)

pub receipts_law : ReceiptsLaw
receipts_law op ops outs receipts = ap (λ outputs. send_all outs (passed (map start ops) outputs)) (own-arrive op ops outs receipts)

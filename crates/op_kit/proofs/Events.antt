-- The events of an operator by its ports: what may come there, what is replied, and what the operator stands for then.
use Rattle.std.proofs.Common.{◌≡◌, ◌<◌, ◌≤◌, ◌+◌, ◌&&◌, ◌==◌, ◌++◌, ℕ, Bool, true, false, not, if◌then◌else◌, IsTrue, List, [], ◌∷◌, length, is_none, slice_get, Some, None, refl, sym, ap, subst, ◌∙◌, arith}
use Rattle.std.specs.List.{list_all}
use Rattle.std.proofs.lemmas.Bool.{lt-ltb, ne_eqb}
use Rattle.spl_value.proofs.Lists.{get_below, get_within}
use Rattle.spl_value.specs.declared.item.Item.{Item}
use Rattle.spl_value.specs.declared.item.Item.TheVariants as I
use Rattle.language_model.specs.declared.checked.CheckedClauses.{CheckedClauses}
use Rattle.language_model.specs.declared.checked.CheckedClauses.TheVariants as A
use Rattle.op_kit.specs.Kinds.{is_held}
use Rattle.std.proofs.lemmas.Grind.{common_steps}
use Rattle.spl_tree.specs.declared.graph.Op.{Op}
use Rattle.spl_tree.specs.declared.graph.OpKind.{OpKind}
use Rattle.spl_tree.specs.declared.graph.OpKind.TheVariants as O
use Rattle.language_model.specs.CheckedGraph.{CheckedGraph}
use Rattle.language_model.specs.Checking.{fit_ports}
use Rattle.language_model.specs.Keeping.{Keeps, PortsHave}
use Rattle.language_model.specs.Keeping as K
use Rattle.language_model.specs.StreamTypes.{Attributes}
use Rattle.stream_model.specs.CheckedMeaning.{graph_of, operator_with}
use Rattle.stream_model.proofs.CheckedOperators.{operator_from}
use Rattle.stream_model.specs.declared.reply.Reply.{Reply}
use Rattle.stream_model.specs.declared.reply.Reply.TheVariants as R
use Rattle.stream_model.specs.Stream.{Event, any_closes, came, is_empty, is_fault, is_final}
use Rattle.stream_model.specs.Inputs.{came_on}
use Rattle.stream_model.specs.Operators.{Operator, ports}
use Rattle.stream_model.specs.parts.Operators.{port_at}
use Rattle.stream_model.specs.PortEvents.{ends_all, is_over, is_waiting, port_events}
use Rattle.stream_model.proofs.parts.PortEvents.{all_ended}
use Rattle.stream_model.specs.parts.PortEvents.{port_ended}
use Rattle.stream_model.specs.PortLaws.{PortEndLaw, WaitingLaw, has_connections, name_inputs}
use Rattle.stream_model.specs.Bodies.{on_each}
use Rattle.stream_model.specs.React.{Reaction, Gives, Faults, answered, body, ended, ended_by, react}
use Rattle.stream_model.specs.parts.React.{port_body}
use Rattle.stream_model.specs.Replies.{AllFit, IsTaken, MayTake, OutsFit, Replies, end_by, is_live}
use Rattle.stream_model.specs.Fitting.{EventsFit, HistoryFits, IsFitting, ReactsFit, CheckedFits}
use Rattle.port_reacts.specs.Bodies.{GoesOn}
use Rattle.port_reacts.specs.PortReplies.{MayTakeAt, RepliesAt, ends_at, gives_at, goes_on}
use Rattle.connection_counts.specs.Counting.{CountsOpen, open_at}
use Rattle.connection_counts.proofs.Counting.{none_open, not_final}
use Rattle.connection_counts.proofs.Ends.{closed}
use Rattle.op_kit.specs.Standing.{StandsFor}
use Rattle.op_kit.specs.steps.Ending.{EndsAs}
use Rattle.stream_model.proofs.FittingEvents.{event_port}
use Rattle.spl_value.proofs.Bools.{and_parts}

-- ---- what came by the ports

-- the history by ports fits
by_ports_fit : (op : Operator) (h : List Event) → IsFitting op → EventsFit op h → HistoryFits op (port_events op h)
by_ports_fit op [] fit events = tt
by_ports_fit op (e ∷ h) fit events = go (is_waiting op h e) (by_ports_fit op h fit events.1)
  where
    go : (w : Bool) → HistoryFits op (port_events op h) → HistoryFits op (if w then port_events op h else came (port_at (ports op) e.input) e.item ∷ port_events op h)
    go true rest = rest
    go false rest = (event_port op e fit events.0, rest)

-- an operator that hasn't ended goes on by its ports
by_ports_goes : (op : Operator) (h : List Event) → is_live op h ≡ true → goes_on op (port_events op h) ≡ true
by_ports_goes op [] live = refl
by_ports_goes op (e ∷ h) live =
    let parts = and_parts (is_live op h) (is_none (ended op h e)) live in
    go (is_waiting op h e) refl parts.1 (by_ports_goes op h parts.0)
  where
    a : Reaction
    a = port_body op (port_events op h) (port_at (ports op) e.input) e.item

    ends : (f last : Bool) (a : Reaction) → is_none (if f then Some e.item else ended_by op last a) ≡ true → is_none (if f then Some e.item else ended_by op false a) ≡ true
    ends true last a none = none
    ends false last (Gives outs) none = refl
    ends false last (Faults kind) none = none

    go : (w : Bool) → is_waiting op h e ≡ w → is_none (ended op h e) ≡ true → goes_on op (port_events op h) ≡ true
        → goes_on op (if w then port_events op h else came (port_at (ports op) e.input) e.item ∷ port_events op h) ≡ true
    go true q stays rest = rest
    go false q stays rest =
        let own = ends (is_fault e.item) (ends_all op h e) a
        (ap (λ w. is_none (if is_fault e.item then Some e.item else if w then None else ended_by op (ends_all op h e) (body op h e))) (sym q) ∙ stays) in
        ap (λ b. b && is_none (ends_at op (port_events op h) (port_at (ports op) e.input) e.item)) rest ∙ own

-- ---- open inputs

-- on an input that is open no final marker has come
over_not : (h : List Event) (i : ℕ) → any_closes (came_on (λ j. j == i) h) ≡ false → is_over h i ≡ false
over_not [] i none = refl
over_not (e ∷ h) i none = go (e.input == i) e.item none (over_not h i)
  where
    go : (b : Bool) (x : Item) → any_closes (if b then x ∷ came_on (λ j. j == i) h else came_on (λ j. j == i) h) ≡ false
        → (any_closes (came_on (λ j. j == i) h) ≡ false → is_over h i ≡ false) → (if b && is_final x then true else is_over h i) ≡ false
    go true (I.Tuple values) q rest = rest q
    go true I.Window q rest = rest q
    go true I.Final q rest = absurd (let no : true ≡ false = q in cc)
    go true (I.Bad fault) q rest = absurd (let no : true ≡ false = q in cc)
    go false x q rest = rest q

names_all : (op : Operator) (h : List Event) → EventsFit op h → name_inputs op h ≡ true
names_all op [] events = refl
names_all op (e ∷ h) events = ap (λ b. b && name_inputs op h) (lt-ltb e.input (length (ports op)) events.0.0) ∙ names_all op h events.1

-- so its port hasn't ended
port_open : (op : Operator) (h : List Event) (i : ℕ) → PortEndLaw → has_connections op ≡ true → EventsFit op h → i < length (ports op) → is_over h i ≡ false
    → is_over (port_events op h) (port_at (ports op) i) ≡ false
port_open op h i law connected events lt was =
    let k = closed op h i lt was in
    law op h (port_at (ports op) i) connected (names_all op h events) k.below
    ∙ none_open (λ q. q == port_at (ports op) i) (ports op) 0 h
    ∙ ne_eqb (open_at op (port_at (ports op) i) h) 0 (λ z. let e = k.own in omega (arith, e, z))

-- what may come on an input may come on its port
pub may_at : (op : Operator) (s : List Event → Type 0) (h : List Event) (i : ℕ) (x : Item) (own open_of : List ℕ) (left outputs : ℕ) → PortEndLaw
    → StandsFor op s h own open_of left outputs → MayTake op h (came i x) → MayTakeAt op (port_events op h) (port_at (ports op) i) x
may_at op s h i x own open_of left outputs law stands may = record {
  fitting = stands.fitting;
  history = by_ports_fit op h stands.fitting stands.events;
  goes_on = by_ports_goes op h may.live;
  is_open = port_open op h i law stands.connected stands.events may.input (over_not h i may.is_open);
  has = event_port op (came i x) stands.fitting (may.input, may.has);
}

pub open_input : (op : Operator) (h : List Event) (i : ℕ) (x : Item) → MayTake op h (came i x) → is_over h i ≡ false
open_input op h i x may = over_not h i may.is_open

-- ---- replies

same_given : (op : Operator) (h : List Event) (i : ℕ) (x : Item) → is_waiting op h (came i x) ≡ false → ends_all op h (came i x) ≡ false
    → react op h (came i x) ≡ gives_at op (port_events op h) (port_at (ports op) i) x
same_given op h i x moves on = λ j. if is_fault x then on_each (length op.outs) x else if moves j then [] else answered op (on j) (body op h (came i x))

same_ended : (op : Operator) (h : List Event) (i : ℕ) (x : Item) → is_waiting op h (came i x) ≡ false → ends_all op h (came i x) ≡ false
    → ended op h (came i x) ≡ ends_at op (port_events op h) (port_at (ports op) i) x
same_ended op h i x moves on = λ j. if is_fault x then Some x else if moves j then None else ended_by op (on j) (body op h (came i x))

-- where it neither waits nor is the last, an event causes what it causes at its port
pub replies_moved : (op : Operator) (h : List Event) (i : ℕ) (x : Item) (r : Reply) → is_waiting op h (came i x) ≡ false → ends_all op h (came i x) ≡ false
    → RepliesAt op (port_events op h) (port_at (ports op) i) x r → Replies op h (came i x) r
replies_moved op h i x (R.Out outs) moves on k = (k.0 ∙ sym (same_given op h i x moves on), same_ended op h i x moves on ∙ k.1)
replies_moved op h i x (R.Ended outs fault) moves on k = (k.0 ∙ sym (same_given op h i x moves on), same_ended op h i x moves on ∙ k.1)
replies_moved op h i x R.Memory moves on k = tt

-- what isn't a final marker neither waits nor is the last
pub not_waiting : (op : Operator) (h : List Event) (i : ℕ) (x : Item) → is_final x ≡ false → is_waiting op h (came i x) ≡ false
not_waiting op h i x none = ap (λ b. b && not (port_ended op (port_at (ports op) i) (came i x ∷ h))) none

pub not_last : (op : Operator) (h : List Event) (i : ℕ) (x : Item) → is_final x ≡ false → ends_all op h (came i x) ≡ false
not_last op h i x none = ap (λ b. b && all_ended op (came i x ∷ h)) none

-- the last one causes final markers after that
react_last : (op : Operator) (h : List Event) (i : ℕ) (a : Reaction) → is_waiting op h (came i I.Final) ≡ false → ends_all op h (came i I.Final) ≡ true → body op h (came i I.Final) ≡ a
    → (react op h (came i I.Final) ≡ answered op true a) × (ended op h (came i I.Final) ≡ ended_by op true a)
react_last op h i a moves last is = (
  (λ j. if moves j then [] else answered op (last j) (is j)),
  (λ j. if moves j then None else ended_by op (last j) (is j)),
)

pub replies_last : (op : Operator) (h : List Event) (i : ℕ) (r result : Reply) → is_waiting op h (came i I.Final) ≡ false → ends_all op h (came i I.Final) ≡ true
    → RepliesAt op (port_events op h) (port_at (ports op) i) I.Final r → EndsAs (length op.outs) r result → Replies op h (came i I.Final) result
replies_last op h i (R.Out outs) (R.Out given) moves last k ends = absurd ends
replies_last op h i (R.Out outs) (R.Ended given fault) moves last k ends = by (body op h (came i I.Final)) refl k.0 k.1
  where
    by : (a : Reaction) → body op h (came i I.Final) ≡ a → outs ≡ answered op false a → ended_by op false a ≡ None → Replies op h (came i I.Final) (R.Ended given fault)
    by (Gives own) is same none =
        let r = react_last op h i (Gives own) moves last is in
        (ends.0 ∙ ap (λ o. o ++ on_each (length op.outs) I.Final) same ∙ sym r.0, r.1 ∙ ap (λ f. Some (end_by f)) (sym ends.1))
    by (Faults kind) is same none = absurd cc
replies_last op h i (R.Out outs) R.Memory moves last k ends = tt
replies_last op h i (R.Ended outs fault) result moves last k ends = subst (Replies op h (came i I.Final)) (sym ends) (by (body op h (came i I.Final)) refl k.0 k.1)
  where
    by : (a : Reaction) → body op h (came i I.Final) ≡ a → outs ≡ answered op false a → ended_by op false a ≡ Some (end_by fault) → Replies op h (came i I.Final) (R.Ended outs fault)
    by (Gives own) is same some = absurd cc
    by (Faults kind) is same some = let r = react_last op h i (Faults kind) moves last is in (same ∙ sym r.0, r.1 ∙ some)
replies_last op h i R.Memory result moves last k ends = subst (Replies op h (came i I.Final)) (sym ends) tt

-- where another connection of the port is open, nothing is caused
pub replies_waiting : (op : Operator) (s : List Event → Type 0) (h : List Event) (i : ℕ) (own open_of : List ℕ) (left outputs : ℕ) (r : Reply) → WaitingLaw
    → StandsFor op s h own open_of left outputs → is_waiting op h (came i I.Final) ≡ true → GoesOn [] r → Replies op h (came i I.Final) r
replies_waiting op s h i own open_of left outputs (R.Out outs) law stands waits k = let own = law op h (came i I.Final) waits in (k ∙ sym own.0, own.1)
replies_waiting op s h i own open_of left outputs (R.Ended outs fault) law stands waits k = absurd k
replies_waiting op s h i own open_of left outputs R.Memory law stands waits k = tt

---- the histories that the operator stands for

pub taken_before : (ports : ℕ) (r result : Reply) → EndsAs ports r result → IsTaken result → IsTaken r
taken_before ports (R.Out outs) result ends taken = tt
taken_before ports (R.Ended outs fault) result ends taken = tt
taken_before ports R.Memory result ends taken = subst IsTaken ends taken

pub stands_moved : (op : Operator) (old new : List Event → Type 0) (h : List Event) (i p : ℕ) (x : Item) (own open_of : List ℕ) (left outputs : ℕ) (own_now open_now : List ℕ) (left_now : ℕ)
    → StandsFor op old h own open_of left outputs → MayTake op h (came i x) → is_waiting op h (came i x) ≡ false → p ≡ port_at (ports op) i
    → CountsOpen op (came i x ∷ h) own_now open_now left_now → new (came p x ∷ port_events op h) → StandsFor op new (came i x ∷ h) own_now open_now left_now outputs
stands_moved op old new h i p x own open_of left outputs own_now open_now left_now stands may moves port counts next = record {
  fitting = stands.fitting;
  connected = stands.connected;
  outs = stands.outs;
  events = ((may.input, may.has), stands.events);
  counts = counts;
  stands = subst new (sym ((λ j. if moves j then port_events op h else came (port_at (ports op) i) x ∷ port_events op h) ∙ ap (λ q. came q x ∷ port_events op h) (sym port))) next;
}

pub stands_waiting : (op : Operator) (s : List Event → Type 0) (h : List Event) (i : ℕ) (own open_of : List ℕ) (left outputs : ℕ) (own_now open_now : List ℕ) (left_now : ℕ)
    → WaitingLaw → StandsFor op s h own open_of left outputs → MayTake op h (came i I.Final) → is_waiting op h (came i I.Final) ≡ true
    → CountsOpen op (came i I.Final ∷ h) own_now open_now left_now → StandsFor op s (came i I.Final ∷ h) own_now open_now left_now outputs
stands_waiting op s h i own open_of left outputs own_now open_now left_now law stands may waits counts = record {
  fitting = stands.fitting;
  connected = stands.connected;
  outs = stands.outs;
  events = ((may.input, may.has), stands.events);
  counts = counts;
  stands = subst s (sym (law op h (came i I.Final) waits).2) stands.stands;
}

-- the counts are those after an event that is no final marker
pub counts_stay : (op : Operator) (h : List Event) (e : Event) (own open_of : List ℕ) (left : ℕ) → is_final e.item ≡ false → CountsOpen op h own open_of left → CountsOpen op (e ∷ h) own open_of left
counts_stay op h e own open_of left none counts = record {
  ports_are = counts.ports_are;
  each = λ p below. counts.each p below ∙ ap (λ n. Some n) (sym (not_final (λ q. q == p) (ports op) 0 e h none));
  all = counts.all ∙ sym (not_final (λ q. true) (ports op) 0 e h none);
}

-- ---- kinds

-- a source isn't held
pub not_held : (part : CheckedClauses) (file : List ℕ) (strict : Bool) → part ≡ A.FileSource file strict → IsTrue (is_held part) → ⊥
not_held part file strict is held = let bad : false ≡ true = sym (ap is_held is) ∙ held in cc

-- ---- as they are asked

port_is : (op : Operator) (h : List Event) (i p : ℕ) (own open_of : List ℕ) (left : ℕ) → CountsOpen op h own open_of left → p ≡ port_at own i → p ≡ port_at (ports op) i
port_is op h i p own open_of left counts port = port ∙ ap (λ ps. port_at ps i) counts.ports_are

-- what may come on an input may come on this port
at_own : (op : Operator) (s : List Event → Type 0) (h : List Event) (i p : ℕ) (x : Item) (own open_of : List ℕ) (left outputs : ℕ) → PortEndLaw
    → StandsFor op s h own open_of left outputs → MayTake op h (came i x) → p ≡ port_at own i → MayTakeAt op (port_events op h) p x
at_own op s h i p x own open_of left outputs law stands may port =
    subst (λ q. MayTakeAt op (port_events op h) q x) (sym (port_is op h i p own open_of left stands.counts port)) (may_at op s h i x own open_of left outputs law stands may)

-- what an operator is asked by its port
pub asks : (op : Operator) (s : List Event → Type 0) (h : List Event) (i p : ℕ) (x : Item) (own open_of : List ℕ) (left outputs : ℕ) → PortEndLaw
    → StandsFor op s h own open_of left outputs → MayTake op h (came i x) → p ≡ port_at own i → (k : List Event) × s k × MayTakeAt op k p x
asks op s h i p x own open_of left outputs law stands may port = (port_events op h, stands.stands, at_own op s h i p x own open_of left outputs law stands may port)

-- what it is asked of its connections
pub asks_connections : (op : Operator) (s : List Event → Type 0) (h : List Event) (i : ℕ) (x : Item) (own open_of : List ℕ) (left outputs : ℕ)
    → StandsFor op s h own open_of left outputs → MayTake op h (came i x)
    → (op : Operator) × (h : List Event) × CountsOpen op h own open_of left × (i < length (ports op)) × (is_over h i ≡ false)
asks_connections op s h i x own open_of left outputs stands may = (op, h, stands.counts, may.input, over_not h i may.is_open)

-- an event that neither waits nor is the last
pub replies_on : (op : Operator) (s : List Event → Type 0) (h : List Event) (i p : ℕ) (x : Item) (own open_of : List ℕ) (left outputs : ℕ) (r : Reply) → PortEndLaw
    → StandsFor op s h own open_of left outputs → MayTake op h (came i x) → p ≡ port_at own i → is_waiting op h (came i x) ≡ false → ends_all op h (came i x) ≡ false
    → ((k : List Event) → s k → MayTakeAt op k p x → RepliesAt op k p x r) → Replies op h (came i x) r
replies_on op s h i p x own open_of left outputs r law stands may port moves on replies =
    let k = at_own op s h i p x own open_of left outputs law stands may port in
    replies_moved op h i x r moves on
    (subst (λ q. RepliesAt op (port_events op h) q x r) (port_is op h i p own open_of left stands.counts port) (replies (port_events op h) stands.stands k))

-- the last one
pub replies_end : (op : Operator) (s : List Event → Type 0) (h : List Event) (i p : ℕ) (own open_of : List ℕ) (left outputs : ℕ) (r result : Reply) → PortEndLaw
    → StandsFor op s h own open_of left outputs → MayTake op h (came i I.Final) → p ≡ port_at own i → is_waiting op h (came i I.Final) ≡ false → ends_all op h (came i I.Final) ≡ true
    → ((k : List Event) → s k → MayTakeAt op k p I.Final → RepliesAt op k p I.Final r) → EndsAs outputs r result → Replies op h (came i I.Final) result
replies_end op s h i p own open_of left outputs r result law stands may port moves last replies ends =
    let k = at_own op s h i p I.Final own open_of left outputs law stands may port in
    replies_last op h i r result moves last
    (subst (λ q. RepliesAt op (port_events op h) q I.Final r) (port_is op h i p own open_of left stands.counts port) (replies (port_events op h) stands.stands k))
    (subst (λ n. EndsAs n r result) stands.outs ends)

-- the history that it stands for after an event that doesn't wait
pub stands_on : (op next : Operator) (old new : List Event → Type 0) (h : List Event) (i p : ℕ) (x : Item) (own open_of : List ℕ) (left outputs : ℕ) (own_now open_now : List ℕ) (left_now : ℕ)
    (r : Reply) → PortEndLaw → next ≡ op → StandsFor op old h own open_of left outputs → MayTake op h (came i x) → p ≡ port_at own i → is_waiting op h (came i x) ≡ false
    → CountsOpen op (came i x ∷ h) own_now open_now left_now → ((k : List Event) → old k → MayTakeAt op k p x → IsTaken r → new (came p x ∷ k)) → IsTaken r
    → StandsFor next new (came i x ∷ h) own_now open_now left_now outputs
stands_on op next old new h i p x own open_of left outputs own_now open_now left_now r law same stands may port moves counts moved taken =
    let k = at_own op old h i p x own open_of left outputs law stands may port in
    subst (λ o. StandsFor o new (came i x ∷ h) own_now open_now left_now outputs) (sym same)
    (stands_moved op old new h i p x own open_of left outputs own_now open_now left_now stands may moves (port_is op h i p own open_of left stands.counts port) counts (moved (port_events op h) stands.stands k taken))

-- ---- what fits

pub final_not : (x : Item) → (x ≡ I.Final → ⊥) → is_final x ≡ false
final_not (I.Tuple vs) apart = refl
final_not I.Window apart = refl
final_not I.Final apart = absurd (apart refl)
final_not (I.Bad f) apart = refl

-- a final marker may come where an item that is one may
pub may_final : (op : Operator) (h : List Event) (i : ℕ) (x : Item) → x ≡ I.Final → MayTake op h (came i x) → MayTake op h (came i I.Final)
may_final op h i x is may = subst (λ y. MayTake op h (came i y)) is may

-- what isn't a final marker
pub replies_plain : (op : Operator) (s : List Event → Type 0) (h : List Event) (i p : ℕ) (x : Item) (own open_of : List ℕ) (left outputs : ℕ) (r : Reply) → PortEndLaw
    → StandsFor op s h own open_of left outputs → MayTake op h (came i x) → p ≡ port_at own i → is_final x ≡ false
    → ((k : List Event) → s k → MayTakeAt op k p x → RepliesAt op k p x r) → Replies op h (came i x) r
replies_plain op s h i p x own open_of left outputs r law stands may port none replies =
    replies_on op s h i p x own open_of left outputs r law stands may port (not_waiting op h i x none) (not_last op h i x none) replies

pub stands_plain : (op next : Operator) (old new : List Event → Type 0) (h : List Event) (i p : ℕ) (x : Item) (own open_of : List ℕ) (left outputs : ℕ) (r : Reply) → PortEndLaw
    → next ≡ op → StandsFor op old h own open_of left outputs → MayTake op h (came i x) → p ≡ port_at own i → is_final x ≡ false
    → ((k : List Event) → old k → MayTakeAt op k p x → IsTaken r → new (came p x ∷ k)) → IsTaken r → StandsFor next new (came i x ∷ h) own open_of left outputs
stands_plain op next old new h i p x own open_of left outputs r law same stands may port none moved taken =
    stands_on op next old new h i p x own open_of left outputs own open_of left r law same stands may port (not_waiting op h i x none)
    (counts_stay op h (came i x) own open_of left none stands.counts) moved taken

-- what is replied has the attributes of its streams
pub replies_fit : (op : Operator) (s : List Event → Type 0) (h : List Event) (i : ℕ) (x : Item) (own open_of : List ℕ) (left outputs : ℕ) (r : Reply) → ReactsFit
    → StandsFor op s h own open_of left outputs → MayTake op h (came i x) → Replies op h (came i x) r → OutsFit op r
replies_fit op s h i x own open_of left outputs (R.Out outs) law stands may k =
    subst (AllFit op) (sym k.0) (law op h (came i x) stands.fitting stands.events may.live (may.input, may.has)).1
replies_fit op s h i x own open_of left outputs (R.Ended outs fault) law stands may k =
    subst (AllFit op) (sym k.0) (law op h (came i x) stands.fitting stands.events may.live (may.input, may.has)).1
replies_fit op s h i x own open_of left outputs R.Memory law stands may k = tt

-- ---- few ports

-- no kind of operator has more than 16 ports of either sort
few_ports : (kind : OpKind) (ins outs : ℕ) → IsTrue (fit_ports kind ins outs) → (ins ≤ 16) × (outs ≤ 16)
few_ports O.FileSource ins outs fit = (grind (arith, common_steps), grind (arith, common_steps))
few_ports O.FileSink ins outs fit = (grind (arith, common_steps), grind (arith, common_steps))
few_ports O.Filter ins outs fit = (grind (arith, common_steps), grind (arith, common_steps))
few_ports O.Functor ins outs fit = (grind (arith, common_steps), grind (arith, common_steps))
few_ports O.Punctor ins outs fit = (grind (arith, common_steps), grind (arith, common_steps))
few_ports O.Split ins outs fit = (grind (arith, common_steps), grind (arith, common_steps))
few_ports O.Union ins outs fit = (grind (arith, common_steps), grind (arith, common_steps))
few_ports O.Custom ins outs fit = (grind (arith, common_steps), grind (arith, common_steps))
few_ports O.Aggregate ins outs fit = (grind (arith, common_steps), grind (arith, common_steps))
few_ports O.Join ins outs fit = (grind (arith, common_steps), grind (arith, common_steps))

pub few_outs : (op : Operator) (s : List Event → Type 0) (h : List Event) (own open_of : List ℕ) (left outputs : ℕ) → StandsFor op s h own open_of left outputs → outputs ≤ 16
few_outs op s h own open_of left outputs stands =
    let fit = stands.fitting in
    let few = (few_ports fit.kind (length op.types.ins) (length op.types.outs) fit.ports).1 in
    let same = stands.outs in
    let typed = fit.outs in
    omega (arith, few, same, typed)

-- ---- the start

connected_ports : (schemas : List Attributes) (ports : List (List ℕ)) (ins : List Attributes) → PortsHave schemas ports ins → list_all (λ streams. not (is_empty streams)) ports ≡ true
connected_ports schemas _ _ K.no_ports = refl
connected_ports schemas _ _ (K.one_port streams ports schema rest has more) = go streams (connected_ports schemas ports rest more) has.some
  where
    go : (streams : List ℕ) → list_all (λ streams. not (is_empty streams)) ports ≡ true → 0 < length streams
        → (not (is_empty streams) && list_all (λ streams. not (is_empty streams)) ports) ≡ true
    go [] later some = absurd (omega (arith, some))
    go (t ∷ streams) later some = later

-- each port of an operator of a checked graph has a connection
pub connected : (c : CheckedGraph) (n : ℕ) (op : Op) (part : CheckedClauses) → Keeps c → slice_get c.graph.ops n ≡ Some op → slice_get c.parts n ≡ Some part
    → has_connections (operator_with c n op part) ≡ true
connected c n op part keeps there has = let fit = keeps.operators n op part there has in connected_ports c.schemas op.ins fit.ins fit.takes

op_same : (x y : Op) → Some x ≡ Some y → x ≡ y
op_same x y e = cc

pub few_made : (c : CheckedGraph) (n : ℕ) (made : Op) → Keeps c → slice_get c.graph.ops n ≡ Some made → length made.ins ≤ 16
few_made c n made keeps there =
    let within = get_within c.graph.ops n made there in
    let same = keeps.parts in
    let part = get_below c.parts n (omega (arith, within, same)) in
    let fit = keeps.operators n made part.0 there part.1 in
    (few_ports made.kind (length made.ins) (length made.outs) fit.ports).0

-- a new operator stands for no event
pub stands_first : (c : CheckedGraph) (n : ℕ) (made : Op) (own : Operator) (s : List Event → Type 0) (ports open_of : List ℕ) (left outputs : ℕ) → CheckedFits → Keeps c
    → slice_get c.graph.ops n ≡ Some made → slice_get (graph_of c).ops n ≡ Some own
    → ((o : Operator) → o.ins ≡ made.ins → CountsOpen o [] ports open_of left) → outputs ≡ length made.outs → s [] → StandsFor own s [] ports open_of left outputs
stands_first c n made own s ports open_of left outputs law keeps there is counts outs stands =
    let w = operator_from c 0 c.graph.ops c.parts n own is in
    let same : w.op ≡ made = op_same w.op made (sym w.there ∙ there) in
    record {
      fitting = law c n own keeps is;
      connected = ap has_connections w.same ∙ connected c (0 + n) w.op w.part keeps (ap (slice_get c.graph.ops) (zero_plus n) ∙ w.there) (ap (slice_get c.parts) (zero_plus n) ∙ w.has);
      outs = outs ∙ ap (λ (o : Op). length o.outs) (sym same) ∙ ap (λ (o : Operator). length o.outs) (sym w.same);
      events = tt;
      counts = counts own (ap (λ (o : Operator). o.ins) w.same ∙ ap (λ (o : Op). o.ins) same);
      stands = stands;
    }
  where
    zero_plus : (n : ℕ) → 0 + n ≡ n
    zero_plus n = omega arith

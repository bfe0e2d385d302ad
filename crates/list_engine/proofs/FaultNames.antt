-- Whom the fault of a run names.
use Rattle.std.proofs.Common.{◌≡◌, ℕ, zero, suc, ◌<◌, ◌==◌, Bool, true, false, cond, if◌then◌else◌, List, [], ◌∷◌, ◌++◌, refl, sym, ap, subst, ◌∙◌, map, length, reverse, slice_get, Option, Some, None, is_some, position, inl, inr, arith}
use Rattle.std.specs.Prelude.{⊤}
use Rattle.std.specs.List.{cons_option, filter_map, list_any}
use Rattle.std.specs.Option.{option_and_then, option_map_or, option_or}
use Rattle.std.proofs.lemmas.Bool.{or_parts}
use Rattle.std.proofs.lemmas.List.{reverse-append}
use Rattle.std.proofs.lemmas.Option.{slice_get_within}
use Rattle.spl_value.specs.declared.item.Fault.{Fault}
use Rattle.spl_value.specs.declared.item.Item.{Item}
use Rattle.spl_value.specs.declared.item.Item.TheVariants as I
use Rattle.language_model.specs.declared.checked.CheckedClauses.{CheckedClauses}
use Rattle.language_model.specs.declared.checked.CheckedClauses.TheVariants as A
use Rattle.language_model.specs.declared.outs.Output.{Output}
use Rattle.stream_model.specs.Bodies.{on_each, output}
use Rattle.stream_model.specs.Ends.{end_fault, end_from, fault_of, first_fault, is_read, stream_fault, unread_fault}
use Rattle.stream_model.specs.parts.Ends.{operator_fault}
use Rattle.stream_model.specs.Meaning.{Lists, Entries, Meaning, arrive, events_at, events_of, in_topo, lists_at, made_by, makes, meaning, streams_of, taking}
use Rattle.stream_model.proofs.parts.Meaning.{with_list}
use Rattle.stream_model.specs.Operators.{Operator, connections}
use Rattle.stream_model.specs.PortEvents.{ends_all, is_waiting}
use Rattle.stream_model.specs.React.{Reaction, Gives, Faults, answered, body, ended, own_fault, react}
use Rattle.stream_model.specs.Stages.{gives_all, next, on_port, out, start}
use Rattle.stream_model.specs.Stream.{Event, came, is_fault}
use Rattle.spl_value.specs.Numbered.{closes}
use Rattle.stream_model.proofs.Closings.{end_item_law}
use Rattle.stream_model.proofs.Graphs.{events_law}
use Rattle.stream_model.proofs.KindBodies.{body_law}
use Rattle.list_engine.specs.RunLaws.{FaultsName, FaultNamesLaw}
use Rattle.list_engine.proofs.GraphOperators.{is_numbered}

-- ---- items

-- a fault names an operator below the count
abbrev ItemWithin : ℕ → Item → Type 0
ItemWithin count (I.Tuple vs) = ⊤
ItemWithin count I.Window = ⊤
ItemWithin count I.Final = ⊤
ItemWithin count (I.Bad f) = f.op < count

abbrev Within : ℕ → List Item → Type 0
Within count [] = ⊤
Within count (x ∷ items) = ItemWithin count x × Within count items

abbrev EventsWithin : ℕ → List Event → Type 0
EventsWithin count [] = ⊤
EventsWithin count (e ∷ events) = ItemWithin count e.item × EventsWithin count events

abbrev OutsWithin : ℕ → List Output → Type 0
OutsWithin count [] = ⊤
OutsWithin count (o ∷ outs) = ItemWithin count o.item × OutsWithin count outs

named_within : (count n : ℕ) → n < count → (items : List Item) → FaultsName n items → Within count items
named_within count n lt [] h = tt
named_within count n lt (I.Tuple vs ∷ items) h = (tt, named_within count n lt items h)
named_within count n lt (I.Window ∷ items) h = (tt, named_within count n lt items h)
named_within count n lt (I.Final ∷ items) h = (tt, named_within count n lt items h)
named_within count n lt (I.Bad f ∷ items) h = (subst (λ k. k < count) (sym h.0) lt, named_within count n lt items h.1)

outs_both : (count : ℕ) (a b : List Output) → OutsWithin count a → OutsWithin count b → OutsWithin count (a ++ b)
outs_both count [] b h k = k
outs_both count (o ∷ a) b h k = (h.0, outs_both count a b h.1 k)

each_within : (count n : ℕ) (x : Item) → ItemWithin count x → OutsWithin count (on_each n x)
each_within count zero x h = tt
each_within count (suc n) x h = outs_both count (on_each n x) (output n x ∷ []) (each_within count n x h) (h, tt)

port_within : (count p : ℕ) (outs : List Output) → OutsWithin count outs → Within count (on_port p outs)
port_within count p [] h = tt
port_within count p (o ∷ outs) h = go (o.port == p) (port_within count p outs h.1)
  where
    go : (b : Bool) → Within count (on_port p outs) → Within count (cond b (o.item ∷ on_port p outs) (on_port p outs))
    go true rest = (h.0, rest)
    go false rest = rest

-- what doesn't close is no fault
open_item : (count : ℕ) (x : Item) → closes x ≡ false → ItemWithin count x
open_item count (I.Tuple vs) h = tt
open_item count I.Window h = tt
open_item count I.Final h = tt
open_item count (I.Bad f) h = absurd (let clash : true ≡ false = h in cc)

open_outs : (count : ℕ) (outs : List Output) → list_any (λ o. closes o.item) outs ≡ false → OutsWithin count outs
open_outs count [] h = tt
open_outs count (o ∷ outs) h = let parts = or_parts (closes o.item) (list_any (λ x. closes x.item) outs) h in (open_item count o.item parts.0, open_outs count outs parts.1)

-- ---- an operator

module _ (count : ℕ) (op : Operator) (named : op.number < count) where
  answered_within : (last : Bool) (earlier : List Event) (e : Event) → OutsWithin count (answered op last (body op earlier e))
  answered_within last earlier e = go last (body op earlier e) refl
    where
      go : (l : Bool) (a : Reaction) → body op earlier e ≡ a → OutsWithin count (answered op l a)
      go l (Faults kind) q = each_within count (length op.outs) (own_fault op kind) named
      go true (Gives outs) q = outs_both count outs (on_each (length op.outs) I.Final) (open_outs count outs (body_law op earlier e outs q)) (each_within count (length op.outs) I.Final tt)
      go false (Gives outs) q = open_outs count outs (body_law op earlier e outs q)

  react_within : (earlier : List Event) (e : Event) → ItemWithin count e.item → OutsWithin count (react op earlier e)
  react_within earlier e h = go (is_fault e.item) (is_waiting op earlier e)
    where
      go : (f w : Bool) → OutsWithin count (if f then on_each (length op.outs) e.item else if w then [] else answered op (ends_all op earlier e) (body op earlier e))
      go true w = each_within count (length op.outs) e.item h
      go false true = tt
      go false false = answered_within (ends_all op earlier e) earlier e

  stage_within : (seen : List Event) (over : Bool) (events : List Event) → EventsWithin count events → OutsWithin count (gives_all (record { op = op; seen = seen; over = over }) events)
  stage_within seen over [] h = tt
  stage_within seen true (e ∷ events) h = stage_within seen true events h.1
  stage_within seen false (e ∷ events) h =
      outs_both count (react op seen e) (gives_all (next (record { op = op; seen = seen; over = false }) e) events) (react_within seen e h.0)
      (stage_within (e ∷ seen) (is_some (ended op seen e)) events h.1)

  out_within : (p : ℕ) (events : List Event) → EventsWithin count events → Within count (out op p events)
  out_within p events h = port_within count p (gives_all (start op) events) (stage_within [] false events h)

  end_named : (earlier : List Event) (e : Event) (x : Item) → ItemWithin count e.item → ended op earlier e ≡ Some x → ItemWithin count x
  end_named earlier e x h q = elim (end_item_law op earlier e x q) [
    | inl final ↦ subst (ItemWithin count) (sym final) tt
    | inr other ↦ elim other [
      | inl came_in ↦ subst (ItemWithin count) (sym came_in.0) h
      | inr own ↦ subst (ItemWithin count) (sym own.2) named
    ]
  ]

  end_within : (seen : List Event) (over : Bool) (events : List Event) (x : Item) → over ≡ false → EventsWithin count events
      → end_from (record { op = op; seen = seen; over = over }) events ≡ Some x → ItemWithin count x
  end_within seen over [] x live h q = absurd (let clash : None ≡ Some x = q in cc)
  end_within seen true (e ∷ events) x live h q = absurd (let clash : true ≡ false = live in cc)
  end_within seen false (e ∷ events) x live h q = go (ended op seen e) refl q (λ r. end_within (e ∷ seen) false events x refl h.1 r)
    where
      go : (found : Option Item) → ended op seen e ≡ found → option_or found (end_from (record { op = op; seen = e ∷ seen; over = is_some found }) events) ≡ Some x
          → (end_from (record { op = op; seen = e ∷ seen; over = false }) events ≡ Some x → ItemWithin count x) → ItemWithin count x
      go None is r rest = rest r
      go (Some y) is r rest = end_named seen e x h.0 (is ∙ r)

  fault_within : (events : List Event) (f : Fault) → EventsWithin count events → operator_fault op events ≡ Some f → f.op < count
  fault_within events f h q = go (end_from (start op) events) refl q
    where
      by_item : (x : Item) → ItemWithin count x → fault_of x ≡ Some f → f.op < count
      by_item (I.Tuple vs) k r = absurd (let clash : None ≡ Some f = r in cc)
      by_item I.Window k r = absurd (let clash : None ≡ Some f = r in cc)
      by_item I.Final k r = absurd (let clash : None ≡ Some f = r in cc)
      by_item (I.Bad y) k r = let same : y ≡ f = cc in subst (λ (z : Fault). z.op < count) same k

      go : (found : Option Item) → end_from (start op) events ≡ found → option_and_then fault_of found ≡ Some f → f.op < count
      go None is r = absurd (let clash : None ≡ Some f = r in cc)
      go (Some x) is r = by_item x (end_within [] false events x refl h is) r

-- ---- the streams

came_within : (count i : ℕ) (items : List Item) → Within count items → EventsWithin count (map (came i) items)
came_within count i [] h = tt
came_within count i (x ∷ items) h = (h.0, came_within count i items h.1)

arrive_within : (count : ℕ) (entries : List ℕ) (lists : Lists) → ((i : ℕ) → Within count (lists i)) → EventsWithin count (arrive lists entries)
arrive_within count [] lists h = tt
arrive_within count (i ∷ entries) lists h = go (lists i) (h i) (λ xs k. arrive_within count entries (with_list lists i xs) k)
  where
    other : (xs : List Item) → Within count xs → (j : ℕ) → Within count (with_list lists i xs j)
    other xs k j = by (j == i)
      where
        by : (b : Bool) → Within count (if b then xs else lists j)
        by true = k
        by false = h j

    go : (xs : List Item) → Within count xs → ((xs : List Item) → ((j : ℕ) → Within count (with_list lists i xs j)) → EventsWithin count (arrive (with_list lists i xs) entries))
        → EventsWithin count (taking i xs (λ items. arrive (with_list lists i items) entries))
    go [] k rest = tt
    go (x ∷ xs) k rest = (k.0, rest xs (other xs k.1))

lists_within : (count : ℕ) (streams : Lists) (ss : List ℕ) → ((s : ℕ) → Within count (streams s)) → (i : ℕ) → Within count (lists_at streams ss i)
lists_within count streams [] h i = tt
lists_within count streams (s ∷ ss) h zero = h s
lists_within count streams (s ∷ ss) h (suc i) = lists_within count streams ss h i

events_within : (count : ℕ) (streams : Lists) (ss entries : List ℕ) → ((s : ℕ) → Within count (streams s)) → EventsWithin count (events_at streams ss entries)
events_within count streams [] entries h = tt
events_within count streams (s ∷ []) entries h = came_within count 0 (streams s) (h s)
events_within count streams (s ∷ t ∷ ss) entries h = arrive_within count entries (lists_at streams (s ∷ t ∷ ss)) (lists_within count streams (s ∷ t ∷ ss) h)

-- an operator whose number is below the count, and whose rows, where it is a source, name such operators
record Named (count : ℕ) (rows : Lists) (op : Operator) : Type 0 where
  number : op.number < count
  source : (file : List ℕ) (strict : Bool) → op.clauses ≡ A.FileSource file strict → Within count (rows op.number)

abbrev AllNamed : ℕ → Lists → List Operator → Type 0
AllNamed count rows [] = ⊤
AllNamed count rows (op ∷ ops) = Named count rows op × AllNamed count rows ops

made_within : (count : ℕ) (rows : Lists) (op : Operator) (p : ℕ) (events : List Event) → Named count rows op → EventsWithin count events → Within count (made_by op.clauses op p events (rows op.number))
made_within count rows op p events h k = go op.clauses refl
  where
    go : (part : CheckedClauses) → op.clauses ≡ part → Within count (made_by part op p events (rows op.number))
    go (A.FileSource file strict) q = h.source file strict q
    go (A.FileSink file) q = out_within count op h.number p events k
    go (A.Filter condition) q = out_within count op h.number p events k
    go (A.Functor condition made) q = out_within count op h.number p events k
    go (A.Punctor condition position) q = out_within count op h.number p events k
    go (A.Split index) q = out_within count op h.number p events k
    go (A.Union places) q = out_within count op h.number p events k
    go (A.Custom handlers) q = out_within count op h.number p events k
    go (A.Aggregate window partition group collects) q = out_within count op h.number p events k
    go (A.Join left right condition made) q = out_within count op h.number p events k

streams_within : (count : ℕ) (rows : Lists) (entries : Entries) (ops : List Operator) → AllNamed count rows ops → (s : ℕ) → Within count (streams_of ops rows entries s)
streams_within count rows entries [] h s = tt
streams_within count rows entries (op ∷ earlier) h s = go (position (λ o. o == s) op.outs) (streams_within count rows entries earlier h.1)
  where
    go : (found : Option ℕ) → ((t : ℕ) → Within count (streams_of earlier rows entries t))
        → Within count (option_map_or (λ p. makes op p (streams_of earlier rows entries) rows entries) found (streams_of earlier rows entries s))
    go None rest = rest s
    go (Some p) rest =
        made_within count rows op p (events_of op (streams_of earlier rows entries) (entries op.number)) h.0
        (events_within count (streams_of earlier rows entries) (connections op) (entries op.number) rest)

all_both : (count : ℕ) (rows : Lists) (a b : List Operator) → AllNamed count rows a → AllNamed count rows b → AllNamed count rows (a ++ b)
all_both count rows [] b h k = k
all_both count rows (o ∷ a) b h k = (h.0, all_both count rows a b h.1 k)

all_reverse : (count : ℕ) (rows : Lists) (ops : List Operator) → AllNamed count rows ops → AllNamed count rows (reverse ops)
all_reverse count rows [] h = tt
all_reverse count rows (o ∷ ops) h =
    subst (AllNamed count rows) (sym (reverse-append (o ∷ []) ops)) (all_both count rows (reverse ops) (o ∷ []) (all_reverse count rows ops h.1) (h.0, tt))

all_topo : (count : ℕ) (rows : Lists) (at : ℕ → Option Operator) → ((n : ℕ) (op : Operator) → at n ≡ Some op → Named count rows op) → (numbers : List ℕ) → AllNamed count rows (filter_map at numbers)
all_topo count rows at each [] = tt
all_topo count rows at each (n ∷ numbers) = go (at n) refl (all_topo count rows at each numbers)
  where
    go : (found : Option Operator) → at n ≡ found → AllNamed count rows (filter_map at numbers) → AllNamed count rows (cons_option found (filter_map at numbers))
    go None q rest = rest
    go (Some op) q rest = (each n op q, rest)

-- ---- the ends

stream_named : (count : ℕ) (items : List Item) (f : Fault) → Within count items → stream_fault items ≡ Some f → f.op < count
stream_named count [] f h e = absurd cc
stream_named count (I.Tuple vs ∷ items) f h e = stream_named count items f h.1 e
stream_named count (I.Window ∷ items) f h e = stream_named count items f h.1 e
stream_named count (I.Final ∷ items) f h e = absurd cc
stream_named count (I.Bad x ∷ items) f h e = let same : x ≡ f = cc in subst (λ (y : Fault). y.op < count) same h.0

-- the first fault is one of those
pub first_of : {X : Type 0} (h : X → Option Fault) (xs : List X) (f : Fault) → first_fault (map h xs) ≡ Some f → (n : ℕ) × (x : X) × (slice_get xs n ≡ Some x) × (h x ≡ Some f)
first_of h [] f e = absurd cc
first_of {X = X} h (x ∷ xs) f e = go (h x) refl e (first_of h xs f)
  where
    go : (found : Option Fault) → h x ≡ found → option_or found (first_fault (map h xs)) ≡ Some f
        → (first_fault (map h xs) ≡ Some f → (n : ℕ) × (y : X) × (slice_get xs n ≡ Some y) × (h y ≡ Some f))
        → (n : ℕ) × (y : X) × (slice_get (x ∷ xs) n ≡ Some y) × (h y ≡ Some f)
    go None q e rest = let r = rest e in (suc r.0, r.1, r.2, r.3)
    go (Some y) q e rest = (0, x, refl, q ∙ e)

pub unread : (b : Bool) (o : Option Fault) (f : Fault) → (if b then None else o) ≡ Some f → o ≡ Some f
unread true o f e = absurd cc
unread false o f e = e

pub fault_names_law : FaultNamesLaw
fault_names_law c g rows entries f k e names q =
    let found = first_of (λ (o : Operator). end_fault g m o o.outs) g.ops f q in
    go found.0 found.1 found.2 found.1.outs refl found.3
  where
    m : Meaning
    m = meaning g rows entries

    each : (n : ℕ) (op : Operator) → slice_get g.ops n ≡ Some op → Named (length g.ops) rows op
    each n op at =
        let number : op.number ≡ n = is_numbered c g e n op at in
        let within : n < length g.ops = slice_get_within g.ops n op at in
        let below : op.number < length g.ops = omega (arith, number, within) in
        record {
          number = below;
          source = λ file strict kind. named_within (length g.ops) op.number below (rows op.number)
              (subst (λ j. FaultsName j (rows j)) (sym number) (names n op file strict at kind));
        }

    all : (s : ℕ) → Within (length g.ops) (m.streams s)
    all s = streams_within (length g.ops) rows entries (reverse (in_topo g)) (all_reverse (length g.ops) rows (in_topo g) (all_topo (length g.ops) rows (slice_get g.ops) each g.topo)) s

    go : (n : ℕ) (op : Operator) → slice_get g.ops n ≡ Some op → (outs : List ℕ) → op.outs ≡ outs → end_fault g m op op.outs ≡ Some f → f.op < length g.ops
    go n op at [] none q =
        fault_within (length g.ops) op (each n op at).number (m.events op.number) f
        (subst (EventsWithin (length g.ops)) (sym (events_law g rows entries op n (is_numbered c g e) at)) (events_within (length g.ops) m.streams (connections op) (entries op.number) all))
        (ap (end_fault g m op) (sym none) ∙ q)
    go n op at (s ∷ outs) some q =
        let one = first_of (unread_fault g m) (s ∷ outs) f (ap (end_fault g m op) (sym some) ∙ q) in
        stream_named (length g.ops) (m.streams one.1) f (all one.1) (unread (is_read g.ops one.1) (stream_fault (m.streams one.1)) f one.3)

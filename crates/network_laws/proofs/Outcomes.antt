-- What the chains of settled lists have given, their records, and the flow of links.
use Rattle.std.proofs.Common.{ℕ, ◌+◌, length-append, zero, suc, ◌<◌, ◌≤◌, ◌==◌, Bool, true, false, cond, List, [], ◌∷◌, ◌++◌, ◌≡◌, ◌⊎◌, refl, sym, ap, ◌∙◌, append-nil, length, map, arith, subst, inl, inr, position}
use Rattle.std.specs.List.{concat}
use Rattle.std.proofs.Math.Path.{fun_ext}
use Rattle.std.specs.Prelude.{filter, not}
use Rattle.std.proofs.lemmas.Bool.{cases_lt}
use Rattle.std.proofs.lemmas.List.Elements.{filter-append}
use Rattle.list_engine.proofs.Ports.{input_count}
use Rattle.spl_value.specs.declared.packet.Packet.{Packet}
use Rattle.spl_value.specs.Numbered.{is_close, closes}
use Rattle.spl_value.specs.declared.item.Item.{Item}
use Rattle.spl_value.specs.Numbered.{stops_once}
use Rattle.language_model.specs.declared.outs.Output.{Output}
use Rattle.stream_model.specs.Stream.{Event, came, is_closed, is_empty, IsPrefix}
use Rattle.stream_model.specs.Operators.{Operator, connections, ports}
use Rattle.stream_model.specs.Bodies.{output}
use Rattle.stream_model.specs.Stages.{start, gives_all, stage_after, on_port, out}
use Rattle.stream_model.specs.Meaning.{Graph, Lists, Entries, arrive, lists_at, events_at, events_of, meaning, in_topo}
use Rattle.stream_model.specs.Laws.{IsOrdered, has_ended}
use Rattle.stream_model.specs.Records.{is_whole}
use Rattle.stream_model.proofs.StageLaws.{gives_all-append, gives_all-over}
use Rattle.network_model.specs.Packets.{items_in, has_last, is_stream, packets_of, besides_close}
use Rattle.network_model.specs.Networks.{Part, FromSource, FromLinks, Splitter, Replica, Merger, inputs, Net}
use Rattle.network_model.specs.Receipts.{Taken}
use Rattle.stream_model.specs.Chains.{passed}
use Rattle.network_model.specs.Owed.{item_lists, given, Binds}
use Rattle.network_model.specs.States.{State, begin, after_all}
use Rattle.network_model.specs.Joined.{NetworkLists, owed_on, IsRecorded, IsJoined, Joined, Settled, taken_at, lists_of}
use Rattle.network_model.specs.Networks.{last_of}
use Rattle.network_model.specs.Wiring.{IsWired, PartFits, Path, IsLast}
use Rattle.network_model.specs.Flow.{flow, expects, IsUnder, IsUnderAt}
use Rattle.network_model.specs.PartLaws.{IsLess}
use Rattle.network_laws.specs.Shaped.{IsNet}
use Rattle.network_laws.specs.Flowing.{full, entries_for, IsFlowing}
use Rattle.network_laws.specs.RegionStreams.{is_regional, RegionsHold}
use Rattle.network_laws.specs.JoinedLaws.{CarriedLaw, JoinedGivesLaw, SettledGivesLaw, WholeLaw}
use Rattle.network_laws.specs.LegalLaws.{PlainLaw, LegalLaw, MomentLaw}
use Rattle.network_model.proofs.Packets.{front-map, items_in-packets_of}
use Rattle.network_model.proofs.Chains.{front-on_port, front-gives_all, front-passed, front-arrive}
use Rattle.network_laws.proofs.Meanings.{GivesStreams, operator-gives, source-gives, position-one, full-events}
use Rattle.network_laws.proofs.Flowing.{owed-flow, joined_are_in_progress, less-at, taken-all}
use Rattle.network_laws.proofs.Joining.{wired-net, wired-flowing, all-meet, settled-meets, progress-links}
use Rattle.network_laws.proofs.Wholeness.{recorded-ends, recorded-whole, closed-packets}
use Rattle.network_laws.proofs.Legal.{NetKeeps, keep-begin, keep-all}
use Rattle.network_laws.proofs.Ending.{legal_are_in_progress, legal_joins, joined-state}

-- ---- what the last operator of a chain gives

module _ (g : Graph) (rows : Lists) (entries : Entries) (ordered : IsOrdered (in_topo g)) where
  -- these are what an operator gives in the meaning
  abbrev GivesAll : Operator → List Output → Type 0
  GivesAll op outs = (p : ℕ) → on_port p outs ≡ out op p (events_of op (meaning g rows entries).streams (entries op.number))

  next-gives : (op next : Operator) (s : ℕ) (outs : List Output) → op.outs ≡ s ∷ [] → next.ins ≡ (s ∷ []) ∷ [] → GivesStreams g rows entries ordered op outs
      → GivesAll next (gives_all (start next) (map (came 0) (on_port 0 outs)))
  next-gives op next s outs one reads gives p =
      ap (λ (items : List Item). out next p (map (came 0) items)) (gives 0 s (ap (position (λ t. t == s)) one ∙ position-one s))
      ∙ ap (λ ins. out next p (events_at (meaning g rows entries).streams (concat ins) (entries next.number))) (sym reads)

  last-gives : (op : Operator) (ops : List Operator) (outs : List Output) → Path g op ops → GivesStreams g rows entries ordered op outs → GivesAll op outs
      → GivesAll (last_of op ops) (passed (map start ops) outs)
  last-gives op [] outs path streams all = all
  last-gives op (next ∷ ops) outs path streams all =
      let mine : GivesAll next (gives_all (start next) (map (came 0) (on_port 0 outs))) = next-gives op next path.0 outs path.1 path.2 streams in
      last-gives next ops (gives_all (start next) (map (came 0) (on_port 0 outs))) path.5
      (operator-gives g rows entries ordered next (map (came 0) (on_port 0 outs)) path.3 path.4 mine) mine

  full-gives : (part : Part) (t : Taken) (last : Operator) → PartFits g part → IsLast part last
      → (p : ℕ) → on_port p (given part (full (meaning g rows entries) rows entries part t)) ≡ out last p (events_of last (meaning g rows entries).streams (entries last.number))
  full-gives (FromSource source [] outs) t last fits is p = absurd is
  full-gives (FromSource source (next ∷ ops) outs) t last fits is p =
      let streams : GivesStreams g rows entries ordered source (map (output 0) (rows source.number)) =
      source-gives g rows entries ordered source fits.stream fits.stands fits.reads fits.one_stream in
      let mine : GivesAll next (gives_all (start next) (map (came 0) (on_port 0 (map (output 0) (rows source.number))))) =
      next-gives source next fits.path.0 (map (output 0) (rows source.number)) fits.path.1 fits.path.2 streams in
      last-gives next ops (gives_all (start next) (map (came 0) (on_port 0 (map (output 0) (rows source.number))))) fits.path.5
      (operator-gives g rows entries ordered next (map (came 0) (on_port 0 (map (output 0) (rows source.number)))) fits.path.3 fits.path.4 mine) mine p
      ∙ ap (λ (o : Operator). out o p (events_of o (meaning g rows entries).streams (entries o.number))) is
  full-gives (FromLinks op ops outs) t last fits is p =
      let events : List Event = arrive (λ i. items_in (packets_of (lists_at (meaning g rows entries).streams (connections op) i))) (entries_for (connections op) (meaning g rows entries).streams (entries op.number)) in
      let mine : GivesAll op (gives_all (start op) events) = λ q. ap (out op q) (full-events (meaning g rows entries).streams (connections op) (entries op.number)) in
      last-gives op ops (gives_all (start op) events) fits.path (operator-gives g rows entries ordered op events fits.stands fits.no_source mine) mine p
      ∙ ap (λ (o : Operator). out o p (events_of o (meaning g rows entries).streams (entries o.number))) is
  full-gives (Splitter region) t last fits is p = absurd is
  full-gives (Replica region channel) t last fits is p = absurd is
  full-gives (Merger region outs) t last fits is p = absurd is

front-given : (part : Part) (t u : Taken) (last : Operator) → IsLast part last → IsLess t u → IsPrefix (given part t) (given part u)
front-given (FromSource source ops outs) t u last is less = front-passed ops (map (output 0) t.items) (map (output 0) u.items) (front-map (output 0) t.items u.items less.items)
front-given (FromLinks op ops outs) t u last is less =
    front-passed ops (gives_all (start op) (arrive (item_lists t) t.entries)) (gives_all (start op) (arrive (item_lists u) u.entries))
    (front-gives_all (start op) (arrive (item_lists t) t.entries) (arrive (item_lists u) u.entries) (front-arrive t u less))
front-given (Splitter region) t u last is less = absurd is
front-given (Replica region channel) t u last is less = absurd is
front-given (Merger region outs) t u last is less = absurd is

pub joined_gives_law : JoinedGivesLaw
joined_gives_law g net lists rows entries wired holds j under e p last lt is =
    let streams : Lists = (meaning g rows entries).streams in
    let u : Taken = full (meaning g rows entries) rows entries (net.part e) (lists.taken e) in
    let front : IsPrefix (on_port p (given (net.part e) (lists.taken e))) (on_port p (given (net.part e) u)) =
    front-on_port p (given (net.part e) (lists.taken e)) (given (net.part e) u)
    (front-given (net.part e) (lists.taken e) u last is (less-at net (meaning g rows entries) rows entries lists (wired-flowing g rows entries wired.ordered wired.numbered net lists wired holds under) (joined_are_in_progress net lists j) under e lt)) in
    (front.0, front.1 ∙ full-gives g rows entries wired.ordered (net.part e) (lists.taken e) last (wired.parts e lt) is p)

-- ---- settled lists

-- an operator that has ended gives no more
ended-same : (op : Operator) (some all : List Event) → IsPrefix some all → has_ended op some ≡ true → gives_all (start op) some ≡ gives_all (start op) all
ended-same op some all p h =
    sym (append-nil (gives_all (start op) some))
    ∙ ap (λ z. gives_all (start op) some ++ z) (sym (gives_all-over (stage_after (start op) some) p.0 h))
    ∙ sym (gives_all-append (start op) some p.0)
    ∙ ap (gives_all (start op)) p.1

-- a front of a stream that is closed is all of it
closed-all : (some all : List Item) → IsPrefix some all → is_closed some ≡ true → is_stream all ≡ true → some ≡ all
closed-all [] all p c s = absurd (cc)
closed-all (x ∷ some) all p c s =
    ap (λ z. x ∷ z) (go (closes x) c (ap is_stream p.1 ∙ s) (λ c s. closed-all some (some ++ p.0) (p.0, refl) c s)) ∙ p.1
  where
    none : (xs ys : List Item) → is_empty xs ≡ true → is_empty (xs ++ ys) ≡ true → xs ≡ xs ++ ys
    none [] [] a b = refl
    none [] (y ∷ ys) a b = absurd (cc)
    none (x ∷ xs) ys a b = absurd (cc)

    go : (b : Bool) → cond b (is_empty some) (is_closed some) ≡ true → cond b (is_empty (some ++ p.0)) (is_stream (some ++ p.0)) ≡ true
        → (is_closed some ≡ true → is_stream (some ++ p.0) ≡ true → some ≡ some ++ p.0) → some ≡ some ++ p.0
    go true c s rest = none some p.0 c s
    go false c s rest = rest c s

lists_at-past : (streams : Lists) (conns : List ℕ) (i : ℕ) → length conns ≤ i → lists_at streams conns i ≡ []
lists_at-past streams [] i le = refl
lists_at-past streams (s ∷ conns) zero le = absurd (omega (arith, le))
lists_at-past streams (s ∷ conns) (suc i) le = lists_at-past streams conns i (omega (arith, le))

module _ (g : Graph) (net : Net) (lists : NetworkLists) (rows : Lists) (entries : Entries) (wired : IsWired g net) (holds : RegionsHold net (meaning g rows entries)) (settled : Settled net lists) (under : IsUnder net lists rows entries) where
  flowing : IsFlowing net (meaning g rows entries) rows entries
  flowing = wired-flowing g rows entries wired.ordered wired.numbered net lists wired holds under

  -- the packets at the inputs of a chain are those of streams of the meaning, and closed
  inputs-at : (e : ℕ) (op : Operator) (ops : List Operator) (outs : List ℕ) → e < net.size → net.part e ≡ FromLinks op ops outs → (i : ℕ) → i < length (ports op)
      → ((lists.taken e).packets i ≡ packets_of (lists_at (meaning g rows entries).streams (connections op) i)) × (stops_once (packets_of (lists_at (meaning g rows entries).streams (connections op) i)) ≡ true)
      × (has_last (packets_of (lists_at (meaning g rows entries).streams (connections op) i)) ≡ true)
  inputs-at e op ops outs lt is i within =
      let count : inputs (net.part e) ≡ length (ports op) = ap inputs is in
      let here : i < inputs (net.part e) = omega (arith, count, within) in
      let all = taken-all net (meaning g rows entries) rows entries lists flowing settled under (all-meet g rows entries wired.ordered wired.numbered net wired (settled-meets g net lists rows entries wired holds settled under)) e i lt here in
      let same : expects (meaning g rows entries) (net.part e) i ≡ packets_of (lists_at (meaning g rows entries).streams (connections op) i) = ap (λ z. expects (meaning g rows entries) z i) is in
      (all.0 ∙ same, ap stops_once (sym same) ∙ all.1, ap has_last (sym (all.0 ∙ same)) ∙ (settled.joined.elements e lt).inputs_end i here)

  closed-inputs : (e : ℕ) (op : Operator) (ops : List Operator) (outs : List ℕ) → e < net.size → net.part e ≡ FromLinks op ops outs
      → (i : ℕ) → i < length (ports op) → is_closed (item_lists (lists.taken e) i) ≡ true
  closed-inputs e op ops outs lt is i within =
      let at = inputs-at e op ops outs lt is i within in
      ap (λ packets. is_closed (items_in packets)) at.0
      ∙ ap is_closed (items_in-packets_of (lists_at (meaning g rows entries).streams (connections op) i))
      ∙ closed-packets (lists_at (meaning g rows entries).streams (connections op) i) at.1 at.2

  inputs-are : (e : ℕ) (op : Operator) (ops : List Operator) (outs : List ℕ) → e < net.size → net.part e ≡ FromLinks op ops outs
      → lists_at (meaning g rows entries).streams (connections op) ≡ item_lists (lists.taken e)
  inputs-are e op ops outs lt is = fun_ext (λ i. elim (cases_lt i (length (connections op))) [
    | inl within ↦
        let same : length (ports op) ≡ length (connections op) = input_count op in
        sym (items_in-packets_of (lists_at (meaning g rows entries).streams (connections op) i)) ∙ ap items_in (sym (inputs-at e op ops outs lt is i (omega (arith, within, same))).0)
    | inr past ↦
        let same : length (ports op) ≡ length (connections op) = input_count op in
        let count : inputs (net.part e) ≡ length (ports op) = ap inputs is in
        lists_at-past (meaning g rows entries).streams (connections op) i past
        ∙ ap items_in (sym ((settled.joined.elements e lt).no_others i (omega (arith, past, same, count))))
  ])

  recorded-at : (e : ℕ) (op : Operator) (ops : List Operator) (outs : List ℕ) → e < net.size → net.part e ≡ FromLinks op ops outs → IsRecorded op (lists.taken e) false
  recorded-at e op ops outs lt is =
      let j : IsJoined (FromLinks op ops outs) (lists.taken e) (lists.sent e) (lists.cut e) = subst (λ z. IsJoined z (lists.taken e) (lists.sent e) (lists.cut e)) is (settled.joined.elements e lt) in
      subst (λ b. IsRecorded op (lists.taken e) b) (settled.whole e lt) j.recorded

  ended-at : (e : ℕ) (op : Operator) (ops : List Operator) (outs : List ℕ) → e < net.size → net.part e ≡ FromLinks op ops outs → 0 < length (ports op)
      → has_ended op (arrive (item_lists (lists.taken e)) (lists.taken e).entries) ≡ true
  ended-at e op ops outs lt is some = recorded-ends op (lists.taken e) some (recorded-at e op ops outs lt is) (closed-inputs e op ops outs lt is)

  whole-at : (e : ℕ) (op : Operator) (ops : List Operator) (outs : List ℕ) → e < net.size → net.part e ≡ FromLinks op ops outs → 0 < length (ports op)
      → is_whole op (lists_at (meaning g rows entries).streams (connections op)) (lists.taken e).entries ≡ true
  whole-at e op ops outs lt is some =
      ap (λ (ls : Lists). is_whole op ls (lists.taken e).entries) (inputs-are e op ops outs lt is)
      ∙ recorded-whole op (lists.taken e) some (recorded-at e op ops outs lt is) (closed-inputs e op ops outs lt is)

  same-given : (e : ℕ) → e < net.size → (part : Part) (last : Operator) → IsLast part last → net.part e ≡ part → PartFits g part → IsUnderAt part (lists.taken e) rows entries
      → IsLess (lists.taken e) (full (meaning g rows entries) rows entries part (lists.taken e)) → IsJoined part (lists.taken e) (lists.sent e) false
      → given part (lists.taken e) ≡ given part (full (meaning g rows entries) rows entries part (lists.taken e))
  same-given e lt (FromSource source ops outs) last l is fits u less j = ap (λ (items : List Item). passed (map start ops) (map (output 0) items)) (go (j.source_ends refl))
    where
      go : (false ≡ true) ⊎ (is_closed (lists.taken e).items ≡ true) → (lists.taken e).items ≡ rows source.number
      go (inl clash) = absurd (cc)
      go (inr closed) = closed-all (lists.taken e).items (rows source.number) u.0 closed u.1
  same-given e lt (FromLinks op ops outs) last l is fits u less j =
      let t : Taken = lists.taken e in
      let all : Taken = full (meaning g rows entries) rows entries (FromLinks op ops outs) (lists.taken e) in
      ap (passed (map start ops)) (ended-same op (arrive (item_lists t) t.entries) (arrive (item_lists all) all.entries) (front-arrive t all less) (ended-at e op ops outs lt is fits.reads))
  same-given e lt (Splitter region) last l is fits u less j = absurd l
  same-given e lt (Replica region channel) last l is fits u less j = absurd l
  same-given e lt (Merger region outs) last l is fits u less j = absurd l

  all-given : (e p : ℕ) (last : Operator) → e < net.size → IsLast (net.part e) last
      → on_port p (given (net.part e) (lists.taken e)) ≡ out last p (events_of last (meaning g rows entries).streams (entries last.number))
  all-given e p last lt is =
      ap (on_port p) (same-given e lt (net.part e) last is refl (wired.parts e lt) (under e lt) (less-at net (meaning g rows entries) rows entries lists flowing (joined_are_in_progress net lists settled.joined) under e lt)
      (subst (λ b. IsJoined (net.part e) (lists.taken e) (lists.sent e) b) (settled.whole e lt) (settled.joined.elements e lt)))
      ∙ full-gives g rows entries wired.ordered (net.part e) (lists.taken e) last (wired.parts e lt) is p

pub settled_gives_law : SettledGivesLaw
settled_gives_law g net lists rows entries wired holds settled under e p last lt is = all-given g net lists rows entries wired holds settled under e p last lt is

pub whole_law : WholeLaw
whole_law g net lists rows entries wired holds settled under e op ops outs lt is =
    whole-at g net lists rows entries wired holds settled under e op ops outs lt is (subst (λ z. PartFits g z) is (wired.parts e lt)).reads

-- ---- legal lists

pub legal_law : LegalLaw
legal_law g net list rows entries wired holds legal under done =
    legal_joins net (meaning g rows entries) rows entries list
    (wired-flowing g rows entries wired.ordered wired.numbered net (lists_of net (after_all net begin list)) wired holds under) legal under done

pub moment_law : MomentLaw
moment_law g net list rows entries wired holds legal under l s lt c =
    progress-links g net (lists_of net (after_all net begin list)) rows entries wired holds (legal_are_in_progress net list (wired-net g net wired) legal) under l s lt c

chain-binds : (part : Part) → is_regional part ≡ false → (t : Taken) → is_stream t.items ≡ true → Binds part t
chain-binds (FromSource source ops outs) no_region t s = s
chain-binds (FromLinks op ops outs) no_region t s = tt
chain-binds (Splitter region) no_region t s = absurd (cc)
chain-binds (Replica region channel) no_region t s = absurd (cc)
chain-binds (Merger region outs) no_region t s = absurd (cc)

pub plain_law : PlainLaw
plain_law g net list wired plain legal done =
    let st : State = after_all net begin list in
    let is : IsNet net = wired-net g net wired in
    let k : NetKeeps net (after_all net begin list) = keep-all net begin list is legal.legal (keep-begin net is) in
    let j : Joined net (lists_of net (after_all net begin list)) =
    joined-state net (after_all net begin list) is k done
    (λ e lt. chain-binds (net.part e) (plain e lt) (taken_at (net.part e) (after_all net begin list e)) (k.elements e lt).streams) in
    (j, λ clean. record { joined = j; whole = clean })

-- ---- how many packets a link carries

fewer-besides : (a b : List Packet) → IsPrefix a b → besides_close a ≤ besides_close b
fewer-besides a b p =
    let whole : besides_close b ≡ besides_close a + besides_close p.0 =
    ap besides_close (sym p.1) ∙ ap length (filter-append (λ q. not (is_close q)) a p.0) ∙ length-append (filter (λ q. not (is_close q)) a) (filter (λ q. not (is_close q)) p.0) in
    omega (arith, whole)

pub carried_law : CarriedLaw
carried_law g net lists rows entries wired holds j under l lt =
    fewer-besides (owed_on net lists l) (flow net rows (meaning g rows entries) l)
    (owed-flow net (meaning g rows entries) rows entries lists (wired-flowing g rows entries wired.ordered wired.numbered net lists wired holds under) j under l lt)

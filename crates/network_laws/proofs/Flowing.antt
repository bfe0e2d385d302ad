-- What went over the links of joined lists, element by element in topological order.
use Rattle.std.proofs.Common.{ℕ, zero, suc, ◌<◌, nat_lt, Bool, true, false, List, [], ◌∷◌, ◌++◌, ◌≡◌, ◌⊎◌, refl, sym, ap, ◌∙◌, append-nil, length, arith, inl, inr}
use Rattle.std.specs.List.{list_all}
use Rattle.std.proofs.lemmas.Bool.{cases_lt, ltb-true, and_parts}
use Rattle.stream_model.specs.Arrivals.{has_several}
use Rattle.list_engine.proofs.Ports.{input_count}
use Rattle.spl_value.specs.declared.packet.Packet.{Packet}
use Rattle.spl_value.specs.declared.packet.Packet.TheVariants as P
use Rattle.spl_value.specs.Numbered.{stops_once}
use Rattle.stream_model.specs.Stream.{IsPrefix}
use Rattle.stream_model.specs.Operators.{Operator, connections, ports}
use Rattle.stream_model.specs.Meaning.{Lists, Entries, Meaning, lists_at}
use Rattle.stream_model.specs.parts.Records.{finds_items}
use Rattle.stream_model.specs.Sending.{on_output}
use Rattle.network_model.specs.Packets.{items_in, has_last, without_cut, packets_of}
use Rattle.network_model.specs.Networks.{Part, FromSource, FromLinks, Splitter, Replica, Merger, inputs, outputs, Net}
use Rattle.network_model.specs.Receipts.{Taken}
use Rattle.network_model.specs.Owed.{owed, item_lists, Binds}
use Rattle.network_model.specs.Joined.{owed_on, NetworkLists, IsRecorded, IsCutOff, IsJoined, Settled, IsInProgress, InProgress}
use Rattle.network_model.specs.Wiring.{Fed}
use Rattle.network_model.specs.Flow.{flows, flow, expects, IsUnder, IsUnderAt}
use Rattle.network_model.specs.PartLaws.{IsLess, IsPart}
use Rattle.network_laws.specs.Flowing.{entries_for, full, IsFlowing, ProgressFlowLaw, SettledFlowLaw, JoinedAreInProgress}
use Rattle.network_model.proofs.Packets.{front-trans, front-same, front-left, front-on_output, front-items, front-without_cut, items_in-without_cut, items_in-packets_of, without_cut-append, stops-end}
use Rattle.network_model.proofs.Arrivals.{zeros-front}
use Rattle.network_model.proofs.ElementLists.{recorded-moves}

-- ---- what was sent

cut-front : (owes sent : List Packet) → IsCutOff owes sent → IsPrefix (without_cut sent) (without_cut owes)
cut-front owes sent c = go c.is_sent
  where
    front : IsPrefix (without_cut c.front) (without_cut owes)
    front = front-without_cut c.front owes c.is_front

    go : ((has_last c.front ≡ true) × (sent ≡ c.front)) ⊎ ((has_last c.front ≡ false) × (sent ≡ c.front ++ P.Cut ∷ [])) → IsPrefix (without_cut sent) (without_cut owes)
    go (inl whole) = front-left (without_cut sent) (without_cut c.front) (without_cut owes) (without_cut owes) (ap without_cut whole.1) refl front
    go (inr behind) =
        front-left (without_cut sent) (without_cut c.front) (without_cut owes) (without_cut owes) (ap without_cut behind.1 ∙ without_cut-append c.front (P.Cut ∷ []) ∙ append-nil (without_cut c.front)) refl front

-- an element has sent a front of what it owes
sent-front : (part : Part) (t : Taken) (sent : ℕ → List Packet) (cut : Bool) (o : ℕ) → IsJoined part t sent cut → Binds part t → o < outputs part
    → IsPrefix (without_cut (sent o)) (without_cut (on_output o (owed part t)))
sent-front part t sent true o j b lt = cut-front (on_output o (owed part t)) (sent o) (j.front_sent refl b o lt)
sent-front part t sent false o j b lt = front-same (without_cut (sent o)) (without_cut (on_output o (owed part t))) (ap without_cut (j.all_sent refl b o lt))

-- joined lists are at a moment
pub joined_are_in_progress : JoinedAreInProgress
joined_are_in_progress net lists j = record {
  links = λ l lt. front-same ((lists.taken (net.link l).to).packets (net.link l).input) (lists.sent (net.link l).from (net.link l).output) (j.links l lt);
  elements = λ e lt. moves (net.part e) (lists.taken e) (lists.sent e) (lists.cut e) (j.elements e lt);
}
  where
    moves : (part : Part) (t : Taken) (sent : ℕ → List Packet) (cut : Bool) → IsJoined part t sent cut → IsInProgress part t sent
    moves part t sent cut k = record {
      no_others = k.no_others;
      recorded = recorded-moves part t cut k.recorded;
      sends = λ b o lt. sent-front part t sent cut o k b lt;
    }

-- ---- what was taken

-- fronts of what is owed at the inputs
abbrev FrontsAt : Meaning → Part → Taken → Type 0
FrontsAt m part t = (i : ℕ) → i < inputs part → IsPrefix (without_cut (t.packets i)) (without_cut (expects m part i))

fronts-all : (m : Meaning) (part : Part) (t : Taken) (sent : ℕ → List Packet) → IsInProgress part t sent → FrontsAt m part t
    → (i : ℕ) → IsPrefix (without_cut (t.packets i)) (without_cut (expects m part i))
fronts-all m part t sent j fronts i = elim (cases_lt i (inputs part)) [
  | inl lt ↦ fronts i lt
  | inr ge ↦ (without_cut (expects m part i), ap (λ zs. without_cut zs ++ without_cut (expects m part i)) (j.no_others i ge))
]

none-named : (entries : List ℕ) → list_all (λ i. nat_lt i 0) entries ≡ true → entries ≡ []
none-named [] h = refl
none-named (i ∷ entries) h =
    let lt : i < 0 = ltb-true i 0 (and_parts (nat_lt i 0) (list_all (λ j. nat_lt j 0) entries) h).0 in absurd (omega (arith, lt))

entries-less : (m : Meaning) (op : Operator) (ops : List Operator) (outs entries : List ℕ) (t : Taken) (cut : Bool) → IsRecorded op t cut → (has_several (connections op) ≡ true → t.entries ≡ entries)
    → ((i : ℕ) → IsPrefix (without_cut (t.packets i)) (without_cut (expects m (FromLinks op ops outs) i)))
    → IsPrefix t.entries (entries_for (connections op) m.streams entries)
entries-less m op ops outs entries t cut recorded under packets = go (connections op) refl
  where
    go : (conns : List ℕ) → connections op ≡ conns → IsPrefix t.entries (entries_for conns m.streams entries)
    go [] e =
        let none_taken : length (ports op) ≡ 0 = input_count op ∙ ap length e in
        let empty : t.entries ≡ [] = none-named t.entries (ap (λ n. list_all (λ i. nat_lt i n) t.entries) (sym none_taken) ∙ recorded.named) in
        (entries, ap (λ z. z ++ entries) empty)
    go (s ∷ []) e =
        let one : length (ports op) ≡ 1 = input_count op ∙ ap length e in
        let expected : expects m (FromLinks op ops outs) 0 ≡ packets_of (m.streams s) = ap (λ zs. packets_of (lists_at m.streams zs 0)) e in
        zeros-front t.entries (item_lists t) (m.streams s) (ap (λ n. list_all (λ i. nat_lt i n) t.entries) (sym one) ∙ recorded.named) recorded.found
        (front-left (item_lists t 0) (items_in (without_cut (t.packets 0))) (m.streams s) (items_in (without_cut (expects m (FromLinks op ops outs) 0)))
        (sym (items_in-without_cut (t.packets 0)))
        (sym (items_in-packets_of (m.streams s)) ∙ ap items_in (sym expected) ∙ sym (items_in-without_cut (expects m (FromLinks op ops outs) 0)))
        (front-items (without_cut (t.packets 0)) (without_cut (expects m (FromLinks op ops outs) 0)) (packets 0)))
    go (s ∷ u ∷ ss) e = front-same t.entries entries (under (ap has_several e))

pub none-found : (t : Taken) → t.entries ≡ [] → finds_items (item_lists t) t.entries ≡ true
none-found t e = ap (finds_items (item_lists t)) e

less-full : (m : Meaning) (rows : Lists) (entries : Entries) (part : Part) (t : Taken) (sent : ℕ → List Packet) → IsInProgress part t sent
    → IsUnderAt part t rows entries → ((i : ℕ) → IsPrefix (without_cut (t.packets i)) (without_cut (expects m part i))) → IsLess t (full m rows entries part t)
less-full m rows entries (FromSource source ops outs) t sent j under packets = record {
  packets = λ i. front-same (without_cut (t.packets i)) (without_cut (t.packets i)) refl;
  items = under.0;
  entries = front-same t.entries t.entries refl;
  found = none-found t j.recorded;
}
less-full m rows entries (FromLinks op ops outs) t sent j under packets = record {
  packets = packets;
  items = front-same t.items t.items refl;
  entries = entries-less m op ops outs (entries op.number) t true j.recorded under packets;
  found = j.recorded.found;
}
less-full m rows entries (Splitter region) t sent j under packets =
    record { packets = packets; items = front-same t.items t.items refl; entries = front-same t.entries t.entries refl; found = none-found t j.recorded }
less-full m rows entries (Replica region channel) t sent j under packets =
    record { packets = packets; items = front-same t.items t.items refl; entries = front-same t.entries t.entries refl; found = none-found t j.recorded }
less-full m rows entries (Merger region outs) t sent j under packets =
    record { packets = packets; items = front-same t.items t.items refl; entries = front-same t.entries t.entries refl; found = none-found t j.recorded }

-- ---- in topological order

module _ (net : Net) (m : Meaning) (rows : Lists) (entries : Entries) (lists : NetworkLists) (f : IsFlowing net m rows entries) (j : InProgress net lists) (under : IsUnder net lists rows entries) where
  -- all that an element takes
  abbrev pub all-of : ℕ → Taken
  all-of e = full m rows entries (net.part e) (lists.taken e)

  -- what it sent is a front of its flow
  abbrev Sends : ℕ → Type 0
  Sends e = (o : ℕ) → o < outputs (net.part e) → IsPrefix (without_cut (lists.sent e o)) (without_cut (on_output o (flows rows m (net.part e))))

  from-within : (l : ℕ) → l < net.links → (net.link l).from < net.size
  from-within l lt = let low = f.is_net.earlier l lt in let top = f.is_net.within l lt in omega (arith, low, top)

  fronts-by : (e : ℕ) → e < net.size → ((d : ℕ) → d < e → d < net.size → Sends d) → FrontsAt m (net.part e) (lists.taken e)
  fronts-by e size earlier i lt = go (f.fed e i size lt)
    where
      go : Fed net e i → IsPrefix (without_cut ((lists.taken e).packets i)) (without_cut (expects m (net.part e) i))
      go fed =
          let to : (net.link fed.link).to ≡ e = fed.to in
          let low : (net.link fed.link).from < (net.link fed.link).to = f.is_net.earlier fed.link fed.within in
          let front : IsPrefix (without_cut (lists.sent (net.link fed.link).from (net.link fed.link).output)) (without_cut (flow net rows m fed.link)) =
          earlier (net.link fed.link).from (omega (arith, low, to)) (omega (arith, low, to, size)) (net.link fed.link).output (f.is_net.output fed.link fed.within) in
          let here : (lists.taken e).packets i ≡ (lists.taken (net.link fed.link).to).packets (net.link fed.link).input =
          ap (λ z. (lists.taken z).packets i) (sym to) ∙ ap (λ z. (lists.taken (net.link fed.link).to).packets z) (sym fed.input) in
          let sent : List Packet = lists.sent (net.link fed.link).from (net.link fed.link).output in
          let went : IsPrefix (without_cut ((lists.taken e).packets i)) (without_cut sent) = front-without_cut ((lists.taken e).packets i) sent (front-left ((lists.taken e).packets i) ((lists.taken (net.link fed.link).to).packets (net.link fed.link).input) sent sent here refl (j.links fed.link fed.within)) in
          let owed_here : List Packet = expects m (net.part (net.link fed.link).to) (net.link fed.link).input in
          let expected : expects m (net.part e) i ≡ expects m (net.part (net.link fed.link).to) (net.link fed.link).input =
          ap (λ z. expects m (net.part z) i) (sym to) ∙ ap (λ z. expects m (net.part (net.link fed.link).to) z) (sym fed.input) in
          front-left (without_cut ((lists.taken e).packets i)) (without_cut ((lists.taken e).packets i)) (without_cut (expects m (net.part e) i)) (without_cut owed_here) refl (ap without_cut expected)
          (front-trans (without_cut ((lists.taken e).packets i)) (without_cut (flow net rows m fed.link)) (without_cut owed_here)
          (front-trans (without_cut ((lists.taken e).packets i)) (without_cut sent) (without_cut (flow net rows m fed.link)) went front) (f.meets fed.link fed.within))

  less-by : (e : ℕ) → e < net.size → FrontsAt m (net.part e) (lists.taken e) → IsLess (lists.taken e) (all-of e)
  less-by e size fronts =
      less-full m rows entries (net.part e) (lists.taken e) (lists.sent e) (j.elements e size) (under e size)
      (fronts-all m (net.part e) (lists.taken e) (lists.sent e) (j.elements e size) fronts)

  sent-by : (e : ℕ) → e < net.size → FrontsAt m (net.part e) (lists.taken e) → Sends e
  sent-by e size fronts o lt =
      let part : Part = net.part e in
      let t : Taken = lists.taken e in
      let u : Taken = full m rows entries (net.part e) (lists.taken e) in
      let less : IsLess (lists.taken e) (full m rows entries (net.part e) (lists.taken e)) = less-by e size fronts in
      let binds : Binds part u = f.binds e t size in
      let laws : IsPart (net.part e) = f.is_net.parts e size in
      front-trans (without_cut (lists.sent e o)) (without_cut (on_output o (owed part t))) (without_cut (on_output o (flows rows m part)))
      ((j.elements e size).sends (laws.binds t u less binds) o lt)
      (front-left (without_cut (on_output o (owed part t))) (without_cut (on_output o (owed part t))) (without_cut (on_output o (flows rows m part))) (without_cut (on_output o (owed part u)))
      refl (ap without_cut (sym (f.owes e t o size lt)))
      (front-without_cut (on_output o (owed part t)) (on_output o (owed part u)) (front-on_output o (owed part t) (owed part u) (laws.grows t u less binds))))

  sends-all : (b e : ℕ) → e < b → e < net.size → Sends e
  sends-all zero e lt size = absurd (omega arith)
  sends-all (suc b) e lt size = sent-by e size (fronts-by e size (λ d lower within. sends-all b d (omega (arith, lower, lt)) within))

  fronts-of : (e : ℕ) → e < net.size → FrontsAt m (net.part e) (lists.taken e)
  fronts-of e size = fronts-by e size (λ d lower within. sends-all (suc d) d (omega arith) within)

  pub less-at : (e : ℕ) → e < net.size → IsLess (lists.taken e) (all-of e)
  less-at e size = less-by e size (fronts-of e size)

  pub binds-at : (e : ℕ) → e < net.size → Binds (net.part e) (lists.taken e)
  binds-at e size = (f.is_net.parts e size).binds (lists.taken e) (all-of e) (less-at e size) (f.binds e (lists.taken e) size)

  -- what is owed on a link is a front of its flow
  pub owed-flow : (l : ℕ) → l < net.links → IsPrefix (owed_on net lists l) (flow net rows m l)
  owed-flow l lt =
      let e : ℕ = (net.link l).from in
      let o : ℕ = (net.link l).output in
      let t : Taken = lists.taken (net.link l).from in
      let u : Taken = all-of (net.link l).from in
      let size : (net.link l).from < net.size = from-within l lt in
      front-left (on_output o (owed (net.part e) t)) (on_output o (owed (net.part e) t)) (flow net rows m l) (on_output o (owed (net.part e) u)) refl
      (sym (f.owes e t o size (f.is_net.output l lt)))
      (front-on_output o (owed (net.part e) t) (owed (net.part e) u) ((f.is_net.parts e size).grows t u (less-at e size) (f.binds e t size)))

  -- the flow of a link has no `Cut`, and nothing behind `Close`
  pub flow-without_cut : (l : ℕ) → l < net.links → without_cut (flow net rows m l) ≡ flow net rows m l
  flow-without_cut l lt =
      let owes = f.owes (net.link l).from (lists.taken (net.link l).from) (net.link l).output (from-within l lt) (f.is_net.output l lt) in
      ap without_cut (sym owes) ∙ (f.is_net.parts (net.link l).from (from-within l lt)).no_cut (all-of (net.link l).from) (net.link l).output ∙ owes

  pub flow-stops : (l : ℕ) → l < net.links → stops_once (flow net rows m l) ≡ true
  flow-stops l lt =
      ap stops_once (sym (f.owes (net.link l).from (lists.taken (net.link l).from) (net.link l).output (from-within l lt) (f.is_net.output l lt)))
      ∙ (f.is_net.parts (net.link l).from (from-within l lt)).stops (all-of (net.link l).from) (net.link l).output (f.binds (net.link l).from (lists.taken (net.link l).from) (from-within l lt))

  pub flow-front : (l : ℕ) → l < net.links → IsPrefix (without_cut (lists.sent (net.link l).from (net.link l).output)) (flow net rows m l)
  flow-front l lt =
      let sent : List Packet = lists.sent (net.link l).from (net.link l).output in
      front-left (without_cut sent) (without_cut sent) (flow net rows m l) (without_cut (flow net rows m l)) refl (sym (flow-without_cut l lt))
      (sends-all (suc (net.link l).from) (net.link l).from (omega arith) (from-within l lt) (net.link l).output (f.is_net.output l lt))

-- ---- settled lists

module _ (net : Net) (m : Meaning) (rows : Lists) (entries : Entries) (lists : NetworkLists) (f : IsFlowing net m rows entries) (s : Settled net lists) (under : IsUnder net lists rows entries) where
  progress : InProgress net lists
  progress = joined_are_in_progress net lists s.joined

  pub flow-all : (l : ℕ) → l < net.links → lists.sent (net.link l).from (net.link l).output ≡ flow net rows m l
  flow-all l lt =
      let d : ℕ = (net.link l).from in
      let o : ℕ = (net.link l).output in
      let size : (net.link l).from < net.size = from-within net m rows entries lists f progress under l lt in
      let sent : List Packet = lists.sent (net.link l).from (net.link l).output in
      let owes : sent ≡ on_output o (owed (net.part d) (lists.taken d)) =
      (s.joined.elements d size).all_sent (s.whole d size) (binds-at net m rows entries lists f progress under d size) o (f.is_net.output l lt) in
      let clean : without_cut sent ≡ sent = ap without_cut owes ∙ (f.is_net.parts d size).no_cut (lists.taken d) o ∙ sym owes in
      let front : IsPrefix (without_cut sent) (flow net rows m l) = flow-front net m rows entries lists f progress under l lt in
      let all : sent ++ front.0 ≡ flow net rows m l = ap (λ z. z ++ front.0) (sym clean) ∙ front.1 in
      let last : has_last sent ≡ true =
      ap has_last (sym (s.joined.links l lt)) ∙ (s.joined.elements (net.link l).to (f.is_net.within l lt)).inputs_end (net.link l).input (f.is_net.input l lt) in
      let none : front.0 ≡ [] = stops-end sent front.0 (ap stops_once all ∙ flow-stops net m rows entries lists f progress under l lt) last in
      sym (append-nil sent) ∙ ap (λ z. sent ++ z) (sym none) ∙ all

  -- what an element took at an input, where the link there carries all that is owed
  pub taken-all : ((l : ℕ) → l < net.links → flow net rows m l ≡ expects m (net.part (net.link l).to) (net.link l).input) → (e i : ℕ) → e < net.size → i < inputs (net.part e)
      → ((lists.taken e).packets i ≡ expects m (net.part e) i) × (stops_once (expects m (net.part e) i) ≡ true)
  taken-all meet e i size lt = go (f.fed e i size lt)
    where
      go : Fed net e i → ((lists.taken e).packets i ≡ expects m (net.part e) i) × (stops_once (expects m (net.part e) i) ≡ true)
      go fed =
          let expected : flow net rows m fed.link ≡ expects m (net.part e) i =
          meet fed.link fed.within ∙ ap (λ z. expects m (net.part (net.link fed.link).to) z) fed.input ∙ ap (λ z. expects m (net.part z) i) fed.to in (
            ap (λ z. (lists.taken z).packets i) (sym fed.to) ∙ ap (λ z. (lists.taken (net.link fed.link).to).packets z) (sym fed.input) ∙ s.joined.links fed.link fed.within
                ∙ flow-all fed.link fed.within ∙ expected,
            ap stops_once (sym expected) ∙ flow-stops net m rows entries lists f progress under fed.link fed.within,
          )

  -- what a link carried ends
  pub flow-ends : (l : ℕ) → l < net.links → (stops_once (flow net rows m l) ≡ true) × (has_last (flow net rows m l) ≡ true)
  flow-ends l lt = (
    flow-stops net m rows entries lists f progress under l lt,
    ap has_last (sym (flow-all l lt)) ∙ ap has_last (sym (s.joined.links l lt)) ∙ (s.joined.elements (net.link l).to (f.is_net.within l lt)).inputs_end (net.link l).input (f.is_net.input l lt),
  )

pub progress_flow_law : ProgressFlowLaw
progress_flow_law net m rows entries lists f j under l lt = flow-front net m rows entries lists f j under l lt

pub settled_flow_law : SettledFlowLaw
settled_flow_law net m rows entries lists f s under l lt = let sent = flow-all net m rows entries lists f s under l lt in (sent, s.joined.links l lt ∙ sent)

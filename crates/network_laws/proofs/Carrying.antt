-- What the links of a network carry is determined, and is a front of their flow.
use Rattle.std.proofs.Common.{ℕ, zero, suc, Bool, true, false, ◌++◌, ◌<◌, ◌≤◌, ◌⊎◌, nat_lt, List, [], ◌∷◌, ◌≡◌, refl, sym, ap, ◌∙◌, arith, inl, inr, length}
use Rattle.std.proofs.lemmas.Bool.{cases_lt, cond-false, le-ltb}
use Rattle.std.proofs.Math.Path.{fun_ext}
use Rattle.spl_value.specs.declared.packet.Packet.{Packet}
use Rattle.stream_model.specs.Stream.{IsPrefix}
use Rattle.stream_model.specs.Operators.{connections, ports}
use Rattle.stream_model.specs.Meaning.{Graph, Lists, Entries, Meaning, lists_at, meaning}
use Rattle.stream_model.specs.Sending.{on_output}
use Rattle.list_engine.proofs.Ports.{input_count}
use Rattle.network_model.specs.Packets.{packets_of, without_cut}
use Rattle.network_model.specs.Networks.{Part, FromSource, FromLinks, Splitter, Replica, Merger, inputs, Net}
use Rattle.network_model.specs.Receipts.{Taken}
use Rattle.network_model.specs.Owed.{Binds, owed, region_splits, replica_owes}
use Rattle.network_model.specs.Joined.{InProgress, NetworkLists, owed_on, Recorded, sent_on}
use Rattle.network_model.specs.PartLaws.{IsLess, IsPart}
use Rattle.network_model.specs.Wiring.{Fed, IsWired}
use Rattle.network_model.specs.Flow.{expects, flow, flows, IsUnder}
use Rattle.network_model.proofs.Packets.{front-left, front-on_output, front-same, front-trans, front-without_cut, items_in-packets_of}
use Rattle.network_laws.specs.Flowing.{full, IsFlowing}
use Rattle.network_laws.specs.RegionStreams.{is_regional}
use Rattle.network_laws.specs.Carrying.{AreCarried, CarriedFront, CarriedOnce, CarriedProgress, CarriedThere, FlowsCarried, owes_for, SettledCarried}
use Rattle.network_laws.proofs.Flowing.{flow-without_cut, none-found, owed-flow, progress_flow_law, settled_flow_law}
use Rattle.network_laws.proofs.Joining.{all-meet, meet_law, wired-flowing, wired-net}

-- ---- it is determined

module _ (g : Graph) (net : Net) (rows : Lists) (m : Meaning) (wired : IsWired g net) (carries others : ℕ → List Packet) (enters other_enters : ℕ → ℕ → List Packet)
    (one : AreCarried net rows m carries enters) (other : AreCarried net rows m others other_enters) where
  from-within : (l : ℕ) → l < net.links → (net.link l).from < net.size
  from-within l lt = let k = wired.links l lt in let low : (net.link l).from < (net.link l).to = k.earlier in let top : (net.link l).to < net.size = k.within in omega (arith, low, top)

  same-enters : (b e : ℕ) → e < b → e < net.size → (i : ℕ) → enters e i ≡ other_enters e i
  same-enters zero e lt size i = absurd (omega (arith, lt))
  same-enters (suc b) e lt size i = elim (cases_lt i (inputs (net.part e))) [
    | inl low ↦ go (wired.fed e i size low) (λ d early within. same-enters b d (omega (arith, early, lt)) within)
    | inr high ↦ one.no_others e i size high ∙ sym (other.no_others e i size high)
  ]
    where
      go : Fed net e i → ((d : ℕ) → d < e → d < net.size → (k : ℕ) → enters d k ≡ other_enters d k) → enters e i ≡ other_enters e i
      go fed earlier =
          let to : (net.link fed.link).to ≡ e = fed.to in
          let early : (net.link fed.link).from < (net.link fed.link).to = (wired.links fed.link fed.within).earlier in
          ap (λ z. enters z i) (sym fed.to) ∙ ap (λ z. enters (net.link fed.link).to z) (sym fed.input)
          ∙ one.taken fed.link fed.within ∙ one.sent fed.link fed.within
          ∙ ap (λ taken. on_output (net.link fed.link).output (owes_for rows m (net.part (net.link fed.link).from) taken))
          (fun_ext (earlier (net.link fed.link).from (omega (arith, to, early)) (from-within fed.link fed.within)))
          ∙ sym (other.sent fed.link fed.within) ∙ sym (other.taken fed.link fed.within)
          ∙ ap (λ z. other_enters (net.link fed.link).to z) fed.input ∙ ap (λ z. other_enters z i) fed.to

  same-carries : (l : ℕ) → l < net.links → carries l ≡ others l
  same-carries l lt =
      one.sent l lt
      ∙ ap (λ taken. on_output (net.link l).output (owes_for rows m (net.part (net.link l).from) taken))
      (fun_ext (same-enters (suc (net.link l).from) (net.link l).from (omega arith) (from-within l lt)))
      ∙ sym (other.sent l lt)

pub carried_once : CarriedOnce
carried_once g net rows m carries others enters other_enters wired one other l lt = same-carries g net rows m wired carries others enters other_enters one other l lt

-- ---- there is such a list for each link

module _ (g : Graph) (net : Net) (rows : Lists) (m : Meaning) (wired : IsWired g net) where
  abbrev Within : ℕ → Type 0
  Within e = (e < net.size) ⊎ (net.size ≤ e)

  abbrev Input : ℕ → ℕ → Type 0
  Input e i = (i < inputs (net.part e)) ⊎ (inputs (net.part e) ≤ i)

  -- what enters an element, where links carry these lists
  abbrev entering-by : (ℕ → List Packet) → (e i : ℕ) → Within e → Input e i → List Packet
  entering-by carries e i (inl size) (inl low) = carries (wired.fed e i size low).link
  entering-by carries e i (inl size) (inr high) = []
  entering-by carries e i (inr over) low = []

  abbrev entering : (ℕ → List Packet) → ℕ → ℕ → List Packet
  entering carries e i = entering-by carries e i (cases_lt e net.size) (cases_lt i (inputs (net.part e)))

  -- what a link carries, for senders up to a depth
  abbrev carrying : ℕ → ℕ → List Packet
  carrying zero l = []
  carrying (suc n) l = on_output (net.link l).output (owes_for rows m (net.part (net.link l).from) (entering (carrying n) (net.link l).from))

  same-entering : (one other : ℕ → List Packet) (e i : ℕ) → ((l : ℕ) → l < net.links → (net.link l).from < e → one l ≡ other l) → (s : Within e) (t : Input e i)
      → entering-by one e i s t ≡ entering-by other e i s t
  same-entering one other e i same (inl size) (inl low) =
      let fed = wired.fed e i size low in
      let to : (net.link fed.link).to ≡ e = fed.to in
      let early : (net.link fed.link).from < (net.link fed.link).to = (wired.links fed.link fed.within).earlier in
      same fed.link fed.within (omega (arith, to, early))
  same-entering one other e i same (inl size) (inr high) = refl
  same-entering one other e i same (inr over) t = refl

  deep-enough : (n k l : ℕ) → (net.link l).from < n → (net.link l).from < k → l < net.links → carrying n l ≡ carrying k l
  deep-enough zero k l low other lt = absurd (omega (arith, low))
  deep-enough (suc n) zero l low other lt = absurd (omega (arith, other))
  deep-enough (suc n) (suc k) l low other lt =
      ap (λ taken. on_output (net.link l).output (owes_for rows m (net.part (net.link l).from) taken))
      (fun_ext (λ i. same-entering (carrying n) (carrying k) (net.link l).from i
      (λ j inside early. deep-enough n k j (omega (arith, early, low)) (omega (arith, early, other)) inside)
      (cases_lt (net.link l).from net.size) (cases_lt i (inputs (net.part (net.link l).from)))))

  from-below : (l : ℕ) → l < net.links → (net.link l).from < net.size
  from-below l lt = let k = wired.links l lt in let low : (net.link l).from < (net.link l).to = k.earlier in let top : (net.link l).to < net.size = k.within in omega (arith, low, top)

  are-carried : AreCarried net rows m (carrying net.size) (entering (carrying net.size))
  are-carried = record {
    sent = λ l lt. deep-enough net.size (suc net.size) l (from-below l lt) (let low : (net.link l).from < net.size = from-below l lt in omega (arith, low)) lt;
    taken = λ l lt. enters l lt (cases_lt (net.link l).to net.size) (cases_lt (net.link l).input (inputs (net.part (net.link l).to)));
    no_others = λ e i size high. none e i high (cases_lt e net.size) (cases_lt i (inputs (net.part e)));
  }
    where
      enters : (l : ℕ) → l < net.links → (s : Within (net.link l).to) (t : Input (net.link l).to (net.link l).input)
          → entering-by (carrying net.size) (net.link l).to (net.link l).input s t ≡ carrying net.size l
      enters l lt (inl size) (inl low) = let fed = wired.fed (net.link l).to (net.link l).input size low in ap (carrying net.size) (wired.one fed.link l fed.within lt fed.to fed.input)
      enters l lt (inl size) (inr high) = let low : (net.link l).input < inputs (net.part (net.link l).to) = (wired-net g net wired).input l lt in absurd (omega (arith, low, high))
      enters l lt (inr over) t = let low : (net.link l).to < net.size = (wired.links l lt).within in absurd (omega (arith, low, over))

      none : (e i : ℕ) → inputs (net.part e) ≤ i → (s : Within e) (t : Input e i) → entering-by (carrying net.size) e i s t ≡ []
      none e i high (inl size) (inl low) = absurd (omega (arith, high, low))
      none e i high (inl size) (inr over) = refl
      none e i high (inr over) t = refl

pub carried_there : CarriedThere
carried_there g net rows m wired = (carrying g net rows m wired net.size, entering g net rows m wired (carrying g net rows m wired net.size), are-carried g net rows m wired)

-- ---- flows are carried where regions meet their streams

flows-owe : (rows : Lists) (m : Meaning) (part : Part) → flows rows m part ≡ owes_for rows m part (λ i. expects m part i)
flows-owe rows m (FromSource source ops outs) = refl
flows-owe rows m (FromLinks op ops outs) = refl
flows-owe rows m (Splitter region) = ap (region_splits region 0) (sym (items_in-packets_of (m.streams region.entry)))
flows-owe rows m (Replica region channel) = refl
flows-owe rows m (Merger region outs) = refl

none-at : (streams : Lists) (ss : List ℕ) (i : ℕ) → length ss ≤ i → lists_at streams ss i ≡ []
none-at streams [] i le = refl
none-at streams (s ∷ ss) zero le = absurd (omega (arith, le))
none-at streams (s ∷ ss) (suc i) le = none-at streams ss i (omega (arith, le))

none-expected : (m : Meaning) (part : Part) (i : ℕ) → inputs part ≤ i → expects m part i ≡ []
none-expected m (FromSource source ops outs) i le = refl
none-expected m (FromLinks op ops outs) i le =
    let same : length (ports op) ≡ length (connections op) = input_count op in ap packets_of (none-at m.streams (connections op) i (omega (arith, same, le)))
none-expected m (Splitter region) zero le = absurd (omega (arith, le))
none-expected m (Splitter region) (suc i) le = refl
none-expected m (Replica region channel) zero le = absurd (omega (arith, le))
none-expected m (Replica region channel) (suc i) le = refl
none-expected m (Merger region outs) i le = cond-false (nat_lt i region.width) (replica_owes region (m.streams region.entry) i) [] (le-ltb i region.width le)

pub flows_carried : FlowsCarried
flows_carried g net rows entries wired meet = record {
  sent = λ l lt. ap (on_output (net.link l).output) (flows-owe rows (meaning g rows entries) (net.part (net.link l).from));
  taken = λ l lt. sym (all-meet g rows entries wired.ordered wired.numbered net wired meet l lt);
  no_others = λ e i size le. none-expected (meaning g rows entries) (net.part e) i le;
}

-- ---- what is carried is a front of the flow

abbrev with_packets : (ℕ → List Packet) → Taken
with_packets packets = record { packets = packets; items = []; entries = [] }

-- an element of a region owes a front for fronts of what is owed to it
owes-front : (rows : Lists) (m : Meaning) (entries : Entries) (part : Part) (taken : ℕ → List Packet) (o : ℕ) → IsPart part
    → ((t : Taken) → Binds part (full m rows entries part t)) → ((t : Taken) → on_output o (owed part (full m rows entries part t)) ≡ on_output o (flows rows m part))
    → ((i : ℕ) → IsPrefix (without_cut (taken i)) (without_cut (expects m part i))) → IsPrefix (on_output o (owes_for rows m part taken)) (on_output o (flows rows m part))
owes-front rows m entries (FromSource source ops outs) taken o laws binds owes fronts = front-same (on_output o (flows rows m (FromSource source ops outs))) (on_output o (flows rows m (FromSource source ops outs))) refl
owes-front rows m entries (FromLinks op ops outs) taken o laws binds owes fronts = front-same (on_output o (flows rows m (FromLinks op ops outs))) (on_output o (flows rows m (FromLinks op ops outs))) refl
owes-front rows m entries (Splitter region) taken o laws binds owes fronts =
    front-left (on_output o (owed (Splitter region) (with_packets taken))) (on_output o (owed (Splitter region) (with_packets taken))) (on_output o (flows rows m (Splitter region)))
    (on_output o (owed (Splitter region) (full m rows entries (Splitter region) (with_packets taken)))) refl (sym (owes (with_packets taken)))
    (front-on_output o (owed (Splitter region) (with_packets taken)) (owed (Splitter region) (full m rows entries (Splitter region) (with_packets taken)))
    (laws.grows (with_packets taken) (full m rows entries (Splitter region) (with_packets taken))
    (record { packets = fronts; items = ([], refl); entries = ([], refl); found = refl }) (binds (with_packets taken))))
owes-front rows m entries (Replica region channel) taken o laws binds owes fronts =
    front-left (on_output o (owed (Replica region channel) (with_packets taken))) (on_output o (owed (Replica region channel) (with_packets taken))) (on_output o (flows rows m (Replica region channel)))
    (on_output o (owed (Replica region channel) (full m rows entries (Replica region channel) (with_packets taken)))) refl (sym (owes (with_packets taken)))
    (front-on_output o (owed (Replica region channel) (with_packets taken)) (owed (Replica region channel) (full m rows entries (Replica region channel) (with_packets taken)))
    (laws.grows (with_packets taken) (full m rows entries (Replica region channel) (with_packets taken))
    (record { packets = fronts; items = ([], refl); entries = ([], refl); found = refl }) (binds (with_packets taken))))
owes-front rows m entries (Merger region outs) taken o laws binds owes fronts =
    front-left (on_output o (owed (Merger region outs) (with_packets taken))) (on_output o (owed (Merger region outs) (with_packets taken))) (on_output o (flows rows m (Merger region outs)))
    (on_output o (owed (Merger region outs) (full m rows entries (Merger region outs) (with_packets taken)))) refl (sym (owes (with_packets taken)))
    (front-on_output o (owed (Merger region outs) (with_packets taken)) (owed (Merger region outs) (full m rows entries (Merger region outs) (with_packets taken)))
    (laws.grows (with_packets taken) (full m rows entries (Merger region outs) (with_packets taken))
    (record { packets = fronts; items = ([], refl); entries = ([], refl); found = refl }) (binds (with_packets taken))))

module _ (g : Graph) (net : Net) (rows : Lists) (entries : Entries) (wired : IsWired g net) (f : IsFlowing net (meaning g rows entries) rows entries)
    (carries : ℕ → List Packet) (enters : ℕ → ℕ → List Packet) (are : AreCarried net rows (meaning g rows entries) carries enters) where
  m : Meaning
  m = meaning g rows entries

  below : (l : ℕ) → l < net.links → (net.link l).from < net.size
  below l lt = let low : (net.link l).from < (net.link l).to = f.is_net.earlier l lt in let top : (net.link l).to < net.size = f.is_net.within l lt in omega (arith, low, top)

  abbrev pub Fronts : ℕ → Type 0
  Fronts e = (i : ℕ) → IsPrefix (without_cut (enters e i)) (without_cut (expects (meaning g rows entries) (net.part e) i))

  carried-front : (l : ℕ) → l < net.links → Fronts (net.link l).from → IsPrefix (carries l) (flow net rows (meaning g rows entries) l)
  carried-front l lt fronts =
      let e : ℕ = (net.link l).from in
      let o : ℕ = (net.link l).output in
      front-left (carries l) (on_output o (owes_for rows (meaning g rows entries) (net.part e) (enters e))) (flow net rows (meaning g rows entries) l) (on_output o (flows rows (meaning g rows entries) (net.part e)))
      (are.sent l lt) refl
      (owes-front rows (meaning g rows entries) entries (net.part e) (enters e) o (f.is_net.parts e (below l lt)) (λ t. f.binds e t (below l lt))
      (λ t. f.owes e t o (below l lt) (f.is_net.output l lt)) fronts)

  pub fronts-by : (b e : ℕ) → e < b → e < net.size → Fronts e
  fronts-by zero e lt size i = absurd (omega (arith, lt))
  fronts-by (suc b) e lt size i = elim (cases_lt i (inputs (net.part e))) [
    | inl low ↦ go (f.fed e i size low) (λ d early within. fronts-by b d (omega (arith, early, lt)) within)
    | inr high ↦ front-left (without_cut (enters e i)) [] (without_cut (expects (meaning g rows entries) (net.part e) i)) (without_cut (expects (meaning g rows entries) (net.part e) i))
        (ap without_cut (are.no_others e i size high)) refl (without_cut (expects (meaning g rows entries) (net.part e) i), refl)
  ]
    where
      go : Fed net e i → ((d : ℕ) → d < e → d < net.size → Fronts d) → IsPrefix (without_cut (enters e i)) (without_cut (expects (meaning g rows entries) (net.part e) i))
      go fed earlier =
          let to : (net.link fed.link).to ≡ e = fed.to in
          let early : (net.link fed.link).from < (net.link fed.link).to = f.is_net.earlier fed.link fed.within in
          let here : enters e i ≡ carries fed.link =
          ap (λ z. enters z i) (sym fed.to) ∙ ap (λ z. enters (net.link fed.link).to z) (sym fed.input) ∙ are.taken fed.link fed.within in
          let owed_here : List Packet = expects (meaning g rows entries) (net.part (net.link fed.link).to) (net.link fed.link).input in
          let expected : expects (meaning g rows entries) (net.part e) i ≡ expects (meaning g rows entries) (net.part (net.link fed.link).to) (net.link fed.link).input =
          ap (λ z. expects (meaning g rows entries) (net.part z) i) (sym to) ∙ ap (λ z. expects (meaning g rows entries) (net.part (net.link fed.link).to) z) (sym fed.input) in
          front-left (without_cut (enters e i)) (without_cut (carries fed.link)) (without_cut (expects (meaning g rows entries) (net.part e) i)) (without_cut owed_here)
          (ap without_cut here) (ap without_cut expected)
          (front-trans (without_cut (carries fed.link)) (without_cut (flow net rows (meaning g rows entries) fed.link)) (without_cut owed_here)
          (front-without_cut (carries fed.link) (flow net rows (meaning g rows entries) fed.link)
          (carried-front fed.link fed.within (earlier (net.link fed.link).from (omega (arith, to, early)) (below fed.link fed.within))))
          (f.meets fed.link fed.within))

  front-of-flow : (l : ℕ) → l < net.links → IsPrefix (carries l) (flow net rows (meaning g rows entries) l)
  front-of-flow l lt = carried-front l lt (fronts-by (suc (net.link l).from) (net.link l).from (omega arith) (below l lt))

pub carried_front : CarriedFront
carried_front g net lists rows entries carries enters wired holds under are l lt =
    front-of-flow g net rows entries wired (wired-flowing g rows entries wired.ordered wired.numbered net lists wired holds under) carries enters are l lt

-- ---- at any moment

-- an element of a region that has taken these packets
abbrev taken_with : (ℕ → List Packet) → Taken → Taken
taken_with packets t = record { packets = packets; items = t.items; entries = t.entries }

regional-owes : (rows : Lists) (m : Meaning) (part : Part) (taken : ℕ → List Packet) (t : Taken) → is_regional part ≡ true → owed part (taken_with taken t) ≡ owes_for rows m part taken
regional-owes rows m (FromSource source ops outs) taken t r = absurd (cc)
regional-owes rows m (FromLinks op ops outs) taken t r = absurd (cc)
regional-owes rows m (Splitter region) taken t r = refl
regional-owes rows m (Replica region channel) taken t r = refl
regional-owes rows m (Merger region outs) taken t r = refl

chain-owes : (rows : Lists) (m : Meaning) (part : Part) (taken : ℕ → List Packet) → is_regional part ≡ false → owes_for rows m part taken ≡ flows rows m part
chain-owes rows m (FromSource source ops outs) taken r = refl
chain-owes rows m (FromLinks op ops outs) taken r = refl
chain-owes rows m (Splitter region) taken r = absurd (cc)
chain-owes rows m (Replica region channel) taken r = absurd (cc)
chain-owes rows m (Merger region outs) taken r = absurd (cc)

regional-recorded : (part : Part) (t : Taken) → is_regional part ≡ true → Recorded part t true → t.entries ≡ []
regional-recorded (FromSource source ops outs) t r recorded = absurd (cc)
regional-recorded (FromLinks op ops outs) t r recorded = absurd (cc)
regional-recorded (Splitter region) t r recorded = recorded
regional-recorded (Replica region channel) t r recorded = recorded
regional-recorded (Merger region outs) t r recorded = recorded

regional-less : (m : Meaning) (rows : Lists) (entries : Entries) (part : Part) (taken : ℕ → List Packet) (t : Taken) → is_regional part ≡ true → t.entries ≡ []
    → ((i : ℕ) → IsPrefix (without_cut (taken i)) (without_cut (expects m part i))) → IsLess (taken_with taken t) (full m rows entries part t)
regional-less m rows entries (FromSource source ops outs) taken t r none fronts = absurd (cc)
regional-less m rows entries (FromLinks op ops outs) taken t r none fronts = absurd (cc)
regional-less m rows entries (Splitter region) taken t r none fronts =
    record { packets = fronts; items = front-same t.items t.items refl; entries = front-same t.entries t.entries refl; found = none-found (taken_with taken t) none }
regional-less m rows entries (Replica region channel) taken t r none fronts =
    record { packets = fronts; items = front-same t.items t.items refl; entries = front-same t.entries t.entries refl; found = none-found (taken_with taken t) none }
regional-less m rows entries (Merger region outs) taken t r none fronts =
    record { packets = fronts; items = front-same t.items t.items refl; entries = front-same t.entries t.entries refl; found = none-found (taken_with taken t) none }

module _ (g : Graph) (net : Net) (lists : NetworkLists) (rows : Lists) (entries : Entries) (wired : IsWired g net) (f : IsFlowing net (meaning g rows entries) rows entries)
    (j : InProgress net lists) (under : IsUnder net lists rows entries)
    (carries : ℕ → List Packet) (enters : ℕ → ℕ → List Packet) (are : AreCarried net rows (meaning g rows entries) carries enters) where
  abbrev AtLink : ℕ → Type 0
  AtLink l =
      IsPrefix (without_cut (sent_on net lists l)) (without_cut (carries l)) × IsPrefix (owed_on net lists l) (carries l) × (without_cut (carries l) ≡ carries l)

  abbrev Taking : ℕ → Type 0
  Taking e = (i : ℕ) → i < inputs (net.part e) → IsPrefix (without_cut ((lists.taken e).packets i)) (without_cut (enters e i))

  of-chain : (l : ℕ) → l < net.links → is_regional (net.part (net.link l).from) ≡ false → AtLink l
  of-chain l lt chain =
      let o : ℕ = (net.link l).output in
      let sent : List Packet = sent_on net lists l in
      let same : carries l ≡ flow net rows (meaning g rows entries) l =
      are.sent l lt ∙ ap (on_output o) (chain-owes rows (meaning g rows entries) (net.part (net.link l).from) (enters (net.link l).from) chain) in
      let whole : without_cut (flow net rows (meaning g rows entries) l) ≡ flow net rows (meaning g rows entries) l = flow-without_cut net (meaning g rows entries) rows entries lists f j under l lt in (
        front-left (without_cut sent) (without_cut sent) (without_cut (carries l)) (flow net rows (meaning g rows entries) l) refl (ap without_cut same ∙ whole)
            (progress_flow_law net (meaning g rows entries) rows entries lists f j under l lt),
        front-left (owed_on net lists l) (owed_on net lists l) (carries l) (flow net rows (meaning g rows entries) l) refl same
            (owed-flow net (meaning g rows entries) rows entries lists f j under l lt),
        ap without_cut same ∙ whole ∙ sym same,
      )

  of-region : (l : ℕ) → l < net.links → (net.link l).from < net.size → is_regional (net.part (net.link l).from) ≡ true → Taking (net.link l).from → AtLink l
  of-region l lt size r taking =
      let e : ℕ = (net.link l).from in
      let o : ℕ = (net.link l).output in
      let part : Part = net.part (net.link l).from in
      let t : Taken = lists.taken (net.link l).from in
      let u : Taken = taken_with (enters (net.link l).from) (lists.taken (net.link l).from) in
      let laws : IsPart (net.part (net.link l).from) = f.is_net.parts (net.link l).from size in
      let none : t.entries ≡ [] = regional-recorded (net.part (net.link l).from) (lists.taken (net.link l).from) r (j.elements (net.link l).from size).recorded in
      let top : IsLess (taken_with (enters (net.link l).from) (lists.taken (net.link l).from)) (full (meaning g rows entries) rows entries (net.part (net.link l).from) (lists.taken (net.link l).from)) =
      regional-less (meaning g rows entries) rows entries (net.part (net.link l).from) (enters (net.link l).from) (lists.taken (net.link l).from) r none
      (fronts-by g net rows entries wired f carries enters are (suc (net.link l).from) (net.link l).from (omega arith) size) in
      let binds : Binds (net.part (net.link l).from) (taken_with (enters (net.link l).from) (lists.taken (net.link l).from)) =
      laws.binds u (full (meaning g rows entries) rows entries (net.part (net.link l).from) (lists.taken (net.link l).from)) top (f.binds (net.link l).from (lists.taken (net.link l).from) size) in
      let less : IsLess (lists.taken (net.link l).from) (taken_with (enters (net.link l).from) (lists.taken (net.link l).from)) = record {
        packets = taken-less e size taking;
        items = front-same t.items t.items refl;
        entries = front-same t.entries t.entries refl;
        found = none-found t none;
      } in
      let same : on_output o (owed part u) ≡ carries l =
      ap (on_output o) (regional-owes rows (meaning g rows entries) (net.part (net.link l).from) (enters (net.link l).from) (lists.taken (net.link l).from) r) ∙ sym (are.sent l lt) in
      let front : IsPrefix (on_output o (owed part t)) (on_output o (owed part u)) = front-on_output o (owed part t) (owed part u) (laws.grows t u less binds) in (
        front-trans (without_cut (sent_on net lists l)) (without_cut (on_output o (owed part t))) (without_cut (carries l))
            ((j.elements e size).sends (laws.binds t u less binds) o (f.is_net.output l lt))
            (front-left (without_cut (on_output o (owed part t))) (without_cut (on_output o (owed part t))) (without_cut (carries l)) (without_cut (on_output o (owed part u))) refl (ap without_cut (sym same))
            (front-without_cut (on_output o (owed part t)) (on_output o (owed part u)) front)),
        front-left (owed_on net lists l) (on_output o (owed part t)) (carries l) (on_output o (owed part u)) refl (sym same) front,
        ap without_cut (sym same) ∙ laws.no_cut u o ∙ same,
      )
    where
      taken-less : (e : ℕ) → e < net.size → Taking e → (i : ℕ) → IsPrefix (without_cut ((lists.taken e).packets i)) (without_cut (enters e i))
      taken-less e within taking i = elim (cases_lt i (inputs (net.part e))) [
        | inl low ↦ taking i low
        | inr high ↦ (without_cut (enters e i), ap (λ zs. without_cut zs ++ without_cut (enters e i)) ((j.elements e within).no_others i high))
      ]

  at-links : (b l : ℕ) → (net.link l).from < b → l < net.links → AtLink l
  at-links zero l low lt = absurd (omega (arith, low))
  at-links (suc b) l low lt =
      by (is_regional (net.part (net.link l).from)) refl (λ i within. taking (net.link l).from i (below l lt) (f.fed (net.link l).from i (below l lt) within) (λ k early inside. at-links b k (omega (arith, early, low)) inside))
    where
      below : (k : ℕ) → k < net.links → (net.link k).from < net.size
      below k inside = let low : (net.link k).from < (net.link k).to = f.is_net.earlier k inside in let top : (net.link k).to < net.size = f.is_net.within k inside in omega (arith, low, top)

      by : (r : Bool) → is_regional (net.part (net.link l).from) ≡ r → Taking (net.link l).from → AtLink l
      by true r taking = of-region l lt (below l lt) r taking
      by false r taking = of-chain l lt r

      taking : (e i : ℕ) → e < net.size → Fed net e i → ((k : ℕ) → (net.link k).from < e → k < net.links → AtLink k) → IsPrefix (without_cut ((lists.taken e).packets i)) (without_cut (enters e i))
      taking e i size fed earlier =
          let to : (net.link fed.link).to ≡ e = fed.to in
          let early : (net.link fed.link).from < (net.link fed.link).to = f.is_net.earlier fed.link fed.within in
          let packets : List Packet = (lists.taken (net.link fed.link).to).packets (net.link fed.link).input in
          let here : (lists.taken e).packets i ≡ (lists.taken (net.link fed.link).to).packets (net.link fed.link).input =
          ap (λ z. (lists.taken z).packets i) (sym fed.to) ∙ ap (λ z. (lists.taken (net.link fed.link).to).packets z) (sym fed.input) in
          let entered : enters e i ≡ carries fed.link =
          ap (λ z. enters z i) (sym fed.to) ∙ ap (λ z. enters (net.link fed.link).to z) (sym fed.input) ∙ are.taken fed.link fed.within in
          front-left (without_cut ((lists.taken e).packets i)) (without_cut packets) (without_cut (enters e i)) (without_cut (carries fed.link)) (ap without_cut here) (ap without_cut entered)
          (front-trans (without_cut packets) (without_cut (sent_on net lists fed.link)) (without_cut (carries fed.link))
          (front-without_cut packets (sent_on net lists fed.link) (j.links fed.link fed.within))
          (earlier fed.link (omega (arith, to, early)) fed.within).0)

pub carried_progress : CarriedProgress
carried_progress g net lists rows entries carries enters wired holds j under are l lt =
    let f = wired-flowing g rows entries wired.ordered wired.numbered net lists wired holds under in
    let at = at-links g net lists rows entries wired f j under carries enters are (suc (net.link l).from) l (omega arith) lt in (
      front-left (without_cut (sent_on net lists l)) (without_cut (sent_on net lists l)) (carries l) (without_cut (carries l)) refl (sym at.2) at.0,
      at.1,
    )

pub settled_carried : SettledCarried
settled_carried g net lists rows entries carries enters wired holds settled under are l lt =
    let f = wired-flowing g rows entries wired.ordered wired.numbered net lists wired holds under in
    let went = settled_flow_law net (meaning g rows entries) rows entries lists f settled under l lt in
    let same : flow net rows (meaning g rows entries) l ≡ carries l =
    carried_once g net rows (meaning g rows entries) (flow net rows (meaning g rows entries)) carries (λ e i. expects (meaning g rows entries) (net.part e) i) enters wired
    (flows_carried g net rows entries wired (meet_law g net lists rows entries wired holds settled under)) are l lt in (went.0 ∙ same, went.1 ∙ same)

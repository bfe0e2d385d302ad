-- What an element notes of what it takes.
use Rattle.std.proofs.Common.{ℕ, ◌<◌, ◌-◌, ◌&&◌, not, nat_lt, Bool, true, false, cond, suc, List, [], ◌∷◌, ◌++◌, ◌≡◌, map, length, drop, refl, sym, ap, ◌∙◌, subst, append-nil, arith, Option, None, Some, option_map, slice_get}
use Rattle.std.proofs.lemmas.Bool.{cond-false}
use Rattle.spl_value.specs.declared.item.Item.{Item}
use Rattle.spl_value.specs.declared.item.Item.TheVariants as I
use Rattle.spl_value.specs.declared.packet.Packet.{Packet}
use Rattle.spl_value.specs.declared.packet.Packet.TheVariants as P
use Rattle.spl_value.specs.declared.value.Value.{Value}
use Rattle.spl_value.specs.Numbered.{Rule, ByTurns, ByNumbers, ByPulses, InOrder}
use Rattle.channel_heads.specs.Held.{Held, MergerHolds}
use Rattle.hash_splitter.specs.Splitting.{Splitting}
use Rattle.order_merger.specs.Merging.{Turning, TurnStands, Numbering, NumberStands}
use Rattle.stream_model.specs.Bodies.{output}
use Rattle.stream_model.specs.Chains.{stages_passed}
use Rattle.stream_model.specs.Ends.{end_from}
use Rattle.stream_model.specs.Fans.{ports_of_fans}
use Rattle.stream_model.specs.Operators.{Operator, ports}
use Rattle.stream_model.specs.Stages.{Stage, start, gives_all, stage_after}
use Rattle.stream_model.specs.Stream.{Event, came}
use Rattle.stream_model.specs.declared.outgoing.Outgoing.{Outgoing}
use Rattle.network_model.specs.Adds.{merged_for}
use Rattle.network_model.specs.Networks.{Part, RegionPart, FromSource, FromLinks, Splitter, Replica, Merger, inputs, last_of}
use Rattle.network_model.specs.Owed.{entries_of}
use Rattle.network_model.specs.Receipts.{Receipt, Popped, WasRead, item_events, popped, read_in}
use Rattle.network_model.specs.Sinks.{pours}
use Rattle.network_model.specs.States.{At, waiting}
use Rattle.network_model.proofs.Receipts.{item_events-append, read_in-append}
use Rattle.operator_chains.specs.declared.chain.Chain.{Chain}
use Rattle.operator_chains.specs.declared.how.How.{How}
use Rattle.operator_chains.specs.declared.how.How.TheVariants as H
use Rattle.operator_chains.specs.Hows.{how_behind, how_by, last_how, stream_how}
use Rattle.operator_chains.specs.Standing.{AtChain}
use Rattle.operator_chains.proofs.Ending.{stream_how-more}
use Rattle.element_notes.specs.Endings.{arrivals_of, how_ended, how_passed, is_recorded, last_in, last_operator, ports_out}
use Rattle.element_notes.specs.Noting.{HasEnds, HasNoted}
use Rattle.element_notes.specs.declared.notes.Notes.{Notes}
use Rattle.element_notes.proofs.HowEnded.{how-after, last-passed}
use Rattle.element_notes.proofs.Recorded.{entries-item, entries-other}
use Rattle.element_outboxes.specs.declared.fan.Fan.{Fan}
use Rattle.element_outboxes.specs.declared.outbox.Outbox.{Outbox}
use Rattle.element_works.specs.Works.{ChainAt, HasTakenItem, stages_at}
use Rattle.element_works.specs.declared.tuples.Tuples.{Tuples}
use Rattle.merger_works.specs.Merging.{MergerAt}
use Rattle.elements.specs.declared.element.Element.{Element}
use Rattle.elements.specs.declared.part.ElementPart.{ElementPart}
use Rattle.elements.specs.declared.work.Work.{Work}
use Rattle.elements.specs.declared.work.Work.TheVariants as W
use Rattle.elements.specs.New.{HasNumbers, IsNew, NewWork, last_by, numbers_of, recorded_by}
use Rattle.elements.specs.Standing.{IsSpent}
use Rattle.elements.specs.Works.{MayWork, Merges, MergesAt, WorkAt, is_event_of, is_item}
use Rattle.elements.proofs.Receiving.{behind}

-- ---- how the last operator of a chain stands

how-source : (source : Operator) (ops : List Operator) (outs : List ℕ) (T : List Receipt)
    → how_ended (FromSource source ops outs) T ≡ last_how (stream_how (read_in T)) (stages_at (FromSource source ops outs) T)
how-source source ops outs T = last-passed (stream_how (read_in T)) ops (map (output 0) (read_in T))

how-links : (op : Operator) (ops : List Operator) (outs : List ℕ) (T : List Receipt) (how : How)
    → how_ended (FromLinks op ops outs) T ≡ last_how how (stages_at (FromLinks op ops outs) T)
how-links op ops outs T how =
    last-passed (how_by (end_from (start op) (item_events T))) ops (gives_all (start op) (item_events T))
    ∙ ap (λ h. last_how h (stages_passed (map start ops) (gives_all (start op) (item_events T)))) (sym (how-after (start op) (item_events T) refl))

-- a tuple ends no stream
pub tuple_ends_none : (how : How) (values : List Value) → how ≡ how_behind how (I.Tuple values)
tuple_ends_none H.Live values = refl
tuple_ends_none H.Final values = refl
tuple_ends_none (H.Bad fault) values = refl

-- ---- the record

arrivals-links : (op : Operator) (ops : List Operator) (outs : List ℕ) (T : List Receipt) (i : ℕ) (p : Packet)
    → entries_of (FromLinks op ops outs) (T ++ Popped i p ∷ []) ≡ cond (is_event_of (FromLinks op ops outs) T p) (entries_of (FromLinks op ops outs) T ++ i ∷ []) (entries_of (FromLinks op ops outs) T)
arrivals-links op ops outs T i (P.Item n x) = entries-item op ops outs T i (came i x) (Popped i (P.Item n x)) refl
arrivals-links op ops outs T i (P.Pulse n) = entries-other op ops outs T (Popped i (P.Pulse n)) refl
arrivals-links op ops outs T i P.Close = entries-other op ops outs T (Popped i P.Close) refl
arrivals-links op ops outs T i P.Cut = entries-other op ops outs T (Popped i P.Cut) refl

pub arrivals-more : (part : Part) (T : List Receipt) (i : ℕ) (p : Packet)
    → arrivals_of part (T ++ Popped i p ∷ []) ≡ cond (is_recorded part && is_event_of part T p) (arrivals_of part T ++ i ∷ []) (arrivals_of part T)
arrivals-more (FromSource source ops outs) T i p = refl
arrivals-more (FromLinks op ops outs) T i p = go (nat_lt 1 (length (ports op)))
  where
    go : (b : Bool) → cond b (entries_of (FromLinks op ops outs) (T ++ Popped i p ∷ [])) []
        ≡ cond (b && is_event_of (FromLinks op ops outs) T p) (cond b (entries_of (FromLinks op ops outs) T) [] ++ i ∷ []) (cond b (entries_of (FromLinks op ops outs) T) [])
    go true = arrivals-links op ops outs T i p
    go false = refl
arrivals-more (Splitter region) T i p = refl
arrivals-more (Replica region channel) T i p = refl
arrivals-more (Merger region outs) T i p = refl

-- ---- a new element

last_number : (op : Operator) (ops : List Operator)
    → Some (last_of op ops).number ≡ slice_get (map (λ (o : Operator). o.number) (op ∷ ops)) (length (map (λ (o : Operator). o.number) (op ∷ ops)) - 1)
last_number op [] = refl
last_number op (next ∷ ops) =
    last_number next ops
    ∙ ap (slice_get (map (λ (o : Operator). o.number) (op ∷ next ∷ ops)))
    (let n : suc (length (map (λ (o : Operator). o.number) (next ∷ ops)) - 1) ≡ length (map (λ (o : Operator). o.number) (op ∷ next ∷ ops)) - 1 = omega arith in n)

last_in_region : (ops : List Operator)
    → option_map (λ (o : Operator). o.number) (last_in ops) ≡ slice_get (map (λ (o : Operator). o.number) ops) (length (map (λ (o : Operator). o.number) ops) - 1)
last_in_region [] = refl
last_in_region (op ∷ ops) = last_number op ops

-- ---- all is poured

pub all_poured : {R : Type 0} (part : Part) (e : Element R) (a : At) (poured : List (List Value)) → IsSpent part e a poured → a.cut ≡ false → waiting part a poured ≡ [] → poured ≡ pours part a.kept
all_poured part e a poured spent uncut none =
    let front = spent.front in
    let left : front.0 ≡ [] = sym (behind poured front.0 (pours part a.kept) front.1) ∙ sym (cond-false a.cut [] (drop (length poured) (pours part a.kept)) uncut) ∙ none in
    sym (append-nil poured) ∙ ap (λ z. poured ++ z) (sym left) ∙ front.1

module _ {R : Type 0} (spec : R → Operator) (stands : R → List Event → Type 0) where
  number_is : (part : Part) (work : Work R) (counts : List ℕ) → NewWork spec stands part work counts → option_map (λ (o : Operator). o.number) (last_operator part) ≡ last_by work (numbers_of part)
  number_is (FromSource source ops outs) (W.Chain chain) counts new = last_number source ops
  number_is (FromLinks op ops outs) (W.Chain chain) counts new = last_number op ops
  number_is (Splitter region) (W.Splitter s) counts new = refl
  number_is (Replica region channel) (W.Replica chain) counts new = refl
  number_is (Merger region outs) (W.Turns m) counts new = last_in_region region.ops
  number_is (Merger region outs) (W.Numbers m) counts new = last_in_region region.ops
  number_is (Merger region outs) (W.Pulses m) counts new = last_in_region region.ops
  number_is (FromSource source ops outs) (W.Replica chain) counts new = absurd new
  number_is (FromSource source ops outs) (W.Splitter s) counts new = absurd new
  number_is (FromSource source ops outs) (W.Turns m) counts new = absurd new
  number_is (FromSource source ops outs) (W.Numbers m) counts new = absurd new
  number_is (FromSource source ops outs) (W.Pulses m) counts new = absurd new
  number_is (FromLinks op ops outs) (W.Replica chain) counts new = absurd new
  number_is (FromLinks op ops outs) (W.Splitter s) counts new = absurd new
  number_is (FromLinks op ops outs) (W.Turns m) counts new = absurd new
  number_is (FromLinks op ops outs) (W.Numbers m) counts new = absurd new
  number_is (FromLinks op ops outs) (W.Pulses m) counts new = absurd new
  number_is (Splitter region) (W.Chain chain) counts new = absurd new
  number_is (Splitter region) (W.Replica chain) counts new = absurd new
  number_is (Splitter region) (W.Turns m) counts new = absurd new
  number_is (Splitter region) (W.Numbers m) counts new = absurd new
  number_is (Splitter region) (W.Pulses m) counts new = absurd new
  number_is (Replica region channel) (W.Chain chain) counts new = absurd new
  number_is (Replica region channel) (W.Splitter s) counts new = absurd new
  number_is (Replica region channel) (W.Turns m) counts new = absurd new
  number_is (Replica region channel) (W.Numbers m) counts new = absurd new
  number_is (Replica region channel) (W.Pulses m) counts new = absurd new
  number_is (Merger region outs) (W.Chain chain) counts new = absurd new
  number_is (Merger region outs) (W.Replica chain) counts new = absurd new
  number_is (Merger region outs) (W.Splitter s) counts new = absurd new

  outs_are : (part : Part) (work : Work R) (counts : List ℕ) → NewWork spec stands part work counts → (op : Operator) → last_operator part ≡ Some op → ports_out part ≡ ports_of_fans counts
  outs_are (FromSource source ops outs) (W.Chain chain) counts new op e = new.1.0
  outs_are (FromLinks first ops outs) (W.Chain chain) counts new op e = new.1.0
  outs_are (Splitter region) work counts new op e = cc
  outs_are (Replica region channel) work counts new op e = cc
  outs_are (Merger region outs) (W.Turns m) counts new op e = new.2
  outs_are (Merger region outs) (W.Numbers m) counts new op e = new.2
  outs_are (Merger region outs) (W.Pulses m) counts new op e = new.2
  outs_are (FromSource source ops outs) (W.Replica chain) counts new op e = absurd new
  outs_are (FromSource source ops outs) (W.Splitter s) counts new op e = absurd new
  outs_are (FromSource source ops outs) (W.Turns m) counts new op e = absurd new
  outs_are (FromSource source ops outs) (W.Numbers m) counts new op e = absurd new
  outs_are (FromSource source ops outs) (W.Pulses m) counts new op e = absurd new
  outs_are (FromLinks first ops outs) (W.Replica chain) counts new op e = absurd new
  outs_are (FromLinks first ops outs) (W.Splitter s) counts new op e = absurd new
  outs_are (FromLinks first ops outs) (W.Turns m) counts new op e = absurd new
  outs_are (FromLinks first ops outs) (W.Numbers m) counts new op e = absurd new
  outs_are (FromLinks first ops outs) (W.Pulses m) counts new op e = absurd new
  outs_are (Merger region outs) (W.Chain chain) counts new op e = absurd new
  outs_are (Merger region outs) (W.Replica chain) counts new op e = absurd new
  outs_are (Merger region outs) (W.Splitter s) counts new op e = absurd new

  pub has_ends : (part : Part) (made : ElementPart R) (last : Option ℕ) → IsNew spec stands part made → HasNumbers part made → last ≡ last_by made.work made.ids → HasEnds part last made.fans
  has_ends part made last new has is = record {
    number = number_is part made.work made.fans new.new_work ∙ ap (last_by made.work) (sym has.ids) ∙ sym is;
    outs = outs_are part made.work made.fans new.new_work;
    count = has.ports;
  }

  recorded_is : (part : Part) (work : Work R) (counts : List ℕ) → NewWork spec stands part work counts → recorded_by work (inputs part) ≡ is_recorded part
  recorded_is (FromSource source ops outs) (W.Chain chain) counts new = refl
  recorded_is (FromLinks op ops outs) (W.Chain chain) counts new = refl
  recorded_is (Splitter region) (W.Splitter s) counts new = refl
  recorded_is (Replica region channel) (W.Replica chain) counts new = refl
  recorded_is (Merger region outs) (W.Turns m) counts new = refl
  recorded_is (Merger region outs) (W.Numbers m) counts new = refl
  recorded_is (Merger region outs) (W.Pulses m) counts new = refl
  recorded_is (FromSource source ops outs) (W.Replica chain) counts new = absurd new
  recorded_is (FromSource source ops outs) (W.Splitter s) counts new = absurd new
  recorded_is (FromSource source ops outs) (W.Turns m) counts new = absurd new
  recorded_is (FromSource source ops outs) (W.Numbers m) counts new = absurd new
  recorded_is (FromSource source ops outs) (W.Pulses m) counts new = absurd new
  recorded_is (FromLinks op ops outs) (W.Replica chain) counts new = absurd new
  recorded_is (FromLinks op ops outs) (W.Splitter s) counts new = absurd new
  recorded_is (FromLinks op ops outs) (W.Turns m) counts new = absurd new
  recorded_is (FromLinks op ops outs) (W.Numbers m) counts new = absurd new
  recorded_is (FromLinks op ops outs) (W.Pulses m) counts new = absurd new
  recorded_is (Splitter region) (W.Chain chain) counts new = absurd new
  recorded_is (Splitter region) (W.Replica chain) counts new = absurd new
  recorded_is (Splitter region) (W.Turns m) counts new = absurd new
  recorded_is (Splitter region) (W.Numbers m) counts new = absurd new
  recorded_is (Splitter region) (W.Pulses m) counts new = absurd new
  recorded_is (Replica region channel) (W.Chain chain) counts new = absurd new
  recorded_is (Replica region channel) (W.Splitter s) counts new = absurd new
  recorded_is (Replica region channel) (W.Turns m) counts new = absurd new
  recorded_is (Replica region channel) (W.Numbers m) counts new = absurd new
  recorded_is (Replica region channel) (W.Pulses m) counts new = absurd new
  recorded_is (Merger region outs) (W.Chain chain) counts new = absurd new
  recorded_is (Merger region outs) (W.Replica chain) counts new = absurd new
  recorded_is (Merger region outs) (W.Splitter s) counts new = absurd new

  pub records_as : (part : Part) (made : ElementPart R) (n : ℕ) (records : Bool) → IsNew spec stands part made → n ≡ length made.ins → records ≡ recorded_by made.work n → records ≡ is_recorded part
  records_as part made n records new is same = same ∙ ap (recorded_by made.work) (is ∙ new.input_count) ∙ recorded_is part made.work made.fans new.new_work

  -- ---- the work takes something

  -- a chain takes an item
  pub item_how : (old new : Chain R) (fans : List Fan) (t t2 : Tuples) (before after : Outbox) (i : ℕ) (p : Packet) (n : ℕ) (x : Item) (how now : How) → p ≡ P.Item n x
      → HasTakenItem spec stands old new fans t t2 before after i x → ((ss : List Stage) → AtChain spec stands new ss → now ≡ last_how how ss)
      → (part : Part) (T : List Receipt) → ChainAt spec stands part T old fans t → MayWork part T (Popped i p) → now ≡ how_ended part (T ++ Popped i p ∷ [])
  item_how old new fans t t2 before after i p n x how now is run stood (FromLinks op ops outs) T at may =
      subst (λ q. now ≡ how_ended (FromLinks op ops outs) (T ++ Popped i q ∷ [])) (sym is) (
      let took = run (FromLinks op ops outs) T (Popped i (P.Item n x)) (refl, refl) at (subst (λ q. MayWork (FromLinks op ops outs) T (Popped i q)) is may) in
      stood _ took.0.operators ∙ sym (how-links op ops outs (T ++ Popped i (P.Item n x) ∷ []) how))
  item_how old new fans t t2 before after i p n x how now is run stood (FromSource source ops outs) T at may = absurd may
  item_how old new fans t t2 before after i p n x how now is run stood (Splitter region) T at may = absurd at.has_fans
  item_how old new fans t t2 before after i p n x how now is run stood (Replica region channel) T at may = absurd at.has_fans
  item_how old new fans t t2 before after i p n x how now is run stood (Merger region outs) T at may = absurd at.has_fans

  -- or another packet
  pub quiet_how : (chain : Chain R) (fans : List Fan) (t : Tuples) (i : ℕ) (packet p : Packet) (how : How) → packet ≡ p → item_events (Popped i p ∷ []) ≡ []
      → (part : Part) (T : List Receipt) → ChainAt spec stands part T chain fans t → MayWork part T (Popped i packet) → how ≡ how_ended part T → how ≡ how_ended part (T ++ Popped i packet ∷ [])
  quiet_how chain fans t i packet p how is none (FromLinks op ops outs) T at may stood =
      subst (λ q. how ≡ how_ended (FromLinks op ops outs) (T ++ Popped i q ∷ [])) (sym is)
      (stood ∙ ap (λ es. how_passed (how_by (end_from (start op) es)) ops (gives_all (start op) es))
      (sym (item_events-append T (Popped i p ∷ []) ∙ ap (λ es. item_events T ++ es) none ∙ append-nil (item_events T))))
  quiet_how chain fans t i packet p how is none (FromSource source ops outs) T at may stood = absurd may
  quiet_how chain fans t i packet p how is none (Splitter region) T at may stood = absurd at.has_fans
  quiet_how chain fans t i packet p how is none (Replica region channel) T at may stood = absurd at.has_fans
  quiet_how chain fans t i packet p how is none (Merger region outs) T at may stood = absurd at.has_fans

  -- a source gives an item
  pub read_how : (old new : Chain R) (fans : List Fan) (t t2 : Tuples) (before after : Outbox) (x : Item) (was how now : How)
      → HasTakenItem spec stands old new fans t t2 before after 0 x → ((ss : List Stage) → AtChain spec stands new ss → now ≡ last_how how ss) → how ≡ how_behind was x
      → (part : Part) (T : List Receipt) → WorkAt spec stands part T (W.Chain old) fans t → MayWork part T (WasRead x) → was ≡ how_ended part T → now ≡ how_ended part (T ++ WasRead x ∷ [])
  read_how old new fans t t2 before after x was how now run stood is (FromSource source [] outs) T at may was_is =
      let took = run (FromSource source [] outs) T (WasRead x) (refl, refl) at may in
      stood _ took.0.operators ∙ is ∙ ap (λ h. how_behind h x) was_is ∙ sym (stream_how-more (read_in T) x) ∙ ap stream_how (sym (read_in-append T (WasRead x ∷ [])))
  read_how old new fans t t2 before after x was how now run stood is (FromSource source (op ∷ ops) outs) T at may was_is =
      let took = run (FromSource source (op ∷ ops) outs) T (WasRead x) (refl, refl) at may in
      stood _ took.0.operators ∙ sym (how-source source (op ∷ ops) outs (T ++ WasRead x ∷ []))
  read_how old new fans t t2 before after x was how now run stood is (FromLinks op ops outs) T at may was_is = absurd may
  read_how old new fans t t2 before after x was how now run stood is (Splitter region) T at may was_is = absurd at
  read_how old new fans t t2 before after x was how now run stood is (Replica region channel) T at may was_is = absurd at
  read_how old new fans t t2 before after x was how now run stood is (Merger region outs) T at may was_is = absurd at

  -- a source has no record
  pub read_record : (part : Part) (T : List Receipt) (x : Item) → MayWork part T (WasRead x) → arrivals_of part (T ++ WasRead x ∷ []) ≡ arrivals_of part T
  read_record (FromSource source ops outs) T x may = refl
  read_record (FromLinks op ops outs) T x may = absurd may
  read_record (Splitter region) T x may = absurd may
  read_record (Replica region channel) T x may = absurd may
  read_record (Merger region outs) T x may = absurd may

  -- the work is a chain
  pub chain_how : (old : Chain R) (fans : List Fan) (t : Tuples) (r : Receipt) (how now : How)
      → ((part : Part) (T : List Receipt) → ChainAt spec stands part T old fans t → MayWork part T r → how ≡ how_ended part T → now ≡ how_ended part (T ++ r ∷ []))
      → (part : Part) (T : List Receipt) → WorkAt spec stands part T (W.Chain old) fans t → MayWork part T r → how ≡ how_ended part T → now ≡ how_ended part (T ++ r ∷ [])
  chain_how old fans t r how now run (FromSource source ops outs) T at may stood = run (FromSource source ops outs) T at may stood
  chain_how old fans t r how now run (FromLinks op ops outs) T at may stood = run (FromLinks op ops outs) T at may stood
  chain_how old fans t r how now run (Splitter region) T at may stood = absurd at
  chain_how old fans t r how now run (Replica region channel) T at may stood = absurd at
  chain_how old fans t r how now run (Merger region outs) T at may stood = absurd at

  -- splitters and replicas have no ends
  pub replica_how : (chain : Chain R) (fans : List Fan) (t : Tuples) (how : How) (r : Receipt) (part : Part) (T : List Receipt) → WorkAt spec stands part T (W.Replica chain) fans t
      → how ≡ how_ended part T → how ≡ how_ended part (T ++ r ∷ [])
  replica_how chain fans t how r (Replica region channel) T at stood = stood
  replica_how chain fans t how r (FromSource source ops outs) T at stood = absurd at
  replica_how chain fans t how r (FromLinks op ops outs) T at stood = absurd at
  replica_how chain fans t how r (Splitter region) T at stood = absurd at
  replica_how chain fans t how r (Merger region outs) T at stood = absurd at

  pub splitter_how : (s : Splitting) (fans : List Fan) (t : Tuples) (how : How) (r : Receipt) (part : Part) (T : List Receipt) → WorkAt spec stands part T (W.Splitter s) fans t
      → how ≡ how_ended part T → how ≡ how_ended part (T ++ r ∷ [])
  splitter_how s fans t how r (Splitter region) T at stood = stood
  splitter_how s fans t how r (FromSource source ops outs) T at stood = absurd at
  splitter_how s fans t how r (FromLinks op ops outs) T at stood = absurd at
  splitter_how s fans t how r (Replica region channel) T at stood = absurd at
  splitter_how s fans t how r (Merger region outs) T at stood = absurd at

  -- how the stream of a merger stands that has run
  abbrev pub HasStood : {M : Type 0} (held : M → Held) (stood : ℕ → M → (ℕ → List Packet) → List Item → Type 0) (rule : Rule) (old : M) (fans : List Fan) (i : ℕ) (p : Packet) (how now : How) → Type 0
  HasStood held stood rule old fans i p how now = (region : RegionPart) (counts : List ℕ) (T : List Receipt) → region.rule ≡ rule → MergerAt held stood rule region.width counts T old fans
      → InOrder region.rule region.width (λ c. popped c (T ++ Popped i p ∷ [])) → how ≡ stream_how (merged_for region T) → now ≡ stream_how (merged_for region (T ++ Popped i p ∷ []))

  pub turns_how : (m : Turning) (fans : List Fan) (t : Tuples) (i : ℕ) (p : Packet) (how now : How) → HasStood (λ (m : Turning). m.held) TurnStands ByTurns m fans i p how now
      → (part : Part) (T : List Receipt) → WorkAt spec stands part T (W.Turns m) fans t → MayWork part T (Popped i p) → how ≡ how_ended part T → now ≡ how_ended part (T ++ Popped i p ∷ [])
  turns_how m fans t i p how now run (Merger region outs) T at may stood = run region at.counts T at.same_rule at.merger may.order stood
  turns_how m fans t i p how now run (FromSource source ops outs) T at may stood = absurd at
  turns_how m fans t i p how now run (FromLinks op ops outs) T at may stood = absurd at
  turns_how m fans t i p how now run (Splitter region) T at may stood = absurd at
  turns_how m fans t i p how now run (Replica region channel) T at may stood = absurd at

  pub numbers_how : (m : Numbering) (fans : List Fan) (t : Tuples) (i : ℕ) (p : Packet) (how now : How) → HasStood (λ (m : Numbering). m.held) NumberStands ByNumbers m fans i p how now
      → (part : Part) (T : List Receipt) → WorkAt spec stands part T (W.Numbers m) fans t → MayWork part T (Popped i p) → how ≡ how_ended part T → now ≡ how_ended part (T ++ Popped i p ∷ [])
  numbers_how m fans t i p how now run (Merger region outs) T at may stood = run region at.counts T at.same_rule at.merger may.order stood
  numbers_how m fans t i p how now run (FromSource source ops outs) T at may stood = absurd at
  numbers_how m fans t i p how now run (FromLinks op ops outs) T at may stood = absurd at
  numbers_how m fans t i p how now run (Splitter region) T at may stood = absurd at
  numbers_how m fans t i p how now run (Replica region channel) T at may stood = absurd at

  pub pulses_how : (m : Held) (fans : List Fan) (t : Tuples) (i : ℕ) (p : Packet) (how now : How) → HasStood (λ (m : Held). m) (MergerHolds ByPulses) ByPulses m fans i p how now
      → (part : Part) (T : List Receipt) → WorkAt spec stands part T (W.Pulses m) fans t → MayWork part T (Popped i p) → how ≡ how_ended part T → now ≡ how_ended part (T ++ Popped i p ∷ [])
  pulses_how m fans t i p how now run (Merger region outs) T at may stood = run region at.counts T at.same_rule at.merger may.order stood
  pulses_how m fans t i p how now run (FromSource source ops outs) T at may stood = absurd at
  pulses_how m fans t i p how now run (FromLinks op ops outs) T at may stood = absurd at
  pulses_how m fans t i p how now run (Splitter region) T at may stood = absurd at
  pulses_how m fans t i p how now run (Replica region channel) T at may stood = absurd at

  -- ---- what is recorded

  -- an item that comes to a chain is an event where the first operator is live
  pub event_chain : (chain : Chain R) (p : Packet) (b live : Bool) → b ≡ (is_item p && live) → ((s : Stage) (ss : List Stage) → AtChain spec stands chain (s ∷ ss) → live ≡ not s.over)
      → (part : Part) (T : List Receipt) (fans : List Fan) (t : Tuples) → WorkAt spec stands part T (W.Chain chain) fans t → is_recorded part ≡ true → b ≡ is_event_of part T p
  event_chain chain p b live is lives (FromLinks op ops outs) T fans t at recorded =
      is ∙ ap (λ c. is_item p && c) (lives _ _ at.operators)
  event_chain chain p b live is lives (FromSource source ops outs) T fans t at recorded = cc
  event_chain chain p b live is lives (Splitter region) T fans t at recorded = cc
  event_chain chain p b live is lives (Replica region channel) T fans t at recorded = cc
  event_chain chain p b live is lives (Merger region outs) T fans t at recorded = cc

  pub no_item_event : (part : Part) (T : List Receipt) (p : Packet) → is_item p ≡ false → false ≡ is_event_of part T p
  no_item_event (FromSource source ops outs) T p none = refl
  no_item_event (FromLinks op ops outs) T p none = ap (λ c. c && not (stage_after (start op) (item_events T)).over) (sym none)
  no_item_event (Splitter region) T p none = refl
  no_item_event (Replica region channel) T p none = refl
  no_item_event (Merger region outs) T p none = refl

  -- nothing that comes to another element is recorded
  pub no_event : (work : Work R) (p : Packet) → ((chain : Chain R) → work ≡ W.Chain chain → ⊥)
      → (part : Part) (T : List Receipt) (fans : List Fan) (t : Tuples) → WorkAt spec stands part T work fans t → is_recorded part ≡ true → false ≡ is_event_of part T p
  no_event (W.Chain chain) p other (FromLinks op ops outs) T fans t at recorded = absurd (other chain refl)
  no_event (W.Replica chain) p other (FromLinks op ops outs) T fans t at recorded = absurd at
  no_event (W.Splitter s) p other (FromLinks op ops outs) T fans t at recorded = absurd at
  no_event (W.Turns m) p other (FromLinks op ops outs) T fans t at recorded = absurd at
  no_event (W.Numbers m) p other (FromLinks op ops outs) T fans t at recorded = absurd at
  no_event (W.Pulses m) p other (FromLinks op ops outs) T fans t at recorded = absurd at
  no_event work p other (FromSource source ops outs) T fans t at recorded = cc
  no_event work p other (Splitter region) T fans t at recorded = cc
  no_event work p other (Replica region channel) T fans t at recorded = cc
  no_event work p other (Merger region outs) T fans t at recorded = cc

-- The work of each kind of element.
use Rattle.std.proofs.Common.{ℕ, ◌<◌, ◌&&◌, Bool, true, false, cond, List, [], ◌∷◌, ◌++◌, ◌≡◌, map, length, not, refl, sym, ap, ◌∙◌, subst, append-nil, None, Some, Option}
use Rattle.spl_value.specs.declared.item.Item.{Item}
use Rattle.spl_value.specs.declared.packet.Packet.{Packet}
use Rattle.spl_value.specs.declared.packet.Packet.TheVariants as P
use Rattle.spl_value.specs.declared.value.Value.{Value}
use Rattle.spl_value.specs.Numbered.{Rule, ByTurns, ByNumbers, ByPulses, InOrder}
use Rattle.channel_heads.specs.Held.{Held, MergerHolds, wants, width_of}
use Rattle.hash_splitter.specs.Splitting.{Splitting}
use Rattle.order_merger.specs.Merging.{Turning, TurnStands, Numbering, NumberStands}
use Rattle.stream_model.specs.Chains.{chain_after, passed, stages_passed}
use Rattle.stream_model.specs.Fans.{ports_of_fans}
use Rattle.stream_model.specs.Operators.{Operator}
use Rattle.stream_model.specs.Stages.{Stage, start, gives_all, stage_after}
use Rattle.stream_model.specs.Stream.{Event, any_closes}
use Rattle.stream_model.specs.declared.outgoing.Outgoing.{Outgoing}
use Rattle.network_model.specs.Adds.{adds, gives_more}
use Rattle.network_model.specs.Legal.{wants as may_pop}
use Rattle.network_model.specs.Networks.{Part, RegionPart, FromSource, FromLinks, Splitter, Replica, Merger, inputs, last_of}
use Rattle.network_model.specs.Owed.{region_splits, send_all, taken_of}
use Rattle.network_model.specs.Packets.{has_last, items_in}
use Rattle.network_model.specs.Receipts.{Receipt, Popped, WasRead, item_events, popped}
use Rattle.network_model.specs.Sinks.{for_sink, is_sink, pours_more}
use Rattle.network_model.proofs.Packets.{items_in-append}
use Rattle.network_model.proofs.Receipts.{item_events-append, popped-append}
use Rattle.operator_chains.specs.Standing.{AtChain}
use Rattle.operator_chains.specs.declared.chain.Chain.{Chain}
use Rattle.element_outboxes.specs.Waiting.{waits}
use Rattle.element_outboxes.specs.declared.fan.Fan.{Fan}
use Rattle.element_outboxes.specs.declared.outbox.Outbox.{Outbox}
use Rattle.element_works.specs.Tuples.{IsKept, room_of, sink_waits, standing_at, IsWithin}
use Rattle.element_works.specs.Works.{ChainAt, HasReplied, HasTakenItem, SplitterAt}
use Rattle.element_works.specs.declared.tuples.Tuples.{Tuples}
use Rattle.merger_works.specs.Laws.{WantsAt, WidthAt}
use Rattle.merger_works.specs.Merging.{MergerAt}
use Rattle.merger_works.proofs.EachKind.{wants_law, width_law}
use Rattle.elements.specs.declared.work.Work.{Work}
use Rattle.elements.specs.declared.work.Work.TheVariants as W
use Rattle.elements.specs.Works.{Enters, HasInput, HasWorked, MayWork, Merges, MergesAt, WorkAt, wants_more}

-- ---- packets that are no item

nothing_passed : (ss : List Stage) → passed ss [] ≡ []
nothing_passed [] = refl
nothing_passed (s ∷ ss) = nothing_passed ss

no-gives : (op : Operator) (ops : List Operator) (outs : List ℕ) (T : List Receipt) (r : Receipt) → item_events (r ∷ []) ≡ [] → gives_more (FromLinks op ops outs) T r ≡ []
no-gives op ops outs T r h =
    ap (λ es. passed (stages_passed (map start ops) (gives_all (start op) (item_events T))) (gives_all (stage_after (start op) (item_events T)) es)) h
    ∙ nothing_passed (stages_passed (map start ops) (gives_all (start op) (item_events T)))

no-sink : (last : Operator) → for_sink last [] ≡ []
no-sink last = go (is_sink last.clauses)
  where
    go : (b : Bool) → cond {A = List (List Value)} b [] [] ≡ []
    go true = refl
    go false = refl

pub quiet_split : (region : RegionPart) (T : List Receipt) (packet p : Packet) (s : Splitting) (V : List Outgoing) → packet ≡ p → items_in (p ∷ []) ≡ [] → SplitterAt region T s
    → SplitterAt region (T ++ Popped 0 packet ∷ []) s × (V ≡ V ++ adds (Splitter region) T (Popped 0 packet))
quiet_split region T packet p s V is none at =
    subst (λ q. SplitterAt region (T ++ Popped 0 q ∷ []) s × (V ≡ V ++ adds (Splitter region) T (Popped 0 q))) (sym is) (
      record {
        same_routing = at.same_routing;
        same_width = at.same_width;
        same_pulses = at.same_pulses;
        count = at.count ∙ ap length (sym (ap items_in (popped-append 0 T (Popped 0 p ∷ [])) ∙ items_in-append (popped 0 T) (p ∷ []) ∙ ap (λ xs. items_in (popped 0 T) ++ xs) none ∙ append-nil (items_in (popped 0 T))));
        earlier = at.earlier;
      },
      sym (append-nil V) ∙ ap (λ z. V ++ z) (sym (ap (λ xs. cond (any_closes (items_in (popped 0 T))) [] (region_splits region (length (items_in (popped 0 T))) xs)) none ∙ go (any_closes (items_in (popped 0 T))))),
    )
  where
    go : (b : Bool) → cond {A = List Outgoing} b [] [] ≡ []
    go true = refl
    go false = refl

pub split_item : (region : RegionPart) (T : List Receipt) (packet : Packet) (n : ℕ) (x : Item) (s s2 : Splitting) (V U : List Outgoing) → packet ≡ P.Item n x
    → ((region : RegionPart) (T : List Receipt) (number : ℕ) → SplitterAt region T s → any_closes (items_in (popped 0 T)) ≡ false
    → SplitterAt region (T ++ Popped 0 (P.Item number x) ∷ []) s2 × (U ≡ V ++ adds (Splitter region) T (Popped 0 (P.Item number x))))
    → SplitterAt region T s → Enters region (items_in (popped 0 T)) packet
    → SplitterAt region (T ++ Popped 0 packet ∷ []) s2 × (U ≡ V ++ adds (Splitter region) T (Popped 0 packet))
split_item region T packet n x s s2 V U is run at may =
    subst (λ q. SplitterAt region (T ++ Popped 0 q ∷ []) s2 × (U ≡ V ++ adds (Splitter region) T (Popped 0 q))) (sym is)
    (run region T n at (subst (Enters region (items_in (popped 0 T))) is may).2)

-- ---- tuples for no sink

pub none_ready : (t : Tuples) → sink_waits t ≡ [] → IsKept t
none_ready t none = go t.ready none
  where
    go : (x : Option ℕ) → standing_at t.places.items x ++ t.waiting.items ≡ [] → IsWithin (room_of t) x
    go None e = tt
    go (Some at) e = cc

-- ---- mergers

merger_ready : {M : Type 0} (held : M → Held) (stood : ℕ → M → (ℕ → List Packet) → List Item → Type 0) (rule : Rule) → WidthAt held stood rule → WantsAt held stood rule
    → (region : RegionPart) (outs : List ℕ) (T : List Receipt) (m : M) (fans : List Fan) (i : ℕ) (p : Packet) → MergesAt held stood rule region outs T m fans → Merges region outs T i p
    → (i < width_of (held m)) × (wants (held m) i ≡ true)
merger_ready held stood rule width_is wants_is region outs T m fans i p at may = (
  subst (λ w. i < w) (sym (width_is region.width at.counts T m fans at.merger)) may.within,
  wants_is region outs at.counts T m fans i at.same_rule at.merger at.order may.within
      ∙ ap (λ b. not b && may_pop (Merger region outs) (taken_of (Merger region outs) T) i) may.unended ∙ may.wanted,
)

merger_more : {M : Type 0} (held : M → Held) (stood : ℕ → M → (ℕ → List Packet) → List Item → Type 0) (rule : Rule) (old new : M) (fans : List Fan) (V U : List Outgoing) (i : ℕ) (p : Packet)
    → ((region : RegionPart) (counts : List ℕ) (T : List Receipt) → region.rule ≡ rule → MergerAt held stood rule region.width counts T old fans → InOrder region.rule region.width (λ c. popped c (T ++ Popped i p ∷ []))
    → MergerAt held stood rule region.width counts (T ++ Popped i p ∷ []) new fans × (U ≡ V ++ adds (Merger region (ports_of_fans counts)) T (Popped i p)))
    → (region : RegionPart) (outs : List ℕ) (T : List Receipt) → MergesAt held stood rule region outs T old fans → Merges region outs T i p
    → MergesAt held stood rule region outs (T ++ Popped i p ∷ []) new fans × (U ≡ V ++ adds (Merger region outs) T (Popped i p))
merger_more held stood rule old new fans V U i p run region outs T at may =
    let r = run region at.counts T at.same_rule at.merger may.order in (
      record { same_rule = at.same_rule; counts = at.counts; outs_are = at.outs_are; merger = r.0; order = may.order },
      r.1 ∙ ap (λ os. V ++ adds (Merger region os) T (Popped i p)) (sym at.outs_are),
    )

module _ {R : Type 0} (spec : R → Operator) (stands : R → List Event → Type 0) where
  pub quiet : (part : Part) (T : List Receipt) (i : ℕ) (packet p : Packet) (chain : Chain R) (fans : List Fan) (tuples : Tuples) (V : List Outgoing) (S : List (List Value)) → packet ≡ p → item_events (Popped i p ∷ []) ≡ []
      → ChainAt spec stands part T chain fans tuples → MayWork part T (Popped i packet)
      → ChainAt spec stands part (T ++ Popped i packet ∷ []) chain fans tuples × (V ≡ V ++ adds part T (Popped i packet)) × (S ≡ S ++ pours_more part T (Popped i packet))
  quiet (FromSource source ops outs) T i packet p chain fans tuples V S is none at may = absurd may
  quiet (FromLinks op ops outs) T i packet p chain fans tuples V S is none at may =
      subst (λ q. ChainAt spec stands (FromLinks op ops outs) (T ++ Popped i q ∷ []) chain fans tuples × (V ≡ V ++ adds (FromLinks op ops outs) T (Popped i q)) × (S ≡ S ++ pours_more (FromLinks op ops outs) T (Popped i q))) (sym is) (
        record {
          operators = subst (λ es. AtChain spec stands chain (chain_after (map start (op ∷ ops)) es)) (sym (item_events-append T (Popped i p ∷ []) ∙ ap (λ es. item_events T ++ es) none ∙ append-nil (item_events T))) at.operators;
          counts = at.counts;
          has_fans = at.has_fans;
          fans_are = at.fans_are;
          few = at.few;
          room = at.room;
        },
        sym (append-nil V) ∙ ap (λ z. V ++ z) (sym (ap (send_all outs) (no-gives op ops outs T (Popped i p) none))),
        sym (append-nil S) ∙ ap (λ z. S ++ z) (sym (ap (for_sink (last_of op ops)) (no-gives op ops outs T (Popped i p) none) ∙ no-sink (last_of op ops))),
      )
  quiet (Splitter region) T i packet p chain fans tuples V S is none at may = absurd at.has_fans
  quiet (Replica region channel) T i packet p chain fans tuples V S is none at may = absurd at.has_fans
  quiet (Merger region outs) T i packet p chain fans tuples V S is none at may = absurd at.has_fans

  -- ---- each kind takes a packet

  pub replica_takes : (old new : Chain R) (fans : List Fan) (before after : Outbox) (t t2 : Tuples) (i : ℕ) (p : Packet) → HasReplied spec stands old new t t2 before after p → (sink_waits t ≡ [] → sink_waits t2 ≡ [])
      → (part : Part) (T : List Receipt) → WorkAt spec stands part T (W.Replica old) fans t → MayWork part T (Popped i p) → HasWorked spec stands part T (Popped i p) (W.Replica new) fans t t2 before after
  replica_takes old new fans before after t t2 i p replied idle (Replica region channel) T at may =
      let r = replied region T channel at.0 may.1 in
      subst (λ k. HasWorked spec stands (Replica region channel) T (Popped k p) (W.Replica new) fans t t2 before after) (sym may.0) (record {
        works = (r.0, idle at.1);
        owes = r.1;
        pours = idle at.1 ∙ sym at.1 ∙ sym (append-nil (sink_waits t));
      })
  replica_takes old new fans before after t t2 i p replied idle (FromSource source ops outs) T at may = absurd at
  replica_takes old new fans before after t t2 i p replied idle (FromLinks op ops outs) T at may = absurd at
  replica_takes old new fans before after t t2 i p replied idle (Splitter region) T at may = absurd at
  replica_takes old new fans before after t t2 i p replied idle (Merger region outs) T at may = absurd at

  pub splitter_works : (old new : Splitting) (fans : List Fan) (before after : Outbox) (t : Tuples) (i : ℕ) (p : Packet)
      → ((region : RegionPart) (T : List Receipt) → SplitterAt region T old → Enters region (items_in (popped 0 T)) p
      → SplitterAt region (T ++ Popped 0 p ∷ []) new × (waits after ≡ waits before ++ adds (Splitter region) T (Popped 0 p)))
      → (part : Part) (T : List Receipt) → WorkAt spec stands part T (W.Splitter old) fans t → MayWork part T (Popped i p) → HasWorked spec stands part T (Popped i p) (W.Splitter new) fans t t before after
  splitter_works old new fans before after t i p run (Splitter region) T at may =
      let r = run region T at.0 may.1 in
      subst (λ k. HasWorked spec stands (Splitter region) T (Popped k p) (W.Splitter new) fans t t before after) (sym may.0) (record {
        works = (r.0, at.1, at.2);
        owes = r.1;
        pours = sym (append-nil (sink_waits t));
      })
  splitter_works old new fans before after t i p run (FromSource source ops outs) T at may = absurd at
  splitter_works old new fans before after t i p run (FromLinks op ops outs) T at may = absurd at
  splitter_works old new fans before after t i p run (Replica region channel) T at may = absurd at
  splitter_works old new fans before after t i p run (Merger region outs) T at may = absurd at

  pub chain_works : (old new : Chain R) (fans : List Fan) (before after : Outbox) (t t2 : Tuples) (r : Receipt)
      → ((part : Part) (T : List Receipt) → ChainAt spec stands part T old fans t → MayWork part T r
      → ChainAt spec stands part (T ++ r ∷ []) new fans t2 × (waits after ≡ waits before ++ adds part T r) × (sink_waits t2 ≡ sink_waits t ++ pours_more part T r))
      → (part : Part) (T : List Receipt) → WorkAt spec stands part T (W.Chain old) fans t → MayWork part T r → HasWorked spec stands part T r (W.Chain new) fans t t2 before after
  chain_works old new fans before after t t2 r run (FromSource source ops outs) T at may =
      let took = run (FromSource source ops outs) T at may in record { works = took.0; owes = took.1; pours = took.2 }
  chain_works old new fans before after t t2 r run (FromLinks op ops outs) T at may =
      let took = run (FromLinks op ops outs) T at may in record { works = took.0; owes = took.1; pours = took.2 }
  chain_works old new fans before after t t2 r run (Splitter region) T at may = absurd at
  chain_works old new fans before after t t2 r run (Replica region channel) T at may = absurd at
  chain_works old new fans before after t t2 r run (Merger region outs) T at may = absurd at

  pub chain_reads : (old new : Chain R) (fans : List Fan) (before after : Outbox) (t t2 : Tuples) (x : Item) → HasTakenItem spec stands old new fans t t2 before after 0 x
      → (part : Part) (T : List Receipt) → WorkAt spec stands part T (W.Chain old) fans t → MayWork part T (WasRead x) → HasWorked spec stands part T (WasRead x) (W.Chain new) fans t t2 before after
  chain_reads old new fans before after t t2 x run (FromSource source ops outs) T at may =
      let took = run (FromSource source ops outs) T (WasRead x) (refl, refl) at may in record { works = took.0; owes = took.1; pours = took.2 }
  chain_reads old new fans before after t t2 x run (FromLinks op ops outs) T at may = absurd may
  chain_reads old new fans before after t t2 x run (Splitter region) T at may = absurd at
  chain_reads old new fans before after t t2 x run (Replica region channel) T at may = absurd at
  chain_reads old new fans before after t t2 x run (Merger region outs) T at may = absurd at

  -- ---- mergers

  pub turns_ready : (m : Turning) (fans : List Fan) (t : Tuples) (i : ℕ) (p : Packet) (part : Part) (T : List Receipt) → WorkAt spec stands part T (W.Turns m) fans t → MayWork part T (Popped i p) → (i < width_of m.held) × (wants m.held i ≡ true)
  turns_ready m fans t i p (Merger region outs) T at may = merger_ready (λ (m : Turning). m.held) TurnStands ByTurns width_law.0 wants_law.0 region outs T m fans i p at may
  turns_ready m fans t i p (FromSource source ops outs) T at may = absurd at
  turns_ready m fans t i p (FromLinks op ops outs) T at may = absurd at
  turns_ready m fans t i p (Splitter region) T at may = absurd at
  turns_ready m fans t i p (Replica region channel) T at may = absurd at

  pub numbers_ready : (m : Numbering) (fans : List Fan) (t : Tuples) (i : ℕ) (p : Packet) (part : Part) (T : List Receipt) → WorkAt spec stands part T (W.Numbers m) fans t → MayWork part T (Popped i p) → (i < width_of m.held) × (wants m.held i ≡ true)
  numbers_ready m fans t i p (Merger region outs) T at may = merger_ready (λ (m : Numbering). m.held) NumberStands ByNumbers width_law.1 wants_law.1 region outs T m fans i p at may
  numbers_ready m fans t i p (FromSource source ops outs) T at may = absurd at
  numbers_ready m fans t i p (FromLinks op ops outs) T at may = absurd at
  numbers_ready m fans t i p (Splitter region) T at may = absurd at
  numbers_ready m fans t i p (Replica region channel) T at may = absurd at

  pub pulses_ready : (m : Held) (fans : List Fan) (t : Tuples) (i : ℕ) (p : Packet) (part : Part) (T : List Receipt) → WorkAt spec stands part T (W.Pulses m) fans t → MayWork part T (Popped i p) → (i < width_of m) × (wants m i ≡ true)
  pulses_ready m fans t i p (Merger region outs) T at may = merger_ready (λ (m : Held). m) (MergerHolds ByPulses) ByPulses width_law.2 wants_law.2 region outs T m fans i p at may
  pulses_ready m fans t i p (FromSource source ops outs) T at may = absurd at
  pulses_ready m fans t i p (FromLinks op ops outs) T at may = absurd at
  pulses_ready m fans t i p (Splitter region) T at may = absurd at
  pulses_ready m fans t i p (Replica region channel) T at may = absurd at

  -- what a merger of this rule has run
  abbrev pub HasMerged : {M : Type 0} (held : M → Held) (stood : ℕ → M → (ℕ → List Packet) → List Item → Type 0) (rule : Rule) (old new : M) (fans : List Fan) (before after : Outbox) (i : ℕ) (p : Packet) → Type 0
  HasMerged held stood rule old new fans before after i p = (region : RegionPart) (counts : List ℕ) (T : List Receipt) → region.rule ≡ rule → MergerAt held stood rule region.width counts T old fans
      → InOrder region.rule region.width (λ c. popped c (T ++ Popped i p ∷ []))
      → MergerAt held stood rule region.width counts (T ++ Popped i p ∷ []) new fans × (waits after ≡ waits before ++ adds (Merger region (ports_of_fans counts)) T (Popped i p))

  pub turns_take : (old new : Turning) (fans : List Fan) (before after : Outbox) (t : Tuples) (i : ℕ) (p : Packet) → HasMerged (λ (m : Turning). m.held) TurnStands ByTurns old new fans before after i p
      → (part : Part) (T : List Receipt) → WorkAt spec stands part T (W.Turns old) fans t → MayWork part T (Popped i p) → HasWorked spec stands part T (Popped i p) (W.Turns new) fans t t before after
  turns_take old new fans before after t i p run (Merger region outs) T at may =
      let r = merger_more (λ (m : Turning). m.held) TurnStands ByTurns old new fans (waits before) (waits after) i p run region outs T at may in
      record { works = r.0; owes = r.1; pours = sym (append-nil (sink_waits t)) }
  turns_take old new fans before after t i p run (FromSource source ops outs) T at may = absurd at
  turns_take old new fans before after t i p run (FromLinks op ops outs) T at may = absurd at
  turns_take old new fans before after t i p run (Splitter region) T at may = absurd at
  turns_take old new fans before after t i p run (Replica region channel) T at may = absurd at

  pub numbers_take : (old new : Numbering) (fans : List Fan) (before after : Outbox) (t : Tuples) (i : ℕ) (p : Packet) → HasMerged (λ (m : Numbering). m.held) NumberStands ByNumbers old new fans before after i p
      → (part : Part) (T : List Receipt) → WorkAt spec stands part T (W.Numbers old) fans t → MayWork part T (Popped i p) → HasWorked spec stands part T (Popped i p) (W.Numbers new) fans t t before after
  numbers_take old new fans before after t i p run (Merger region outs) T at may =
      let r = merger_more (λ (m : Numbering). m.held) NumberStands ByNumbers old new fans (waits before) (waits after) i p run region outs T at may in
      record { works = r.0; owes = r.1; pours = sym (append-nil (sink_waits t)) }
  numbers_take old new fans before after t i p run (FromSource source ops outs) T at may = absurd at
  numbers_take old new fans before after t i p run (FromLinks op ops outs) T at may = absurd at
  numbers_take old new fans before after t i p run (Splitter region) T at may = absurd at
  numbers_take old new fans before after t i p run (Replica region channel) T at may = absurd at

  pub pulses_take : (old new : Held) (fans : List Fan) (before after : Outbox) (t : Tuples) (i : ℕ) (p : Packet) → HasMerged (λ (m : Held). m) (MergerHolds ByPulses) ByPulses old new fans before after i p
      → (part : Part) (T : List Receipt) → WorkAt spec stands part T (W.Pulses old) fans t → MayWork part T (Popped i p) → HasWorked spec stands part T (Popped i p) (W.Pulses new) fans t t before after
  pulses_take old new fans before after t i p run (Merger region outs) T at may =
      let r = merger_more (λ (m : Held). m) (MergerHolds ByPulses) ByPulses old new fans (waits before) (waits after) i p run region outs T at may in
      record { works = r.0; owes = r.1; pours = sym (append-nil (sink_waits t)) }
  pulses_take old new fans before after t i p run (FromSource source ops outs) T at may = absurd at
  pulses_take old new fans before after t i p run (FromLinks op ops outs) T at may = absurd at
  pulses_take old new fans before after t i p run (Splitter region) T at may = absurd at
  pulses_take old new fans before after t i p run (Replica region channel) T at may = absurd at

  -- ---- what the work wants

  merger_wants : {M : Type 0} (held : M → Held) (stood : ℕ → M → (ℕ → List Packet) → List Item → Type 0) (rule : Rule) → WidthAt held stood rule → WantsAt held stood rule
      → (region : RegionPart) (outs : List ℕ) (T : List Receipt) (m : M) (fans : List Fan) (i : ℕ) → MergesAt held stood rule region outs T m fans → i < region.width
      → (i < width_of (held m)) × (has_last (popped i T) ≡ false → wants (held m) i ≡ may_pop (Merger region outs) (taken_of (Merger region outs) T) i)
  merger_wants held stood rule width_is wants_is region outs T m fans i at within = (
    subst (λ w. i < w) (sym (width_is region.width at.counts T m fans at.merger)) within,
    λ unended. wants_is region outs at.counts T m fans i at.same_rule at.merger at.order within
        ∙ ap (λ b. not b && may_pop (Merger region outs) (taken_of (Merger region outs) T) i) unended,
  )

  pub works_want : (part : Part) (T : List Receipt) (work : Work R) (fans : List Fan) (t : Tuples) (i : ℕ) → WorkAt spec stands part T work fans t → i < inputs part
      → HasInput work i × (has_last (popped i T) ≡ false → wants_more work i ≡ may_pop part (taken_of part T) i)
  works_want (FromSource source ops outs) T (W.Chain chain) fans t i at within = (tt, λ u. refl)
  works_want (FromLinks op ops outs) T (W.Chain chain) fans t i at within = (tt, λ u. refl)
  works_want (Splitter region) T (W.Splitter s) fans t i at within = (tt, λ u. refl)
  works_want (Replica region channel) T (W.Replica chain) fans t i at within = (tt, λ u. refl)
  works_want (Merger region outs) T (W.Turns m) fans t i at within = merger_wants (λ (m : Turning). m.held) TurnStands ByTurns width_law.0 wants_law.0 region outs T m fans i at within
  works_want (Merger region outs) T (W.Numbers m) fans t i at within = merger_wants (λ (m : Numbering). m.held) NumberStands ByNumbers width_law.1 wants_law.1 region outs T m fans i at within
  works_want (Merger region outs) T (W.Pulses m) fans t i at within = merger_wants (λ (m : Held). m) (MergerHolds ByPulses) ByPulses width_law.2 wants_law.2 region outs T m fans i at within
  works_want (FromSource source ops outs) T (W.Replica chain) fans t i at within = absurd at
  works_want (FromSource source ops outs) T (W.Splitter s) fans t i at within = absurd at
  works_want (FromSource source ops outs) T (W.Turns m) fans t i at within = absurd at
  works_want (FromSource source ops outs) T (W.Numbers m) fans t i at within = absurd at
  works_want (FromSource source ops outs) T (W.Pulses m) fans t i at within = absurd at
  works_want (FromLinks op ops outs) T (W.Replica chain) fans t i at within = absurd at
  works_want (FromLinks op ops outs) T (W.Splitter s) fans t i at within = absurd at
  works_want (FromLinks op ops outs) T (W.Turns m) fans t i at within = absurd at
  works_want (FromLinks op ops outs) T (W.Numbers m) fans t i at within = absurd at
  works_want (FromLinks op ops outs) T (W.Pulses m) fans t i at within = absurd at
  works_want (Splitter region) T (W.Chain chain) fans t i at within = absurd at
  works_want (Splitter region) T (W.Replica chain) fans t i at within = absurd at
  works_want (Splitter region) T (W.Turns m) fans t i at within = absurd at
  works_want (Splitter region) T (W.Numbers m) fans t i at within = absurd at
  works_want (Splitter region) T (W.Pulses m) fans t i at within = absurd at
  works_want (Replica region channel) T (W.Chain chain) fans t i at within = absurd at
  works_want (Replica region channel) T (W.Splitter s) fans t i at within = absurd at
  works_want (Replica region channel) T (W.Turns m) fans t i at within = absurd at
  works_want (Replica region channel) T (W.Numbers m) fans t i at within = absurd at
  works_want (Replica region channel) T (W.Pulses m) fans t i at within = absurd at
  works_want (Merger region outs) T (W.Chain chain) fans t i at within = absurd at
  works_want (Merger region outs) T (W.Replica chain) fans t i at within = absurd at
  works_want (Merger region outs) T (W.Splitter s) fans t i at within = absurd at

  -- ---- tuples that are poured

  pub works_still : (part : Part) (T : List Receipt) (work : Work R) (fans : List Fan) (t t2 : Tuples) → room_of t2 ≡ room_of t → (sink_waits t ≡ [] → sink_waits t2 ≡ []) → WorkAt spec stands part T work fans t → WorkAt spec stands part T work fans t2
  works_still (FromSource source ops outs) T (W.Chain chain) fans t t2 room idle at =
      record { operators = at.operators; counts = at.counts; has_fans = at.has_fans; fans_are = at.fans_are; few = at.few; room = room ∙ at.room }
  works_still (FromLinks op ops outs) T (W.Chain chain) fans t t2 room idle at =
      record { operators = at.operators; counts = at.counts; has_fans = at.has_fans; fans_are = at.fans_are; few = at.few; room = room ∙ at.room }
  works_still (Splitter region) T (W.Splitter s) fans t t2 room idle at = at
  works_still (Replica region channel) T (W.Replica chain) fans t t2 room idle at = (record { operators = at.0.operators; room = room ∙ at.0.room }, idle at.1)
  works_still (Merger region outs) T (W.Turns m) fans t t2 room idle at = at
  works_still (Merger region outs) T (W.Numbers m) fans t t2 room idle at = at
  works_still (Merger region outs) T (W.Pulses m) fans t t2 room idle at = at
  works_still (FromSource source ops outs) T (W.Replica chain) fans t t2 room idle at = absurd at
  works_still (FromSource source ops outs) T (W.Splitter s) fans t t2 room idle at = absurd at
  works_still (FromSource source ops outs) T (W.Turns m) fans t t2 room idle at = absurd at
  works_still (FromSource source ops outs) T (W.Numbers m) fans t t2 room idle at = absurd at
  works_still (FromSource source ops outs) T (W.Pulses m) fans t t2 room idle at = absurd at
  works_still (FromLinks op ops outs) T (W.Replica chain) fans t t2 room idle at = absurd at
  works_still (FromLinks op ops outs) T (W.Splitter s) fans t t2 room idle at = absurd at
  works_still (FromLinks op ops outs) T (W.Turns m) fans t t2 room idle at = absurd at
  works_still (FromLinks op ops outs) T (W.Numbers m) fans t t2 room idle at = absurd at
  works_still (FromLinks op ops outs) T (W.Pulses m) fans t t2 room idle at = absurd at
  works_still (Splitter region) T (W.Chain chain) fans t t2 room idle at = absurd at
  works_still (Splitter region) T (W.Replica chain) fans t t2 room idle at = absurd at
  works_still (Splitter region) T (W.Turns m) fans t t2 room idle at = absurd at
  works_still (Splitter region) T (W.Numbers m) fans t t2 room idle at = absurd at
  works_still (Splitter region) T (W.Pulses m) fans t t2 room idle at = absurd at
  works_still (Replica region channel) T (W.Chain chain) fans t t2 room idle at = absurd at
  works_still (Replica region channel) T (W.Splitter s) fans t t2 room idle at = absurd at
  works_still (Replica region channel) T (W.Turns m) fans t t2 room idle at = absurd at
  works_still (Replica region channel) T (W.Numbers m) fans t t2 room idle at = absurd at
  works_still (Replica region channel) T (W.Pulses m) fans t t2 room idle at = absurd at
  works_still (Merger region outs) T (W.Chain chain) fans t t2 room idle at = absurd at
  works_still (Merger region outs) T (W.Replica chain) fans t t2 room idle at = absurd at
  works_still (Merger region outs) T (W.Splitter s) fans t t2 room idle at = absurd at

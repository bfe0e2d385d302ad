-- A chain and one item more.
use Rattle.std.proofs.Common.{ℕ, Bool, true, false, cond, List, [], ◌∷◌, ◌++◌, ◌≡◌, ◌⊎◌, inl, inr, ◌+◌, suc, map, length, Option, None, Some, refl, sym, ap, ◌∙◌, subst, append-nil}
use Rattle.spl_value.specs.declared.item.Item.{Item}
use Rattle.spl_value.specs.declared.item.Item.TheVariants as I
use Rattle.spl_value.specs.declared.packet.Packet.TheVariants as P
use Rattle.spl_value.specs.declared.value.Value.{Value}
use Rattle.spl_value.specs.Numbered.{closes}
use Rattle.language_model.specs.declared.outs.Output.{Output}
use Rattle.stream_model.specs.Bodies.{output}
use Rattle.stream_model.specs.Chains.{chain_after, chain_gives, onward, passed, stages_passed}
use Rattle.stream_model.specs.Fans.{fans_out, ports_of_fans}
use Rattle.stream_model.specs.Operators.{Operator}
use Rattle.stream_model.specs.Stages.{Stage, start, gives_all}
use Rattle.stream_model.specs.Stream.{Event, came, is_empty}
use Rattle.stream_model.proofs.ChainParts.{chain_after-append, stages_passed-append}
use Rattle.std.proofs.lemmas.List.{map-append}
use Rattle.network_model.specs.Adds.{adds, gives_more}
use Rattle.network_model.specs.Networks.{Part, FromSource, FromLinks, Splitter, Replica, Merger, last_of}
use Rattle.network_model.specs.Owed.{send_all}
use Rattle.network_model.specs.Receipts.{Receipt, Popped, WasRead, item_events, read_in}
use Rattle.network_model.specs.PartLaws.{Merges}
use Rattle.network_model.specs.Sinks.{for_sink, is_sink, pours_more}
use Rattle.network_model.proofs.Adds.{given-more}
use Rattle.network_model.proofs.Fans.{fans_law}
use Rattle.network_model.proofs.Receipts.{item_events-append, read_in-append}
use Rattle.operator_chains.specs.declared.chain.Chain.{Chain}
use Rattle.operator_chains.specs.declared.slot.Slot.{Slot}
use Rattle.operator_chains.specs.Standing.{AtChain, AtFirst, AtStages, MayFeed, places_by, places_of}
use Rattle.element_outboxes.specs.Waiting.{all_out, fans_from, waits}
use Rattle.element_outboxes.specs.declared.fan.Fan.{Fan}
use Rattle.element_outboxes.specs.declared.outbox.Outbox.{Outbox}
use Rattle.element_works.specs.Tuples.{for_writer, sink_waits, standing_at}
use Rattle.element_works.specs.Works.{ChainAt, HasFans, HasTakenItem, IsEvent, IsSilent, stages_at}
use Rattle.element_works.specs.declared.tuples.Tuples.{Tuples}

-- ---- what is given

alone-gives : (ss : List Stage) (x : Item) → chain_gives ss (came 0 x ∷ []) ≡ passed ss (output 0 x ∷ [])
alone-gives [] x = refl
alone-gives (s ∷ ss) x = refl

alone-after : (ss : List Stage) (x : Item) → chain_after ss (came 0 x ∷ []) ≡ stages_passed ss (output 0 x ∷ [])
alone-after [] x = refl
alone-after (s ∷ ss) x = refl

pub gives-one : (part : Part) (T : List Receipt) (r : Receipt) (i : ℕ) (x : Item) → IsEvent part r i x → chain_gives (stages_at part T) (came i x ∷ []) ≡ gives_more part T r
gives-one (FromSource source ops outs) T (WasRead y) i x e =
    ap (λ k. chain_gives (stages_at (FromSource source ops outs) T) (came k x ∷ [])) e.0
    ∙ ap (λ z. chain_gives (stages_at (FromSource source ops outs) T) (came 0 z ∷ [])) (sym e.1)
    ∙ alone-gives (stages_at (FromSource source ops outs) T) y
gives-one (FromSource source ops outs) T (Popped j p) i x e = absurd e
gives-one (FromLinks op ops outs) T (Popped j (P.Item n y)) i x e =
    ap (λ k. chain_gives (stages_at (FromLinks op ops outs) T) (came k x ∷ [])) (sym e.0)
    ∙ ap (λ z. chain_gives (stages_at (FromLinks op ops outs) T) (came j z ∷ [])) (sym e.1)
gives-one (FromLinks op ops outs) T (Popped j (P.Pulse n)) i x e = absurd e
gives-one (FromLinks op ops outs) T (Popped j P.Close) i x e = absurd e
gives-one (FromLinks op ops outs) T (Popped j P.Cut) i x e = absurd e
gives-one (FromLinks op ops outs) T (WasRead y) i x e = absurd e
gives-one (Splitter region) T r i x e = absurd e
gives-one (Replica region channel) T r i x e = absurd e
gives-one (Merger region outs) T r i x e = absurd e

after-one : (part : Part) (T : List Receipt) (r : Receipt) (i : ℕ) (x : Item) → IsEvent part r i x → chain_after (stages_at part T) (came i x ∷ []) ≡ stages_at part (T ++ r ∷ [])
after-one (FromSource source ops outs) T (WasRead y) i x e =
    ap (λ k. chain_after (stages_at (FromSource source ops outs) T) (came k x ∷ [])) e.0
    ∙ ap (λ z. chain_after (stages_at (FromSource source ops outs) T) (came 0 z ∷ [])) (sym e.1)
    ∙ alone-after (stages_at (FromSource source ops outs) T) y
    ∙ sym (stages_passed-append (map start ops) (map (output 0) (read_in T)) (output 0 y ∷ []))
    ∙ ap (stages_passed (map start ops)) (sym (ap (map (output 0)) (read_in-append T (WasRead y ∷ [])) ∙ map-append (output 0) (read_in T) (y ∷ [])))
after-one (FromSource source ops outs) T (Popped j p) i x e = absurd e
after-one (FromLinks op ops outs) T (Popped j (P.Item n y)) i x e =
    ap (λ k. chain_after (stages_at (FromLinks op ops outs) T) (came k x ∷ [])) (sym e.0)
    ∙ ap (λ z. chain_after (stages_at (FromLinks op ops outs) T) (came j z ∷ [])) (sym e.1)
    ∙ sym (chain_after-append (map start (op ∷ ops)) (item_events T) (came j y ∷ []))
    ∙ ap (chain_after (map start (op ∷ ops))) (sym (item_events-append T (Popped j (P.Item n y) ∷ [])))
after-one (FromLinks op ops outs) T (Popped j (P.Pulse n)) i x e = absurd e
after-one (FromLinks op ops outs) T (Popped j P.Close) i x e = absurd e
after-one (FromLinks op ops outs) T (Popped j P.Cut) i x e = absurd e
after-one (FromLinks op ops outs) T (WasRead y) i x e = absurd e
after-one (Splitter region) T r i x e = absurd e
after-one (Replica region channel) T r i x e = absurd e
after-one (Merger region outs) T r i x e = absurd e

-- the places that stages need
abbrev places_for : List Stage → ℕ
places_for [] = 1
places_for (s ∷ ss) = length ss + 2

passed-length : (ss : List Stage) (outs : List Output) → length (stages_passed ss outs) ≡ length ss
passed-length [] outs = refl
passed-length (s ∷ ss) outs = ap suc (passed-length ss (gives_all s (onward outs)))

places-after : (ss : List Stage) (events : List Event) → places_for (chain_after ss events) ≡ places_for ss
places-after [] events = refl
places-after (s ∷ ss) events = ap (λ n. n + 2) (passed-length ss (gives_all s events))

-- ---- where it goes

pub sent-by-fans : (counts : List ℕ) (outs : List Output) → send_all (ports_of_fans counts) outs ≡ all_out counts outs
sent-by-fans counts [] = refl
sent-by-fans counts (o ∷ outs) =
    ap (λ z. z ++ send_all (ports_of_fans counts) outs) (fans_law counts o) ∙ ap (λ z. fans_out counts o ++ z) (sent-by-fans counts outs)

adds-is : (part : Part) (counts : List ℕ) (T : List Receipt) (r : Receipt) → HasFans part counts → adds part T r ≡ all_out counts (gives_more part T r)
adds-is (FromSource source ops outs) counts T r h = ap (λ os. send_all os (gives_more (FromSource source ops outs) T r)) h.0 ∙ sent-by-fans counts (gives_more (FromSource source ops outs) T r)
adds-is (FromLinks op ops outs) counts T r h = ap (λ os. send_all os (gives_more (FromLinks op ops outs) T r)) h.0 ∙ sent-by-fans counts (gives_more (FromLinks op ops outs) T r)
adds-is (Splitter region) counts T r h = absurd h
adds-is (Replica region channel) counts T r h = absurd h
adds-is (Merger region outs) counts T r h = absurd h

-- a sink is given all that a chain without fans gives, and one that is silent gives nothing
writes : (part : Part) (last : Operator) (counts : List ℕ) (T : List Receipt) (r : Receipt) → Merges part (T ++ r ∷ []) → (is_sink last.clauses ≡ is_empty counts) ⊎ IsSilent part
    → for_sink last (gives_more part T r) ≡ cond (is_empty counts) (for_writer (gives_more part T r)) []
writes part last counts T r m (inl e) = ap (λ b. cond b (for_writer (gives_more part T r)) []) e
writes part last counts T r m (inr silent) =
    ap (for_sink last) none ∙ same (is_sink last.clauses) ∙ sym (ap (λ outs. cond (is_empty counts) (for_writer outs) []) none ∙ same (is_empty counts))
  where
    none : gives_more part T r ≡ []
    none = ap (λ outs. outs ++ gives_more part T r) (sym (silent T)) ∙ sym (given-more part T r m) ∙ silent (T ++ r ∷ [])

    same : (b : Bool) → cond {A = List (List Value)} b [] [] ≡ []
    same true = refl
    same false = refl

pours-is : (part : Part) (counts : List ℕ) (T : List Receipt) (r : Receipt) → HasFans part counts → pours_more part T r ≡ cond (is_empty counts) (for_writer (gives_more part T r)) []
pours-is (FromSource source ops outs) counts T r h = writes (FromSource source ops outs) (last_of source ops) counts T r tt h.1
pours-is (FromLinks op ops outs) counts T r h = writes (FromLinks op ops outs) (last_of op ops) counts T r tt h.1
pours-is (Splitter region) counts T r h = absurd h
pours-is (Replica region channel) counts T r h = absurd h
pours-is (Merger region outs) counts T r h = absurd h

out-nowhere : (outs : List Output) → all_out [] outs ≡ []
out-nowhere [] = refl
out-nowhere (o ∷ outs) = go (closes o.item) (out-nowhere outs)
  where
    go : (b : Bool) → all_out [] outs ≡ [] → cond b [] [] ++ all_out [] outs ≡ []
    go true e = e
    go false e = e

no-fans : (counts : List ℕ) (fans : List Fan) → fans ≡ fans_from 0 counts → fans ≡ [] → counts ≡ []
no-fans [] fans e f = refl
no-fans (n ∷ counts) fans e f = let clash : fans_from 0 (n ∷ counts) ≡ [] = sym e ∙ f in cc

some-fans : (counts : List ℕ) (fans : List Fan) → fans ≡ fans_from 0 counts → (fans ≡ [] → ⊥) → is_empty counts ≡ false
some-fans [] fans e f = absurd (f e)
some-fans (n ∷ counts) fans e f = refl

-- ---- the sink

-- only tuples that entered or were moved
pub still : (before freed tuples : Tuples) → before.ready ≡ freed.ready → before.waiting.items ≡ freed.waiting.items → freed.ready ≡ None → sink_waits freed ≡ sink_waits tuples
    → sink_waits before ≡ sink_waits tuples
still b f t r w n s =
    ap (λ x. standing_at b.places.items x ++ b.waiting.items) (r ∙ n) ∙ w
    ∙ sym (ap (λ x. standing_at f.places.items x ++ f.waiting.items) n) ∙ s

pub still-none : (before tuples : Tuples) → before.ready ≡ tuples.ready → before.waiting.items ≡ tuples.waiting.items → sink_waits tuples ≡ [] → sink_waits before ≡ []
still-none b t r w none = go t.ready r none
  where
    go : (x : Option ℕ) → b.ready ≡ x → standing_at t.places.items x ++ t.waiting.items ≡ [] → standing_at b.places.items b.ready ++ b.waiting.items ≡ []
    go None e n = ap (λ x. standing_at b.places.items x ++ b.waiting.items) e ∙ w ∙ n
    go (Some at) e n = cc

-- ---- one item more

module _ {R : Type 0} (spec : R → Operator) (stands : R → List Event → Type 0) where
  -- its places are those of its stages
  places-by : (first : Option (Slot R)) (others : List (Slot R)) (ss : List Stage) → AtFirst spec stands first others ss → places_by first others ≡ places_for ss
  places-by None others [] at = refl
  places-by None others (s ∷ ss) at = absurd (let no : s ∷ ss ≡ [] = at.1 in cc)
  places-by (Some slot) others [] at = absurd at
  places-by (Some slot) others (s ∷ ss) at = ap (λ n. n + 2) (same-length others ss at.1)
    where
      same-length : (slots : List (Slot R)) (ss : List Stage) → AtStages spec stands slots ss → length slots ≡ length ss
      same-length [] [] at = refl
      same-length [] (s ∷ ss) at = absurd at
      same-length (slot ∷ slots) [] at = absurd at
      same-length (slot ∷ slots) (s ∷ ss) at = ap suc (same-length slots ss at.1)

  pub same-places : (chain chain2 : Chain R) (ss : List Stage) (events : List Event) → AtChain spec stands chain ss → AtChain spec stands chain2 (chain_after ss events) → places_of chain2 ≡ places_of chain
  same-places chain chain2 ss events at at2 =
      places-by chain2.first chain2.others.items (chain_after ss events) at2 ∙ places-after ss events ∙ sym (places-by chain.first chain.others.items ss at)

  one-more : (part : Part) (T : List Receipt) (r : Receipt) (i : ℕ) (x : Item) (chain chain2 : Chain R) (fans : List Fan) (tuples tuples2 : Tuples) → IsEvent part r i x
      → ChainAt spec stands part T chain fans tuples → AtChain spec stands chain2 (chain_after (stages_at part T) (came i x ∷ []))
      → length tuples2.places.items ≡ places_of chain2 → ChainAt spec stands part (T ++ r ∷ []) chain2 fans tuples2
  one-more part T r i x chain chain2 fans tuples tuples2 e at next room = record {
    operators = subst (λ (ss : List Stage). AtChain spec stands chain2 ss) (after-one part T r i x e) next;
    counts = at.counts;
    has_fans = at.has_fans;
    fans_are = at.fans_are;
    few = at.few;
    room = room;
  }

  -- what the chain gave, with what its operators stand for then
  abbrev pub HasFed : Chain R → Chain R → List Output → ℕ → Item → Type 0
  HasFed chain chain2 outs i x = (ss : List Stage) → AtChain spec stands chain ss → MayFeed ss (came i x)
      → (outs ≡ chain_gives ss (came i x ∷ [])) × AtChain spec stands chain2 (chain_after ss (came i x ∷ []))

  -- to the writer of a sink
  pub to-writer : (chain chain2 : Chain R) (fans : List Fan) (tuples tuples2 : Tuples) (outbox : Outbox) (i : ℕ) (x : Item) (outs : List Output)
      → HasFed chain chain2 outs i x → fans ≡ [] → length tuples2.places.items ≡ length tuples.places.items
      → sink_waits tuples2 ≡ sink_waits tuples ++ for_writer outs
      → HasTakenItem spec stands chain chain2 fans tuples tuples2 outbox outbox i x
  to-writer chain chain2 fans tuples tuples2 outbox i x outs fed none room t = λ part T r e at may.
      let f = fed (stages_at part T) at.operators may in
      let no : at.counts ≡ [] = no-fans at.counts fans at.fans_are none in
      let all : outs ≡ gives_more part T r = f.0 ∙ gives-one part T r i x e in
      let own : adds part T r ≡ [] = adds-is part at.counts T r at.has_fans ∙ ap (λ ks. all_out ks (gives_more part T r)) no ∙ out-nowhere (gives_more part T r) in (
        one-more part T r i x chain chain2 fans tuples tuples2 e at f.1 (room ∙ at.room ∙ sym (same-places chain chain2 (stages_at part T) (came i x ∷ []) at.operators f.1)),
        sym (append-nil (waits outbox)) ∙ ap (λ z. waits outbox ++ z) (sym own),
        t ∙ ap (λ z. sink_waits tuples ++ for_writer z) all
            ∙ ap (λ z. sink_waits tuples ++ z) (sym (pours-is part at.counts T r at.has_fans ∙ ap (λ ks. cond (is_empty ks) (for_writer (gives_more part T r)) []) no)),
      )

  -- to the connections of the last operator
  pub to-connections : (chain chain2 : Chain R) (fans : List Fan) (tuples tuples2 : Tuples) (outbox outbox2 : Outbox) (i : ℕ) (x : Item) (outs : List Output)
      → HasFed chain chain2 outs i x → (fans ≡ [] → ⊥) → length tuples2.places.items ≡ length tuples.places.items
      → sink_waits tuples2 ≡ sink_waits tuples
      → ((counts : List ℕ) → fans ≡ fans_from 0 counts → waits outbox2 ≡ waits outbox ++ all_out counts outs)
      → HasTakenItem spec stands chain chain2 fans tuples tuples2 outbox outbox2 i x
  to-connections chain chain2 fans tuples tuples2 outbox outbox2 i x outs fed some room t w = λ part T r e at may.
      let f = fed (stages_at part T) at.operators may in
      let yes : is_empty at.counts ≡ false = some-fans at.counts fans at.fans_are some in
      let all : outs ≡ gives_more part T r = f.0 ∙ gives-one part T r i x e in
      let none : pours_more part T r ≡ [] = pours-is part at.counts T r at.has_fans ∙ ap (λ b. cond b (for_writer (gives_more part T r)) []) yes in (
        one-more part T r i x chain chain2 fans tuples tuples2 e at f.1 (room ∙ at.room ∙ sym (same-places chain chain2 (stages_at part T) (came i x ∷ []) at.operators f.1)),
        w at.counts at.fans_are ∙ ap (λ z. waits outbox ++ all_out at.counts z) all ∙ ap (λ z. waits outbox ++ z) (sym (adds-is part at.counts T r at.has_fans)),
        t ∙ sym (append-nil (sink_waits tuples)) ∙ ap (λ z. sink_waits tuples ++ z) (sym none),
      )

  -- a tuple that entered at the first place
  pub fed-tuple : (chain chain2 : Chain R) (outs : List Output) (i : ℕ) (first tuple : List Value) → first ≡ tuple → HasFed chain chain2 outs i (I.Tuple first) → HasFed chain chain2 outs i (I.Tuple tuple)
  fed-tuple chain chain2 outs i first tuple e fed = subst (λ vs. HasFed chain chain2 outs i (I.Tuple vs)) e fed

-- A replica and one packet more.
use Rattle.std.proofs.Common.{ℕ, List, [], ◌∷◌, ◌++◌, ◌≡◌, map, refl, sym, ap, ◌∙◌, subst, append-nil}
use Rattle.spl_value.specs.declared.item.Item.{Item}
use Rattle.spl_value.specs.declared.packet.Packet.{Packet}
use Rattle.spl_value.specs.declared.packet.Packet.TheVariants as P
use Rattle.language_model.specs.declared.outs.Output.{Output}
use Rattle.stream_model.specs.Chains.{chain_after, chain_gives, onward, passed, stages_passed}
use Rattle.stream_model.specs.Operators.{Operator}
use Rattle.stream_model.specs.Sending.{outgoing, replies, stages_after, stages_give}
use Rattle.stream_model.specs.Stages.{Stage, gives_all, on_port, stage_after, start}
use Rattle.stream_model.specs.Stream.{Event, came}
use Rattle.stream_model.specs.declared.outgoing.Outgoing.{Outgoing}
use Rattle.stream_model.proofs.ChainStages.{stages_after-append, stages_after-none}
use Rattle.network_model.specs.Adds.{adds}
use Rattle.network_model.specs.Networks.{RegionPart, Replica}
use Rattle.network_model.specs.Packets.{items_in}
use Rattle.network_model.specs.Receipts.{Receipt, Popped, popped}
use Rattle.network_model.proofs.Packets.{items_in-append}
use Rattle.network_model.proofs.Receipts.{popped-append}
use Rattle.operator_chains.specs.declared.chain.Chain.{Chain}
use Rattle.operator_chains.specs.Standing.{AtChain}
use Rattle.element_outboxes.specs.Waiting.{waits}
use Rattle.element_outboxes.specs.declared.outbox.Outbox.{Outbox}
use Rattle.element_works.specs.Works.{Comes, HasAnswered, ReplicaAt}
use Rattle.element_works.specs.declared.tuples.Tuples.{Tuples}

-- ---- stages

first-passed : (ss : List Stage) (outs : List Output) → on_port 0 (passed ss outs) ≡ stages_give ss (on_port 0 outs)
first-passed [] outs = refl
first-passed (s ∷ ss) outs = first-passed ss (gives_all s (onward outs))

stages-passed : (ss : List Stage) (outs : List Output) → stages_passed ss outs ≡ stages_after ss (on_port 0 outs)
stages-passed [] outs = refl
stages-passed (s ∷ ss) outs = ap (λ ts. stage_after s (onward outs) ∷ ts) (stages-passed ss (gives_all s (onward outs)))

gives-item : (ss : List Stage) (x : Item) → on_port 0 (chain_gives ss (came 0 x ∷ [])) ≡ stages_give ss (x ∷ [])
gives-item [] x = refl
gives-item (s ∷ ss) x = first-passed ss (gives_all s (came 0 x ∷ []))

after-item : (ss : List Stage) (x : Item) → chain_after ss (came 0 x ∷ []) ≡ stages_after ss (x ∷ [])
after-item [] x = refl
after-item (s ∷ ss) x = ap (λ ts. stage_after s (came 0 x ∷ []) ∷ ts) (stages-passed ss (gives_all s (came 0 x ∷ [])))

-- ---- packets

stages-more : (region : RegionPart) (T : List Receipt) (p : Packet) → stages_after (map start region.ops) (items_in (popped 0 (T ++ Popped 0 p ∷ []))) ≡ stages_after (stages_after (map start region.ops) (items_in (popped 0 T))) (items_in (p ∷ []))
stages-more region T p =
    ap (stages_after (map start region.ops)) (ap items_in (popped-append 0 T (Popped 0 p ∷ [])) ∙ items_in-append (popped 0 T) (p ∷ []))
    ∙ stages_after-append (map start region.ops) (items_in (popped 0 T)) (items_in (p ∷ []))

module _ {R : Type 0} (spec : R → Operator) (stands : R → List Event → Type 0) where
  abbrev pub Replied : RegionPart → ℕ → List Receipt → Chain R → Tuples → List Outgoing → List Outgoing → Packet → Type 0
  Replied region channel T chain tuples V W p = ReplicaAt spec stands region (T ++ Popped 0 p ∷ []) chain tuples × (W ≡ V ++ adds (Replica region channel) T (Popped 0 p))

  pub replied-item : (region : RegionPart) (channel : ℕ) (T : List Receipt) (packet : Packet) (n : ℕ) (x : Item) (chain chain2 : Chain R) (tuples tuples2 : Tuples) (outbox outbox2 : Outbox)
      → packet ≡ P.Item n x → ReplicaAt spec stands region T chain tuples → Comes (stages_after (map start region.ops) (items_in (popped 0 T))) packet
      → HasAnswered spec stands chain chain2 tuples tuples2 outbox outbox2 n x → Replied region channel T chain2 tuples2 (waits outbox) (waits outbox2) packet
  replied-item region channel T packet n x chain chain2 tuples tuples2 outbox outbox2 is at may answered =
      let ss : List Stage = stages_after (map start region.ops) (items_in (popped 0 T)) in
      let r = answered ss at.operators (subst (Comes ss) is may) at.room in
      subst (Replied region channel T chain2 tuples2 (waits outbox) (waits outbox2)) (sym is) (
        record {
          operators = subst (λ (ts : List Stage). AtChain spec stands chain2 ts) (after-item ss x ∙ sym (stages-more region T (P.Item n x))) r.0;
          room = r.1;
        },
        r.2 ∙ ap (λ xs. waits outbox ++ map (outgoing 0) (map (P.Item n) xs)) (gives-item ss x)
            ∙ ap (λ xs. waits outbox ++ map (outgoing 0) xs) (sym (append-nil (map (P.Item n) (stages_give ss (x ∷ []))))),
      )

  -- another packet is passed on, or dropped
  pub replied-other : (region : RegionPart) (channel : ℕ) (T : List Receipt) (packet p : Packet) (chain : Chain R) (tuples : Tuples) (V W : List Outgoing)
      → packet ≡ p → items_in (p ∷ []) ≡ [] → ReplicaAt spec stands region T chain tuples
      → W ≡ V ++ map (outgoing 0) (replies (stages_after (map start region.ops) (items_in (popped 0 T))) (p ∷ []))
      → Replied region channel T chain tuples V W packet
  replied-other region channel T packet p chain tuples V W is none at w =
      subst (Replied region channel T chain tuples V W) (sym is) (
        record {
          operators = subst (λ (ts : List Stage). AtChain spec stands chain ts)
              (sym (stages-more region T p ∙ ap (stages_after (stages_after (map start region.ops) (items_in (popped 0 T)))) none ∙ stages_after-none (stages_after (map start region.ops) (items_in (popped 0 T)))))
              at.operators;
          room = at.room;
        },
        w,
      )

-- A splitter and one item more.
use Rattle.std.proofs.Common.{ℕ, zero, suc, ◌≤◌, ◌+◌, ◌%◌, ◌==◌, ◌&&◌, Bool, false, cond, List, [], ◌∷◌, ◌++◌, ◌≡◌, length, refl, sym, ap, ◌∙◌, append_assoc, arith}
use Rattle.std.proofs.lemmas.List.{length-append, map-append}
use Rattle.spl_value.specs.declared.item.Item.{Item}
use Rattle.spl_value.specs.declared.packet.Packet.{Packet}
use Rattle.spl_value.specs.declared.packet.Packet.TheVariants as P
use Rattle.spl_value.specs.Numbered.{closes}
use Rattle.spl_value.specs.Route.{route}
use Rattle.hash_splitter.specs.Splitting.{Splitting}
use Rattle.language_model.specs.Numbering.{numbers_from}
use Rattle.stream_model.specs.Fans.{on_outputs}
use Rattle.stream_model.specs.Regions.{has_pulses}
use Rattle.stream_model.specs.Sending.{outgoing, to_each}
use Rattle.stream_model.specs.Stream.{any_closes}
use Rattle.stream_model.specs.declared.outgoing.Outgoing.{Outgoing}
use Rattle.network_model.specs.Adds.{adds}
use Rattle.network_model.specs.Networks.{RegionPart, Splitter}
use Rattle.network_model.specs.Owed.{region_splits}
use Rattle.network_model.specs.Packets.{items_in}
use Rattle.network_model.specs.Receipts.{Receipt, Popped, popped}
use Rattle.network_model.proofs.Packets.{items_in-append}
use Rattle.network_model.proofs.Receipts.{popped-append}
use Rattle.element_outboxes.proofs.Fans.{numbers-more}
use Rattle.element_works.specs.Works.{SplitterAt, close_behind, pulse_behind}

each-by : (w : ℕ) (p : Packet) → on_outputs (numbers_from 0 w) p ≡ to_each w p
each-by zero p = refl
each-by (suc w) p =
    ap (λ k. on_outputs (numbers_from 0 k) p) (let e : suc w ≡ w + 1 = omega arith in e)
    ∙ ap (λ ks. on_outputs ks p) (numbers-more 0 w)
    ∙ map-append (λ o. outgoing o p) (numbers_from 0 w) ((0 + w) ∷ [])
    ∙ ap (λ z. z ++ outgoing (0 + w) p ∷ []) (each-by w p)
    ∙ ap (λ o. to_each w p ++ outgoing o p ∷ []) (let e : 0 + w ≡ w = omega arith in e)

-- what follows an item
pulses-as : (s : Splitting) (width n w : ℕ) (b : Bool) → s.pulses ≡ b → s.sent ≡ suc n → width ≡ w
    → pulse_behind s (record { first = 0; count = width }) ≡ cond (b && (suc n % 16 == 0)) (to_each w (P.Pulse (suc n))) []
pulses-as s width n w b p k e =
    ap (λ c. cond (c && (s.sent % 16 == 0)) (on_outputs (numbers_from 0 width) (P.Pulse s.sent)) []) p
    ∙ ap (λ m. cond (b && (m % 16 == 0)) (on_outputs (numbers_from 0 width) (P.Pulse m)) []) k
    ∙ ap (λ z. cond (b && (suc n % 16 == 0)) z []) (each-by width (P.Pulse (suc n)) ∙ ap (λ m. to_each m (P.Pulse (suc n))) e)

close-as : (last : Bool) (width w : ℕ) → width ≡ w → close_behind last (record { first = 0; count = width }) ≡ cond last (to_each w P.Close) []
close-as last width w e = ap (λ z. cond last z []) (each-by width P.Close ∙ ap (λ m. to_each m P.Close) e)

item-more : (T : List Receipt) (number : ℕ) (x : Item) → items_in (popped 0 (T ++ Popped 0 (P.Item number x) ∷ [])) ≡ items_in (popped 0 T) ++ x ∷ []
item-more T number x = ap items_in (popped-append 0 T (Popped 0 (P.Item number x) ∷ [])) ∙ items_in-append (popped 0 T) (P.Item number x ∷ [])

pub split-more : (region : RegionPart) (T : List Receipt) (number width channel : ℕ) (packet : Packet) (x : Item) (s s1 s2 : Splitting) (before with_item with_pulse with_close : List Outgoing)
    → SplitterAt region T s → any_closes (items_in (popped 0 T)) ≡ false → s.width ≡ width
    → channel ≡ route s.routing s.width s.sent x → packet ≡ P.Item s.sent x → s1 ≡ record s { sent = s.sent + 1 } → s2 ≡ record s1 { pulsed = s2.pulsed } → s2.pulsed ≤ s2.sent
    → with_item ≡ before ++ outgoing channel packet ∷ [] → with_pulse ≡ with_item ++ pulse_behind s1 (record { first = 0; count = width }) → with_close ≡ with_pulse ++ close_behind (closes x) (record { first = 0; count = width })
    → SplitterAt region (T ++ Popped 0 (P.Item number x) ∷ []) s2 × (with_close ≡ before ++ adds (Splitter region) T (Popped 0 (P.Item number x)))
split-more region T number width channel packet x s s1 s2 before with_item with_pulse with_close at unclosed w ch pk e1 e2 earlier a1 a2 a3 =
    let n : ℕ = length (items_in (popped 0 T)) in
    let sent1 : s1.sent ≡ suc n = ap (λ (t : Splitting). t.sent) e1 ∙ ap (λ k. k + 1) at.count ∙ (let e : n + 1 ≡ suc n = omega arith in e) in
    let same : s2.sent ≡ s1.sent = ap (λ (t : Splitting). t.sent) e2 in
    let all : width ≡ region.width = sym w ∙ at.same_width in
    let own : outgoing channel packet ≡ outgoing (route region.routing region.width n x) (P.Item n x) =
    ap (λ c. outgoing c packet) (ch ∙ ap (λ r. route r s.width s.sent x) at.same_routing ∙ ap (λ k. route region.routing k s.sent x) at.same_width ∙ ap (λ k. route region.routing region.width k x) at.count)
    ∙ ap (λ p. outgoing (route region.routing region.width n x) p) (pk ∙ ap (λ k. P.Item k x) at.count) in
    let behind = pulses-as s1 width n region.width (has_pulses region.rule) (ap (λ (t : Splitting). t.pulses) e1 ∙ at.same_pulses) sent1 all in
    let closing = close-as (closes x) width region.width all in (
      record {
        same_routing = ap (λ (t : Splitting). t.routing) e2 ∙ ap (λ (t : Splitting). t.routing) e1 ∙ at.same_routing;
        same_width = ap (λ (t : Splitting). t.width) e2 ∙ ap (λ (t : Splitting). t.width) e1 ∙ at.same_width;
        same_pulses = ap (λ (t : Splitting). t.pulses) e2 ∙ ap (λ (t : Splitting). t.pulses) e1 ∙ at.same_pulses;
        count = same ∙ sent1 ∙ sym (ap length (item-more T number x) ∙ length-append (items_in (popped 0 T)) (x ∷ []) ∙ (let e : n + 1 ≡ suc n = omega arith in e));
        earlier = earlier;
      },
      a3 ∙ ap (λ z. z ++ close_behind (closes x) (record { first = 0; count = width })) (a2 ∙ ap (λ z. z ++ pulse_behind s1 (record { first = 0; count = width })) a1)
          ∙ append_assoc (before ++ outgoing channel packet ∷ []) (pulse_behind s1 (record { first = 0; count = width })) (close_behind (closes x) (record { first = 0; count = width }))
          ∙ append_assoc before (outgoing channel packet ∷ []) (pulse_behind s1 (record { first = 0; count = width }) ++ close_behind (closes x) (record { first = 0; count = width }))
          ∙ ap (λ o. before ++ o ∷ (pulse_behind s1 (record { first = 0; count = width }) ++ close_behind (closes x) (record { first = 0; count = width }))) own
          ∙ ap (λ z. before ++ outgoing (route region.routing region.width n x) (P.Item n x) ∷ (z ++ close_behind (closes x) (record { first = 0; count = width }))) behind
          ∙ ap (λ z. before ++ outgoing (route region.routing region.width n x) (P.Item n x) ∷ (cond (has_pulses region.rule && (suc n % 16 == 0)) (to_each region.width (P.Pulse (suc n))) [] ++ z)) closing
          ∙ ap (λ z. before ++ z) (sym (ap (λ b. cond b [] (region_splits region n (x ∷ []))) unclosed)),
    )

-- What one receipt more adds.
use Rattle.std.proofs.Common.{ℕ, suc, ◌+◌, ◌==◌, ◌%◌, ◌&&◌, Bool, true, false, cond, List, [], ◌∷◌, ◌++◌, ◌≡◌, map, length, drop, refl, sym, ap, ◌∙◌, append_assoc, append-nil, arith}
use Rattle.std.proofs.lemmas.List.{map-append, drop_at}
use Rattle.std.proofs.lemmas.List.Concat.{flat_map-append}
use Rattle.spl_value.specs.declared.item.Item.{Item}
use Rattle.spl_value.specs.declared.item.Item.TheVariants as I
use Rattle.spl_value.specs.declared.packet.Packet.{Packet}
use Rattle.spl_value.specs.declared.packet.Packet.TheVariants as P
use Rattle.spl_value.specs.Numbered.{merged, closes}
use Rattle.spl_value.specs.Route.{route}
use Rattle.language_model.specs.declared.outs.Output.{Output}
use Rattle.stream_model.specs.Stream.{any_closes, IsPrefix}
use Rattle.stream_model.specs.Bodies.{output}
use Rattle.stream_model.specs.Operators.{Operator}
use Rattle.stream_model.specs.Stages.{Stage, start, gives_all, stage_after, on_port}
use Rattle.stream_model.specs.Regions.{has_pulses}
use Rattle.stream_model.specs.declared.outgoing.Outgoing.{Outgoing}
use Rattle.stream_model.specs.Sending.{outgoing, to_each, stages_give, stages_after, replies}
use Rattle.stream_model.proofs.ChainParts.{passed-append}
use Rattle.stream_model.proofs.ChainStages.{stages_after-none, stages_after-append}
use Rattle.stream_model.proofs.StageLaws.{gives_all-append, on_port-append}
use Rattle.network_model.specs.Packets.{items_in}
use Rattle.network_model.specs.Networks.{RegionPart, Part, FromSource, FromLinks, Splitter, Replica, Merger, last_of}
use Rattle.network_model.specs.Receipts.{Receipt, popped, read_in, item_events}
use Rattle.stream_model.specs.Chains.{passed}
use Rattle.network_model.specs.Owed.{taken_of, given, sends, send_all, region_splits}
use Rattle.network_model.specs.Adds.{gives_more}
use Rattle.network_model.specs.Sinks.{tuples_in, for_sink, is_sink}
use Rattle.network_model.specs.PartLaws.{Merges, NothingLaw, AddsLaw, PoursLaw}
use Rattle.network_model.proofs.Packets.{items_in-append}
use Rattle.network_model.proofs.Chains.{passed-none}
use Rattle.network_model.proofs.RegionParts.{merged-none, merged-more}
use Rattle.network_model.proofs.Receipts.{popped-append, read_in-append, item_events-append, own-arrive, taken-less}

-- ---- replicas

pub replies-append : (stages : List Stage) (ps qs : List Packet) → replies stages (ps ++ qs) ≡ replies stages ps ++ replies (stages_after stages (items_in ps)) qs
replies-append stages [] qs = ap (λ ts. replies ts qs) (sym (stages_after-none stages))
replies-append stages (P.Item n x ∷ ps) qs =
    ap (λ z. map (P.Item n) (stages_give stages (x ∷ [])) ++ z)
    (replies-append (stages_after stages (x ∷ [])) ps qs
    ∙ ap (λ ts. replies (stages_after stages (x ∷ [])) ps ++ replies ts qs) (sym (stages_after-append stages (x ∷ []) (items_in ps))))
    ∙ sym (append_assoc (map (P.Item n) (stages_give stages (x ∷ []))) (replies (stages_after stages (x ∷ [])) ps) (replies (stages_after stages (x ∷ items_in ps)) qs))
replies-append stages (P.Pulse n ∷ ps) qs = ap (λ z. P.Pulse n ∷ z) (replies-append stages ps qs)
replies-append stages (P.Close ∷ ps) qs = ap (λ z. P.Close ∷ z) (replies-append stages ps qs)
replies-append stages (P.Cut ∷ ps) qs = replies-append stages ps qs

-- ---- splitters

pub splits-append : (region : RegionPart) (n : ℕ) (xs ys : List Item)
    → region_splits region n (xs ++ ys) ≡ region_splits region n xs ++ cond (any_closes xs) [] (region_splits region (n + length xs) ys)
splits-append region n [] ys = ap (λ k. region_splits region k ys) (let e : n ≡ n + 0 = omega arith in e)
splits-append region n (x ∷ xs) ys = go (closes x) (splits-append region (suc n) xs ys)
  where
    own : Outgoing
    own = outgoing (route region.routing region.width n x) (P.Item n x)

    pulses : List Outgoing
    pulses = cond (has_pulses region.rule && (suc n % 16 == 0)) (to_each region.width (P.Pulse (suc n))) []

    go : (b : Bool)
        → region_splits region (suc n) (xs ++ ys) ≡ region_splits region (suc n) xs ++ cond (any_closes xs) [] (region_splits region (suc n + length xs) ys)
        → own ∷ (pulses ++ cond b (to_each region.width P.Close) (region_splits region (suc n) (xs ++ ys)))
        ≡ own ∷ (pulses ++ cond b (to_each region.width P.Close) (region_splits region (suc n) xs))
        ++ cond (cond b true (any_closes xs)) [] (region_splits region (n + suc (length xs)) ys)
    go true rest = ap (λ z. own ∷ z) (sym (append-nil (pulses ++ to_each region.width P.Close)))
    go false rest =
        ap (λ z. own ∷ (pulses ++ z)) rest
        ∙ ap (λ z. own ∷ z) (sym (append_assoc pulses (region_splits region (suc n) xs) (cond (any_closes xs) [] (region_splits region (suc n + length xs) ys))))
        ∙ ap (λ k. (own ∷ (pulses ++ region_splits region (suc n) xs)) ++ cond (any_closes xs) [] (region_splits region k ys))
        (let e : suc n + length xs ≡ n + suc (length xs) = omega arith in e)

-- ---- what is given more

-- what stands behind a front
behind_front : {A : Type 0} (front whole : List A) → IsPrefix front whole → whole ≡ front ++ drop (length front) whole
behind_front front whole p = sym p.1 ∙ ap (λ xs. front ++ xs) (sym (drop_at front p.0 (length front) refl) ∙ ap (drop (length front)) p.1)

-- what a chain that reads links gives for its receipts
pub given-links : (op : Operator) (ops : List Operator) (outs : List ℕ) (T : List Receipt)
    → given (FromLinks op ops outs) (taken_of (FromLinks op ops outs) T) ≡ passed (map start ops) (gives_all (start op) (item_events T))
given-links op ops outs T = ap (passed (map start ops)) (own-arrive op ops outs T)

pub given-more : (part : Part) (T : List Receipt) (r : Receipt) → Merges part (T ++ r ∷ [])
    → given part (taken_of part (T ++ r ∷ [])) ≡ given part (taken_of part T) ++ gives_more part T r
given-more (FromSource source ops outs) T r m =
    ap (λ items. passed (map start ops) (map (output 0) items)) (read_in-append T (r ∷ []))
    ∙ ap (passed (map start ops)) (map-append (output 0) (read_in T) (read_in (r ∷ [])))
    ∙ passed-append (map start ops) (map (output 0) (read_in T)) (map (output 0) (read_in (r ∷ [])))
given-more (FromLinks op ops outs) T r m =
    given-links op ops outs (T ++ r ∷ [])
    ∙ ap (λ events. passed (map start ops) (gives_all (start op) events)) (item_events-append T (r ∷ []))
    ∙ ap (passed (map start ops)) (gives_all-append (start op) (item_events T) (item_events (r ∷ [])))
    ∙ passed-append (map start ops) (gives_all (start op) (item_events T)) (gives_all (stage_after (start op) (item_events T)) (item_events (r ∷ [])))
    ∙ ap (λ z. z ++ gives_more (FromLinks op ops outs) T r) (sym (given-links op ops outs T))
given-more (Splitter region) T r m = refl
given-more (Replica region channel) T r m = refl
given-more (Merger region outs) T r m =
    ap (map (output 0)) (behind_front (merged region.rule region.width (λ c. popped c T)) (merged region.rule region.width (λ c. popped c (T ++ r ∷ [])))
    (merged-more region outs (taken_of (Merger region outs) T) (taken_of (Merger region outs) (T ++ r ∷ [])) (taken-less (Merger region outs) T (r ∷ [])) m))
    ∙ map-append (output 0) (merged region.rule region.width (λ c. popped c T))
    (drop (length (merged region.rule region.width (λ c. popped c T))) (merged region.rule region.width (λ c. popped c (T ++ r ∷ []))))

sent-more : (part : Part) (outs : List ℕ) (T : List Receipt) (r : Receipt) → Merges part (T ++ r ∷ [])
    → send_all outs (given part (taken_of part (T ++ r ∷ []))) ≡ send_all outs (given part (taken_of part T)) ++ send_all outs (gives_more part T r)
sent-more part outs T r m = ap (send_all outs) (given-more part T r m) ∙ flat_map-append (sends outs) (given part (taken_of part T)) (gives_more part T r)

pub adds_law : AddsLaw
adds_law (FromSource source ops outs) T r m = sent-more (FromSource source ops outs) outs T r m
adds_law (FromLinks op ops outs) T r m = sent-more (FromLinks op ops outs) outs T r m
adds_law (Splitter region) T r m =
    ap (λ packets. region_splits region 0 (items_in packets)) (popped-append 0 T (r ∷ []))
    ∙ ap (region_splits region 0) (items_in-append (popped 0 T) (popped 0 (r ∷ [])))
    ∙ splits-append region 0 (items_in (popped 0 T)) (items_in (popped 0 (r ∷ [])))
    ∙ ap (λ k. region_splits region 0 (items_in (popped 0 T)) ++ cond (any_closes (items_in (popped 0 T))) [] (region_splits region k (items_in (popped 0 (r ∷ [])))))
    (let e : 0 + length (items_in (popped 0 T)) ≡ length (items_in (popped 0 T)) = omega arith in e)
adds_law (Replica region channel) T r m =
    ap (λ packets. map (outgoing 0) (replies (map start region.ops) packets)) (popped-append 0 T (r ∷ []))
    ∙ ap (map (outgoing 0)) (replies-append (map start region.ops) (popped 0 T) (popped 0 (r ∷ [])))
    ∙ map-append (outgoing 0) (replies (map start region.ops) (popped 0 T)) (replies (stages_after (map start region.ops) (items_in (popped 0 T))) (popped 0 (r ∷ [])))
adds_law (Merger region outs) T r m = sent-more (Merger region outs) outs T r m

pub nothing_law : NothingLaw
nothing_law (FromSource source ops outs) = ap (send_all outs) (passed-none ops)
nothing_law (FromLinks op ops outs) = ap (send_all outs) (passed-none ops)
nothing_law (Splitter region) = refl
nothing_law (Replica region channel) = refl
nothing_law (Merger region outs) = ap (λ items. send_all outs (map (output 0) items)) (merged-none region.rule region.width)

-- ---- sinks

pub tuples_in-append : (xs ys : List Item) → tuples_in (xs ++ ys) ≡ tuples_in xs ++ tuples_in ys
tuples_in-append [] ys = refl
tuples_in-append (I.Tuple vs ∷ xs) ys = ap (λ z. vs ∷ z) (tuples_in-append xs ys)
tuples_in-append (I.Window ∷ xs) ys = tuples_in-append xs ys
tuples_in-append (I.Final ∷ xs) ys = tuples_in-append xs ys
tuples_in-append (I.Bad f ∷ xs) ys = tuples_in-append xs ys

pub for_sink-append : (last : Operator) (a b : List Output) → for_sink last (a ++ b) ≡ for_sink last a ++ for_sink last b
for_sink-append last a b = go (is_sink last.clauses)
  where
    go : (c : Bool) → cond c (tuples_in (on_port 0 (a ++ b))) [] ≡ cond c (tuples_in (on_port 0 a)) [] ++ cond c (tuples_in (on_port 0 b)) []
    go true = ap tuples_in (on_port-append 0 a b) ∙ tuples_in-append (on_port 0 a) (on_port 0 b)
    go false = refl

pub pours_law : PoursLaw
pours_law (FromSource source ops outs) T r =
    ap (for_sink (last_of source ops)) (given-more (FromSource source ops outs) T r tt)
    ∙ for_sink-append (last_of source ops) (given (FromSource source ops outs) (taken_of (FromSource source ops outs) T)) (gives_more (FromSource source ops outs) T r)
pours_law (FromLinks op ops outs) T r =
    ap (for_sink (last_of op ops)) (given-more (FromLinks op ops outs) T r tt)
    ∙ for_sink-append (last_of op ops) (given (FromLinks op ops outs) (taken_of (FromLinks op ops outs) T)) (gives_more (FromLinks op ops outs) T r)
pours_law (Splitter region) T r = refl
pours_law (Replica region channel) T r = refl
pours_law (Merger region outs) T r = refl

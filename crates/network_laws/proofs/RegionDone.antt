-- What leaves a region, in legal lists, and all of it where the region's elements are done.
use Rattle.std.proofs.Common.{ℕ, ◌<◌, Bool, true, false, cond, List, [], ◌∷◌, ◌++◌, ◌≡◌, ◌⊎◌, inl, inr, refl, sym, ap, ◌∙◌, append-nil, map, arith, subst, Some, slice_get}
use Rattle.spl_value.specs.declared.item.Item.{Item}
use Rattle.spl_value.specs.declared.packet.Packet.{Packet}
use Rattle.spl_value.specs.declared.packet.Packet.TheVariants as P
use Rattle.spl_value.specs.Numbered.{Rule, cut, merged, stops_once, InOrder, closes}
use Rattle.stream_model.specs.Stream.{any_closes, is_closed, is_empty, IsPrefix}
use Rattle.stream_model.specs.Bodies.{output}
use Rattle.stream_model.specs.Stages.{start, gives_all, on_port, chain}
use Rattle.stream_model.specs.Meaning.{Graph, arrive}
use Rattle.stream_model.specs.Sending.{on_output, replies}
use Rattle.stream_model.proofs.Growing.{chain_grows}
use Rattle.network_model.specs.Packets.{items_in, has_last, without_cut, is_stream, packets_of}
use Rattle.network_model.specs.Networks.{RegionPart, Part, FromSource, FromLinks, Splitter, Replica, Merger, inputs, Net}
use Rattle.network_model.specs.Receipts.{Taken, popped}
use Rattle.stream_model.specs.Chains.{passed}
use Rattle.network_model.specs.Owed.{owed, owed_for, taken_of, region_splits, replica_owes, item_lists, Binds}
use Rattle.network_model.specs.Events.{Occurrence}
use Rattle.network_model.specs.States.{At, State, all_taken, begin, reached}
use Rattle.network_model.specs.Legal.{Clean, IsDone, IsLegal}
use Rattle.network_model.specs.Joined.{taken_at, lists_of}
use Rattle.network_model.specs.Wiring.{Carries, StreamLink, ReplicaLink, MergerLink, Fed, IsWired}
use Rattle.network_model.specs.PartLaws.{IsPart}
use Rattle.network_model.proofs.Packets.{front-trans, front-same, front-on_output, front-left, front-items, items_in-packets_of, stops-end}
use Rattle.network_model.proofs.Sending.{on_output-send_all}
use Rattle.network_model.proofs.Chains.{on_port-outputs, front-stream}
use Rattle.network_model.proofs.Merging.{merged-front}
use Rattle.network_model.proofs.RegionParts.{on_output-map, replies-none, without_cut-none, clean, merged-clean, replies-stop, split-stops, split-without_cut}
use Rattle.network_laws.specs.RegionLaws.{HasRegionLaw, RegionObeys, RegionsObey, entered, has_left, IsRegionDone, LegalRegionLaw, DoneRegionLaw}
use Rattle.network_laws.proofs.Joining.{wired-net}
use Rattle.network_model.proofs.ElementLists.{all-pushed, taken-at}
use Rattle.network_model.proofs.ElementRule.{binds-merges}
use Rattle.network_laws.proofs.Legal.{LinkKeeps, NetKeeps, keep-begin, keep-all}
use Rattle.network_laws.proofs.RegionSends.{region_moment_law, both-fronts, closed-cut, cut-is-front}
use Rattle.network_model.proofs.Propers.{stops-stream}
use Rattle.network_laws.proofs.Bound.{progress, binds-at, splitter-of, replica-of, SplitterOf, ReplicaOf, from-below}

-- ---- streams on links

-- `Close` goes behind an item that closes
front-closes : (ps : List Packet) (X : List Item) → IsPrefix ps (packets_of X) → has_last ps ≡ true → any_closes (items_in ps) ≡ true
front-closes ps [] p h = absurd (go ps p.0 p.1 h)
  where
    go : (ps more : List Packet) → ps ++ more ≡ [] → has_last ps ≡ true → ⊥
    go [] more e h = absurd (let f : false ≡ true = h in cc)
    go (q ∷ ps) more e h = absurd (cc)
front-closes [] (x ∷ X) p h = absurd (let f : false ≡ true = h in cc)
front-closes (q ∷ ps) (x ∷ X) p h = go (closes x) refl (front-closes ps X)
  where
    own : q ≡ P.Item 0 x
    own = let e : q ∷ (ps ++ p.0) ≡ P.Item 0 x ∷ cond (closes x) (P.Close ∷ packets_of X) (packets_of X) = p.1 in cc

    behind : ps ++ p.0 ≡ cond (closes x) (P.Close ∷ packets_of X) (packets_of X)
    behind = let e : q ∷ (ps ++ p.0) ≡ P.Item 0 x ∷ cond (closes x) (P.Close ∷ packets_of X) (packets_of X) = p.1 in cc

    last : has_last ps ≡ true
    last = ap (λ z. has_last (z ∷ ps)) (sym own) ∙ h

    go : (b : Bool) → closes x ≡ b → (IsPrefix ps (packets_of X) → has_last ps ≡ true → any_closes (items_in ps) ≡ true) → any_closes (items_in (q ∷ ps)) ≡ true
    go true c rest = ap (λ z. any_closes (items_in (z ∷ ps))) own ∙ ap (λ b. cond b true (any_closes (items_in ps))) c
    go false c rest =
        ap (λ z. any_closes (items_in (z ∷ ps))) own ∙ ap (λ b. cond b true (any_closes (items_in ps))) c
        ∙ rest (p.0, behind ∙ ap (λ b. cond b (P.Close ∷ packets_of X) (packets_of X)) c) last

closed-of : (xs : List Item) → is_stream xs ≡ true → any_closes xs ≡ true → is_closed xs ≡ true
closed-of [] s h = absurd (let f : false ≡ true = h in cc)
closed-of (x ∷ xs) s h = go (closes x) s h (closed-of xs)
  where
    go : (b : Bool) → cond b (is_empty xs) (is_stream xs) ≡ true → cond b true (any_closes xs) ≡ true → (is_stream xs ≡ true → any_closes xs ≡ true → is_closed xs ≡ true)
        → cond b (is_empty xs) (is_closed xs) ≡ true
    go true s h rest = s
    go false s h rest = rest s h

-- what an element owes on an output that carries a stream
carried-packets : (part : Part) (o s : ℕ) (t : Taken) → Carries part o s → (X : List Item) × (on_output o (owed part t) ≡ packets_of X)
carried-packets (FromSource source ops outs) o s t c =
    (on_port c.0 (passed (map start ops) (map (output 0) t.items)), on_output-send_all outs o c.0 (passed (map start ops) (map (output 0) t.items)) c.1)
carried-packets (FromLinks op ops outs) o s t c =
    let given = passed (map start ops) (gives_all (start op) (arrive (item_lists t) t.entries)) in
    (on_port c.0 given, on_output-send_all outs o c.0 given c.1)
carried-packets (Splitter region) o s t c = absurd c
carried-packets (Replica region channel) o s t c = absurd c
carried-packets (Merger region outs) o s t c =
    let given = map (output 0) (merged region.rule region.width t.packets) in
    (on_port 0 given, on_output-send_all outs o 0 given c.0)

-- what is merged looks at the channels alone
merged-alike : (rule : Rule) (w : ℕ) (t u : ℕ → List Packet) → ((c : ℕ) → c < w → t c ≡ u c) → InOrder rule w t → InOrder rule w u → ((c : ℕ) → c < w → stops_once (u c) ≡ true)
    → merged rule w t ≡ merged rule w u
merged-alike rule w t u same ot ou stops =
    both-fronts (merged rule w t) (merged rule w u)
    (merged-front rule w t u (λ c lt. front-same (t c) (u c) (same c lt)) ou stops)
    (merged-front rule w u t (λ c lt. front-same (u c) (t c) (sym (same c lt))) ot (λ c lt. ap stops_once (same c lt) ∙ stops c lt))

-- ---- at each moment

pub legal_region_law : LegalRegionLaw
legal_region_law g net list region outs e d wired obey legal size there is splits = (m.0, pushed)
  where
    st : State
    st = reached net list

    k : NetKeeps net (reached net list)
    k = keep-all net begin list (wired-net g net wired) legal.legal (keep-begin net (wired-net g net wired))

    law : (items : List Item) → HasRegionLaw region items
    law = subst RegionObeys is (obey e size)

    m : InOrder region.rule region.width (λ c. without_cut (popped c (all_taken (reached net list e))))
        × ((o : ℕ) → slice_get outs o ≡ Some 0 → IsPrefix (has_left (reached net list) e o) (chain region.ops (cut (entered (reached net list) d))))
    m = region_moment_law g net (lists_of net (reached net list)) region outs e d wired (progress g net wired (reached net list) k obey) size there is splits
        (law (entered (reached net list) d))

    pushed : (o : ℕ) → slice_get outs o ≡ Some 0 → IsPrefix (has_left (reached net list) e o) (chain region.ops (entered (reached net list) d))
    pushed o at =
        front-trans (has_left (reached net list) e o) (chain region.ops (cut (entered (reached net list) d))) (chain region.ops (entered (reached net list) d)) (m.1 o at)
        (chain_grows region.ops (cut (entered (reached net list) d)) (entered (reached net list) d) (cut-is-front (entered (reached net list) d)))

-- ---- where the region is done

module _ (g : Graph) (net : Net) (list : List Occurrence) (region : RegionPart) (outs : List ℕ) (e d : ℕ) (wired : IsWired g net) (obey : RegionsObey net) (legal : IsLegal net list)
    (whole : Clean net (reached net list)) (size : e < net.size) (there : d < net.size) (merges : net.part e ≡ Merger region outs) (splits : net.part d ≡ Splitter region)
    (done : IsRegionDone net (reached net list) region) where
  abbrev st : State
  st = reached net list

  abbrev L : List Item
  L = entered st d

  abbrev is_net : Rattle.network_laws.specs.Shaped.IsNet net
  is_net = wired-net g net wired

  k : NetKeeps net st
  k = keep-all net begin list (wired-net g net wired) legal.legal (keep-begin net (wired-net g net wired))

  binds : (x : ℕ) → x < net.size → Binds (net.part x) (taken_at (net.part x) (st x))
  binds x lt = binds-at g net wired st k obey x lt

  -- who is done has pushed all that it owes
  pushed-all : (x o : ℕ) → x < net.size → IsDone (net.part x) (st x) → on_output o (st x).pushed ≡ on_output o (owed (net.part x) (taken_at (net.part x) (st x)))
  pushed-all x o lt h = all-pushed (net.part x) (st x) (is_net.parts x lt) (k.elements x lt).rule (k.elements x lt).range h (whole x lt) (binds x lt) o

  -- and between two that are done all that was pushed was popped
  popped-all : (l x y i o : ℕ) → l < net.links → (net.link l).from ≡ x → (net.link l).to ≡ y → (net.link l).output ≡ o → (net.link l).input ≡ i → x < net.size → y < net.size → i < inputs (net.part y)
      → IsDone (net.part x) (st x) → IsDone (net.part y) (st y) → popped i (all_taken (st y)) ≡ on_output o (st x).pushed
  popped-all l x y i o lt from to out input ltx lty within hx hy =
      let c : LinkKeeps (net.link l) st = k.links l lt in
      let are : on_output o (st x).pushed ≡ popped i (all_taken (st y)) ++ c.waiting =
      (λ j. on_output (sym out j) (st (sym from j)).pushed) ∙ c.are ∙ (λ j. popped (input j) (all_taken (st (to j))) ++ c.waiting) in
      let stops : stops_once (on_output o (st x).pushed) ≡ true =
      ap stops_once (pushed-all x o ltx hx) ∙ (is_net.parts x ltx).stops (taken_at (net.part x) (st x)) o (binds x ltx) in
      let none : c.waiting ≡ [] = stops-end (popped i (all_taken (st y))) c.waiting (ap stops_once (sym are) ∙ stops) (hy.inputs_end i within) in
      sym (are ∙ ap (λ z. popped i (all_taken (st y)) ++ z) none ∙ append-nil (popped i (all_taken (st y))))

  done-at : (x : ℕ) (part : Part) → x < net.size → net.part x ≡ part → Rattle.network_laws.specs.RegionLaws.IsOf region part → IsDone (net.part x) (st x)
  done-at x part lt is own = done x lt (subst (Rattle.network_laws.specs.RegionLaws.IsOf region) (sym is) own)

  -- what the merger took on a channel
  took : (c : ℕ) → c < region.width → popped c (all_taken (st e)) ≡ replica_owes region L c
  took c lt =
      let r : ReplicaOf net e region c = replica-of g net wired e region outs c size merges lt in
      let x : ℕ = (net.link r.fed.link).from in
      let s : SplitterOf net (net.link r.fed.link).from region c = splitter-of g net wired (net.link r.fed.link).from region c r.from r.is in
      let y : ℕ = (net.link s.fed.link).from in
      let same : (net.link s.fed.link).from ≡ d = wired.one_splitter (net.link s.fed.link).from d region s.from there s.is splits in
      let replica_done : IsDone (net.part (net.link r.fed.link).from) (st (net.link r.fed.link).from) = done-at (net.link r.fed.link).from (Replica region c) r.from r.is refl in
      let merger_done : IsDone (net.part e) (st e) = done-at e (Merger region outs) size merges refl in
      let splitter_done : IsDone (net.part d) (st d) = done-at d (Splitter region) there splits refl in
      popped-all r.fed.link x e c 0 r.fed.within refl r.fed.to r.output r.fed.input r.from size (subst (λ z. c < inputs z) (sym merges) lt) replica_done merger_done
      ∙ pushed-all x 0 r.from replica_done
      ∙ ap (λ z. on_output 0 (owed z (taken_at (net.part (net.link r.fed.link).from) (st (net.link r.fed.link).from)))) r.is
      ∙ on_output-map 0 (replies (map start region.ops) (popped 0 (all_taken (st (net.link r.fed.link).from))))
      ∙ ap (replies (map start region.ops))
      (popped-all s.fed.link d x 0 c s.fed.within same s.fed.to s.output s.fed.input there r.from (subst (λ z. 0 < inputs z) (sym r.is) (omega arith)) splitter_done replica_done
      ∙ pushed-all d c there splitter_done
      ∙ ap (λ z. on_output c (owed z (taken_at (net.part d) (st d)))) splits)

  -- what entered is a closed stream
  closed : is_closed L ≡ true
  closed = go (wired.fed d 0 there (subst (λ z. 0 < inputs z) (sym splits) (omega arith)))
    where
      from-stream : (l : ℕ) → l < net.links → (net.link l).to ≡ d → (net.link l).input ≡ 0 → (s : ℕ) → Carries (net.part (net.link l).from) (net.link l).output s → is_closed (entered (reached net list) d) ≡ true
      from-stream l lt to input s carried =
          let x : ℕ = (net.link l).from in
          let below : (net.link l).from < net.size = from-below g net wired l lt in
          let part : Part = net.part (net.link l).from in
          let a : At = reached net list (net.link l).from in
          let o : ℕ = (net.link l).output in
          let laws : IsPart (net.part (net.link l).from) = (wired-net g net wired).parts (net.link l).from below in
          let b : Binds (net.part (net.link l).from) (taken_of (net.part (net.link l).from) (reached net list (net.link l).from).kept) =
          laws.binds (taken_of part a.kept) (taken_at part a) (taken-at part a) (binds (net.link l).from below) in
          let all : (reached net list (net.link l).from).pushed ++ (reached net list (net.link l).from).outbox ≡ owed_for (net.part (net.link l).from) (reached net list (net.link l).from).kept = (k.elements (net.link l).from below).rule.whole (whole (net.link l).from below) (binds-merges part a.kept b) in
          let X = carried-packets (net.part (net.link l).from) (net.link l).output s (taken_of (net.part (net.link l).from) (reached net list (net.link l).from).kept) carried in
          let got : List Packet = popped 0 (all_taken (reached net list d)) in
          let c : LinkKeeps (net.link l) (reached net list) = k.links l lt in
          let went : IsPrefix (popped 0 (all_taken (reached net list d))) (on_output (net.link l).output (reached net list (net.link l).from).pushed) =
          (c.waiting, sym (c.are ∙ (λ j. popped (input j) (all_taken (reached net list (to j))) ++ c.waiting))) in
          let owes : IsPrefix (on_output (net.link l).output (reached net list (net.link l).from).pushed) (on_output (net.link l).output (owed_for (net.part (net.link l).from) (reached net list (net.link l).from).kept)) =
          front-on_output o a.pushed (owed_for part a.kept) (a.outbox, all) in
          let front : IsPrefix (popped 0 (all_taken (reached net list d))) (packets_of X.0) =
          front-trans got (on_output o a.pushed) (packets_of X.0) went (front-left (on_output o a.pushed) (on_output o a.pushed) (packets_of X.0) (on_output o (owed_for part a.kept)) refl (sym X.1) owes) in
          let last : has_last (popped 0 (all_taken (reached net list d))) ≡ true =
          (done-at d (Splitter region) there splits refl).inputs_end 0 (subst (λ z. 0 < inputs z) (sym splits) (omega arith)) in
          let stream : is_stream X.0 ≡ true = stops-stream X.0 (ap stops_once (sym X.1) ∙ laws.stops (taken_of part a.kept) o b) in
          let items : IsPrefix (items_in (popped 0 (all_taken (reached net list d)))) X.0 =
          front-left (items_in got) (items_in got) X.0 (items_in (packets_of X.0)) refl (sym (items_in-packets_of X.0)) (front-items got (packets_of X.0) front) in
          closed-of (items_in got) (front-stream (items_in got) X.0 items stream) (front-closes got X.0 front last)

      go : Fed net d 0 → is_closed (entered (reached net list) d) ≡ true
      go f = by (wired.links f.link f.within).ends
        where
          part : net.part (net.link f.link).to ≡ Splitter region
          part = ap net.part f.to ∙ splits

          by : StreamLink net f.link ⊎ (ReplicaLink net f.link ⊎ MergerLink net f.link) → is_closed (entered (reached net list) d) ≡ true
          by (inl s) = from-stream f.link f.within f.to f.input s.stream s.carried
          by (inr (inl r)) = absurd (let clash : Splitter region ≡ Replica r.region (net.link f.link).output = sym part ∙ r.to in cc)
          by (inr (inr r)) = absurd (let clash : Splitter region ≡ Merger r.region r.outs = sym part ∙ r.to in cc)

  left-all : (o : ℕ) → slice_get outs o ≡ Some 0 → has_left st e o ≡ chain region.ops L
  left-all o at =
      let law : HasRegionLaw region L = subst RegionObeys merges (obey e size) L in
      let ends = closed-cut L closed in
      let items : List Item = merged region.rule region.width (λ c. popped c (all_taken (st e))) in
      let taken : ℕ → List Packet = λ c. popped c (all_taken (st e)) in
      let order = (legal_region_law g net list region outs e d wired obey legal size there merges splits).0 in
      let theirs = (law.fronts (replica_owes region L) (λ c lt. front-same (replica_owes region L c) (replica_owes region L c) refl)).0 in
      let same : (c : ℕ) → c < region.width → clean (λ c. popped c (all_taken (st e))) c ≡ replica_owes region L c =
      λ c lt. ap without_cut (took c lt) ∙ without_cut-none (replica_owes region L c) (replies-none (map start region.ops) (on_output c (region_splits region 0 L))) in
      let stops : (c : ℕ) → c < region.width → stops_once (replica_owes region L c) ≡ true =
      λ c lt. replies-stop (map start region.ops) (on_output c (region_splits region 0 L)) (ap stops_once (split-without_cut region c 0 L) ∙ split-stops region c 0 L) in
      ap items_in (pushed-all e o size (done-at e (Merger region outs) size merges refl))
      ∙ ap (λ z. items_in (on_output o (owed z (taken_at (net.part e) (st e))))) merges
      ∙ ap items_in (on_output-send_all outs o 0 (map (output 0) items) at)
      ∙ items_in-packets_of (on_port 0 (map (output 0) items))
      ∙ on_port-outputs 0 items
      ∙ sym (merged-clean region.rule region.width taken)
      ∙ merged-alike region.rule region.width (clean taken) (replica_owes region L) same order theirs stops
      ∙ law.whole ends.1
      ∙ ap (chain region.ops) ends.0

pub done_region_law : DoneRegionLaw
done_region_law g net list region outs e d wired obey legal whole size there merges splits done o at = left-all g net list region outs e d wired obey legal whole size there merges splits done o at

-- A region of which the region law holds, holds in a network.
use Rattle.std.proofs.Common.{ℕ, ◌+◌, ◌<◌, ◌==◌, nat_lt, Bool, true, false, cond, List, [], ◌∷◌, ◌++◌, ◌≡◌, refl, sym, ap, ◌∙◌, subst, append-nil, length, length-append, map, arith, position, slice_get, Some}
use Rattle.std.specs.List.{concat}
use Rattle.std.proofs.lemmas.Bool.{cond-true, lt-ltb}
use Rattle.std.proofs.lemmas.List.{nil_from_length}
use Rattle.spl_value.specs.declared.item.Item.{Item}
use Rattle.spl_value.specs.declared.item.Item.TheVariants as I
use Rattle.spl_value.specs.declared.packet.Packet.{Packet}
use Rattle.spl_value.specs.Numbered.{cut, merged, stops_once, InOrder}
use Rattle.spl_value.specs.Numbered as numbered
use Rattle.stream_model.specs.Stream.{came, any_closes, is_closed, IsPrefix}
use Rattle.stream_model.specs.Operators.{Operator}
use Rattle.stream_model.specs.Stages.{start, next, on_port, out, chain}
use Rattle.stream_model.specs.Meaning.{Graph, Lists, Entries, Meaning, events_at, events_of, meaning, in_topo}
use Rattle.stream_model.specs.Laws.{IsOrdered}
use Rattle.stream_model.proofs.Growing.{chain_grows}
use Rattle.stream_model.specs.Sending.{outgoing, on_output, replies}
use Rattle.network_model.specs.Packets.{items_in, without_cut}
use Rattle.network_model.specs.Networks.{RegionPart, Splitter, Replica, Merger, inputs, outputs, Net}
use Rattle.network_model.specs.Receipts.{Taken}
use Rattle.network_model.specs.Owed.{replica_owes, region_splits, owed, item_lists, Binds}
use Rattle.network_model.specs.Joined.{NetworkLists, InProgress}
use Rattle.network_model.specs.Networks.{last_of}
use Rattle.network_model.specs.Wiring.{is_source, Stands, Path, Fed, IsWired}
use Rattle.network_model.specs.Flow.{channel_flow}
use Rattle.network_laws.specs.RegionLaws.{HoldsLaw, RegionMomentLaw}
use Rattle.std.proofs.lemmas.Option.{slice_get_within}
use Rattle.list_engine.proofs.Operators.{made_by_other}
use Rattle.stream_model.specs.Bodies.{output}
use Rattle.network_model.proofs.Sending.{on_output-send_all}
use Rattle.network_model.proofs.Chains.{on_port-outputs}
use Rattle.network_laws.proofs.Joining.{merger-at, replica-at}
use Rattle.network_model.proofs.Packets.{front-same, front-left, front-trans, front-without_cut, front-items, items_in-without_cut, items_in-packets_of, stops-front}
use Rattle.network_model.proofs.RegionParts.{split-without_cut, split-stops, replies-without_cut, replies-front, replies-none, replies-stop, without_cut-none, on_output-map, clean, merged-clean, channel-stops}
use Rattle.network_model.proofs.Merging.{merged-front}
use Rattle.network_laws.proofs.Meanings.{made-at, position-one}

pub flow-same : (region : RegionPart) (m : Meaning) (c : ℕ) → c < region.width → channel_flow region m c ≡ replica_owes region (m.streams region.entry) c
flow-same region m c lt =
    cond-true (nat_lt c region.width) (replica_owes region (m.streams region.entry) c) [] (lt-ltb c region.width lt)

-- ---- the chain

module _ (g : Graph) (rows : Lists) (entries : Entries) (ordered : IsOrdered (in_topo g)) where
  -- what a path of operators gives for the stream that it reads is the stream that it makes
  chain-exit : (op : Operator) (ops : List Operator) (s t : ℕ) → Stands g op → is_source op.clauses ≡ false → op.ins ≡ (s ∷ []) ∷ [] → Path g op ops → (last_of op ops).outs ≡ t ∷ []
      → chain (op ∷ ops) ((meaning g rows entries).streams s) ≡ (meaning g rows entries).streams t
  chain-exit op [] s t stands none reads path makes = one op s t stands none reads makes
    where
      one : (op : Operator) (s t : ℕ) → Stands g op → is_source op.clauses ≡ false → op.ins ≡ (s ∷ []) ∷ [] → op.outs ≡ t ∷ []
          → out op 0 (map (came 0) ((meaning g rows entries).streams s)) ≡ (meaning g rows entries).streams t
      one op s t stands none reads makes =
          ap (λ ins. out op 0 (events_at (meaning g rows entries).streams (concat ins) (entries op.number))) (sym reads)
          ∙ sym (made_by_other op.clauses op 0 (events_of op (meaning g rows entries).streams (entries op.number)) (rows op.number) none)
          ∙ sym (made-at g rows entries ordered op stands 0 t (ap (position (λ u. u == t)) makes ∙ position-one t))
  chain-exit op (next ∷ ops) s t stands none reads path makes =
      ap (chain (next ∷ ops))
      (ap (λ ins. out op 0 (events_at (meaning g rows entries).streams (concat ins) (entries op.number))) (sym reads)
      ∙ sym (made_by_other op.clauses op 0 (events_of op (meaning g rows entries).streams (entries op.number)) (rows op.number) none)
      ∙ sym (made-at g rows entries ordered op stands 0 path.0 (ap (position (λ u. u == path.0)) path.1 ∙ position-one path.0)))
      ∙ chain-exit next ops path.0 t path.3 path.4 path.2 path.5 makes

pub cut-is-front : (xs : List Item) → IsPrefix (cut xs) xs
cut-is-front [] = ([], refl)
cut-is-front (x ∷ xs) = go (numbered.closes x) (cut-is-front xs)
  where
    go : (b : Bool) → IsPrefix (cut xs) xs → IsPrefix (x ∷ cond b [] (cut xs)) (x ∷ xs)
    go true p = (xs, refl)
    go false p = (p.0, ap (λ z. x ∷ z) p.1)

pub closed-cut : (xs : List Item) → is_closed xs ≡ true → (cut xs ≡ xs) × (any_closes xs ≡ true)
closed-cut [] h = absurd (cc)
closed-cut (I.Tuple vs ∷ xs) h = let r = closed-cut xs h in (ap (λ z. I.Tuple vs ∷ z) r.0, r.1)
closed-cut (I.Window ∷ xs) h = let r = closed-cut xs h in (ap (λ z. I.Window ∷ z) r.0, r.1)
closed-cut (I.Final ∷ []) h = (refl, refl)
closed-cut (I.Final ∷ x ∷ xs) h = absurd (cc)
closed-cut (I.Bad f ∷ []) h = (refl, refl)
closed-cut (I.Bad f ∷ x ∷ xs) h = absurd (cc)

pub both-fronts : {A : Type 0} (a b : List A) → IsPrefix a b → IsPrefix b a → a ≡ b
both-fronts a b p q =
    let one : length (a ++ p.0) ≡ length b = ap length p.1 in
    let two : length (b ++ q.0) ≡ length a = ap length q.1 in
    let la : length (a ++ p.0) ≡ length a + length p.0 = length-append a p.0 in
    let lb : length (b ++ q.0) ≡ length b + length q.0 = length-append b q.0 in
    let none : p.0 ≡ [] = nil_from_length p.0 (omega (arith, one, two, la, lb)) in
    sym (append-nil a) ∙ ap (λ z. a ++ z) (sym none) ∙ p.1

pub holds_law : HoldsLaw
holds_law g rows entries region ordered fits law = record {
  in_order = own.0;
  front = front-trans (merged region.rule region.width (channel_flow region m)) (chain region.ops (cut items)) (m.streams region.exit) own.1
      (front-left (chain region.ops (cut items)) (chain region.ops (cut items)) (m.streams region.exit) (chain region.ops items) refl (sym exit) (chain_grows region.ops (cut items) items (cut-is-front items)));
  whole = λ closed. let c = closed-cut items closed in same_merge ∙ law.whole c.1 ∙ ap (chain region.ops) c.0 ∙ exit;
}
  where
    m : Meaning
    m = meaning g rows entries

    items : List Item
    items = (meaning g rows entries).streams region.entry

    all : ℕ → List Packet
    all = replica_owes region ((meaning g rows entries).streams region.entry)

    exit : chain region.ops ((meaning g rows entries).streams region.entry) ≡ (meaning g rows entries).streams region.exit
    exit = ap (λ ops. chain ops ((meaning g rows entries).streams region.entry)) fits.are
        ∙ chain-exit g rows entries ordered fits.op fits.ops region.entry region.exit fits.stands fits.no_source fits.reads fits.path fits.makes

    own : InOrder region.rule region.width (channel_flow region (meaning g rows entries))
        × IsPrefix (merged region.rule region.width (channel_flow region (meaning g rows entries))) (chain region.ops (cut ((meaning g rows entries).streams region.entry)))
    own = law.fronts (channel_flow region (meaning g rows entries)) (λ c lt. front-same (channel_flow region (meaning g rows entries) c) (replica_owes region ((meaning g rows entries).streams region.entry) c) (flow-same region (meaning g rows entries) c lt))

    theirs : InOrder region.rule region.width (replica_owes region ((meaning g rows entries).streams region.entry))
    theirs = (law.fronts (replica_owes region ((meaning g rows entries).streams region.entry)) (λ c lt. front-same (replica_owes region ((meaning g rows entries).streams region.entry) c) (replica_owes region ((meaning g rows entries).streams region.entry) c) refl)).0

    same_merge : merged region.rule region.width (channel_flow region (meaning g rows entries)) ≡ merged region.rule region.width (replica_owes region ((meaning g rows entries).streams region.entry))
    same_merge =
        both-fronts (merged region.rule region.width (channel_flow region (meaning g rows entries))) (merged region.rule region.width (replica_owes region ((meaning g rows entries).streams region.entry)))
        (merged-front region.rule region.width (channel_flow region (meaning g rows entries)) (replica_owes region ((meaning g rows entries).streams region.entry))
        (λ c lt. front-same (channel_flow region (meaning g rows entries) c) (replica_owes region ((meaning g rows entries).streams region.entry) c) (flow-same region (meaning g rows entries) c lt)) theirs
        (λ c lt. ap stops_once (sym (flow-same region (meaning g rows entries) c lt)) ∙ channel-stops region (meaning g rows entries) c))
        (merged-front region.rule region.width (replica_owes region ((meaning g rows entries).streams region.entry)) (channel_flow region (meaning g rows entries))
        (λ c lt. front-same (replica_owes region ((meaning g rows entries).streams region.entry) c) (channel_flow region (meaning g rows entries) c) (sym (flow-same region (meaning g rows entries) c lt))) own.0
        (λ c lt. channel-stops region (meaning g rows entries) c))

-- ---- at any moment

module _ (g : Graph) (net : Net) (lists : NetworkLists) (wired : IsWired g net) (j : InProgress net lists) where
  from-below : (l : ℕ) → l < net.links → (net.link l).from < net.size
  from-below l lt = let k = wired.links l lt in let low : (net.link l).from < (net.link l).to = k.earlier in let top : (net.link l).to < net.size = k.within in omega (arith, low, top)

  -- what an element took from a link, by what the sender owes there
  pub taken-front : (e i : ℕ) → e < net.size → (f : Fed net e i) → Binds (net.part (net.link f.link).from) (lists.taken (net.link f.link).from) → (net.link f.link).output < outputs (net.part (net.link f.link).from)
      → IsPrefix (without_cut ((lists.taken e).packets i)) (without_cut (on_output (net.link f.link).output (owed (net.part (net.link f.link).from) (lists.taken (net.link f.link).from))))
  taken-front e i size f binds within =
      let here : (lists.taken e).packets i ≡ (lists.taken (net.link f.link).to).packets (net.link f.link).input =
      ap (λ z. (lists.taken z).packets i) (sym f.to) ∙ ap (λ z. (lists.taken (net.link f.link).to).packets z) (sym f.input) in
      let sent : List Packet = lists.sent (net.link f.link).from (net.link f.link).output in
      front-trans (without_cut ((lists.taken e).packets i)) (without_cut sent) (without_cut (on_output (net.link f.link).output (owed (net.part (net.link f.link).from) (lists.taken (net.link f.link).from))))
      (front-without_cut ((lists.taken e).packets i) sent (front-left ((lists.taken e).packets i) ((lists.taken (net.link f.link).to).packets (net.link f.link).input) sent sent here refl (j.links f.link f.within)))
      ((j.elements (net.link f.link).from (from-below f.link f.within)).sends binds (net.link f.link).output within)

  -- what a replica took is a front of what the splitter owes to it
  pub replica-took : (e d : ℕ) (region : RegionPart) (c : ℕ) → e < net.size → d < net.size → net.part e ≡ Replica region c → net.part d ≡ Splitter region
      → IsPrefix (without_cut ((lists.taken e).packets 0)) (on_output c (region_splits region 0 (item_lists (lists.taken d) 0)))
  replica-took e d region c size there is splits = go (wired.fed e 0 size (subst (λ z. 0 < inputs z) (sym is) (omega arith)))
    where
      go : Fed net e 0 → IsPrefix (without_cut ((lists.taken e).packets 0)) (on_output c (region_splits region 0 (item_lists (lists.taken d) 0)))
      go f =
          let x = replica-at net f.link region c (wired.links f.link f.within) (ap net.part f.to ∙ is) in
          let same : net.part (net.link f.link).from ≡ Splitter region = x.0.from ∙ ap Splitter x.1 in
          let own : (net.link f.link).from ≡ d = wired.one_splitter (net.link f.link).from d region (from-below f.link f.within) there same splits in
          let channel : Replica x.0.region (net.link f.link).output ≡ Replica region c = sym x.0.to ∙ ap net.part f.to ∙ is in
          let output : (net.link f.link).output ≡ c = cc in
          let front = taken-front e 0 size f (subst (λ z. Binds z (lists.taken (net.link f.link).from)) (sym same) tt) (subst (λ z. (net.link f.link).output < outputs z) (sym x.0.from) x.0.within) in
          let owes : without_cut (on_output (net.link f.link).output (owed (net.part (net.link f.link).from) (lists.taken (net.link f.link).from))) ≡ on_output c (region_splits region 0 (item_lists (lists.taken d) 0)) =
          ap (λ z. without_cut (on_output (net.link f.link).output (owed z (lists.taken (net.link f.link).from)))) same
          ∙ ap (λ z. without_cut (on_output z (region_splits region 0 (item_lists (lists.taken (net.link f.link).from) 0)))) output
          ∙ ap (λ z. without_cut (on_output c (region_splits region 0 (item_lists (lists.taken z) 0)))) own
          ∙ split-without_cut region c 0 (item_lists (lists.taken d) 0) in
          (front.0, front.1 ∙ owes)

  -- what a merger took is a front of what the replicas send for all that the splitter owes to them
  pub merger-took : (e d : ℕ) (region : RegionPart) (outs : List ℕ) → e < net.size → d < net.size → net.part e ≡ Merger region outs → net.part d ≡ Splitter region
      → (c : ℕ) → c < region.width → IsPrefix (without_cut ((lists.taken e).packets c)) (replica_owes region (item_lists (lists.taken d) 0) c)
  merger-took e d region outs size there is splits c lt = go (wired.fed e c size (subst (λ z. c < inputs z) (sym is) lt))
    where
      items : List Item
      items = item_lists (lists.taken d) 0

      go : Fed net e c → IsPrefix (without_cut ((lists.taken e).packets c)) (replica_owes region (item_lists (lists.taken d) 0) c)
      go f =
          let x = merger-at net f.link region outs (wired.links f.link f.within) (ap net.part f.to ∙ is) in
          let s : ℕ = (net.link f.link).from in
          let same : net.part (net.link f.link).from ≡ Replica region c = x.0.from ∙ ap (λ z. Replica z (net.link f.link).input) x.1 ∙ ap (Replica region) f.input in
          let below : (net.link f.link).from < net.size = from-below f.link f.within in
          let took : IsPrefix (without_cut ((lists.taken (net.link f.link).from).packets 0)) (on_output c (region_splits region 0 (item_lists (lists.taken d) 0))) = replica-took (net.link f.link).from d region c below there same splits in
          let binds : stops_once (without_cut ((lists.taken (net.link f.link).from).packets 0)) ≡ true =
          stops-front (without_cut ((lists.taken (net.link f.link).from).packets 0)) took.0 (ap stops_once took.1 ∙ split-stops region c 0 (item_lists (lists.taken d) 0)) in
          let front = taken-front e c size f (subst (λ z. Binds z (lists.taken (net.link f.link).from)) (sym same) binds)
          (subst (λ z. (net.link f.link).output < outputs z) (sym same) (let first : (net.link f.link).output ≡ 0 = x.0.output in omega (arith, first))) in
          let ps : List Packet = (lists.taken (net.link f.link).from).packets 0 in
          let clean : without_cut (replies (map start region.ops) ps) ≡ replies (map start region.ops) (without_cut ps) =
          without_cut-none (replies (map start region.ops) ps) (replies-none (map start region.ops) ps) ∙ sym (replies-without_cut (map start region.ops) ps) in
          let owes : without_cut (on_output (net.link f.link).output (owed (net.part (net.link f.link).from) (lists.taken (net.link f.link).from))) ≡ replies (map start region.ops) (without_cut ps) =
          ap (λ z. without_cut (on_output (net.link f.link).output (owed z (lists.taken (net.link f.link).from)))) same
          ∙ ap (λ z. without_cut (on_output z (map (outgoing 0) (replies (map start region.ops) ps)))) x.0.output
          ∙ ap without_cut (on_output-map 0 (replies (map start region.ops) ps))
          ∙ clean in
          front-trans (without_cut ((lists.taken e).packets c)) (replies (map start region.ops) (without_cut ps)) (replica_owes region (item_lists (lists.taken d) 0) c)
          (front.0, front.1 ∙ owes)
          (replies-front (map start region.ops) (without_cut ps) (on_output c (region_splits region 0 (item_lists (lists.taken d) 0))) took)

pub region_moment_law : RegionMomentLaw
region_moment_law g net lists region outs e d wired j size there is splits law = (fronts.0, pushed)
  where
    t : Taken
    t = lists.taken e

    took : (c : ℕ) → c < region.width → IsPrefix (without_cut ((lists.taken e).packets c)) (replica_owes region (item_lists (lists.taken d) 0) c)
    took = merger-took g net lists wired j e d region outs size there is splits

    fronts : InOrder region.rule region.width (clean (lists.taken e).packets) × IsPrefix (merged region.rule region.width (clean (lists.taken e).packets)) (chain region.ops (cut (item_lists (lists.taken d) 0)))
    fronts = law.fronts (clean (lists.taken e).packets) took

    stops : (c : ℕ) → c < region.width → stops_once (without_cut ((lists.taken e).packets c)) ≡ true
    stops c lt = let p = took c lt in
        stops-front (without_cut ((lists.taken e).packets c)) p.0 (ap stops_once p.1
        ∙ replies-stop (map start region.ops) (on_output c (region_splits region 0 (item_lists (lists.taken d) 0)))
        (ap stops_once (split-without_cut region c 0 (item_lists (lists.taken d) 0)) ∙ split-stops region c 0 (item_lists (lists.taken d) 0)))

    pushed : (o : ℕ) → slice_get outs o ≡ Some 0 → IsPrefix (items_in (lists.sent e o)) (chain region.ops (cut (item_lists (lists.taken d) 0)))
    pushed o at =
        let items : List Item = merged region.rule region.width (lists.taken e).packets in
        let binds : Binds (net.part e) (lists.taken e) = subst (λ z. Binds z (lists.taken e)) (sym is) (fronts.0, stops) in
        let within : o < outputs (net.part e) = subst (λ z. o < outputs z) (sym is) (slice_get_within outs o 0 at) in
        let sent : IsPrefix (without_cut (lists.sent e o)) (without_cut (on_output o (owed (net.part e) (lists.taken e)))) = (j.elements e size).sends binds o within in
        let owes : items_in (without_cut (on_output o (owed (net.part e) (lists.taken e)))) ≡ merged region.rule region.width (lists.taken e).packets =
        items_in-without_cut (on_output o (owed (net.part e) (lists.taken e)))
        ∙ ap (λ z. items_in (on_output o (owed z (lists.taken e)))) is
        ∙ ap items_in (on_output-send_all outs o 0 (map (output 0) (merged region.rule region.width (lists.taken e).packets)) at)
        ∙ items_in-packets_of (on_port 0 (map (output 0) (merged region.rule region.width (lists.taken e).packets)))
        ∙ on_port-outputs 0 (merged region.rule region.width (lists.taken e).packets) in
        front-trans (items_in (lists.sent e o)) (merged region.rule region.width (lists.taken e).packets) (chain region.ops (cut (item_lists (lists.taken d) 0)))
        (front-left (items_in (lists.sent e o)) (items_in (without_cut (lists.sent e o))) (merged region.rule region.width (lists.taken e).packets) (items_in (without_cut (on_output o (owed (net.part e) (lists.taken e)))))
        (sym (items_in-without_cut (lists.sent e o))) (sym owes) (front-items (without_cut (lists.sent e o)) (without_cut (on_output o (owed (net.part e) (lists.taken e)))) sent))
        (front-left (merged region.rule region.width (lists.taken e).packets) (merged region.rule region.width (clean (lists.taken e).packets)) (chain region.ops (cut (item_lists (lists.taken d) 0))) (chain region.ops (cut (item_lists (lists.taken d) 0)))
        (sym (merged-clean region.rule region.width (lists.taken e).packets)) refl fronts.1)

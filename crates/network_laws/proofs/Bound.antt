-- What each element has taken binds it, at any moment.
use Rattle.std.proofs.Common.{ℕ, ◌<◌, List, ◌≡◌, refl, sym, ap, ◌∙◌, map, arith, subst}
use Rattle.spl_value.specs.Numbered.{stops_once}
use Rattle.stream_model.specs.Stages.{start}
use Rattle.stream_model.specs.Meaning.{Graph}
use Rattle.stream_model.specs.Sending.{on_output}
use Rattle.network_model.specs.Packets.{without_cut}
use Rattle.network_model.specs.Networks.{RegionPart, Part, FromSource, FromLinks, Splitter, Replica, Merger, inputs, Net}
use Rattle.network_model.specs.Owed.{region_splits, item_lists, Binds}
use Rattle.network_model.specs.States.{State}
use Rattle.network_model.specs.Joined.{InProgress, taken_at, lists_of}
use Rattle.network_model.specs.Wiring.{Fed, IsWired, PartFits}
use Rattle.network_model.proofs.Packets.{stops-front}
use Rattle.network_model.proofs.RegionParts.{split-stops, split-without_cut, replies-stop}
use Rattle.network_laws.specs.RegionLaws.{RegionObeys, RegionsObey}
use Rattle.network_laws.proofs.Joining.{wired-net, merger-at, replica-at}
use Rattle.network_laws.proofs.Ending.{progress-state}
use Rattle.network_laws.proofs.Legal.{NetKeeps}
use Rattle.network_laws.proofs.RegionSends.{replica-took, merger-took, region_moment_law}

-- the splitter of a replica, and what links them
pub record SplitterOf (net : Net) (e : ℕ) (region : RegionPart) (c : ℕ) : Type 0 where
  pub fed : Fed net e 0
  pub from : (net.link fed.link).from < net.size
  pub earlier : (net.link fed.link).from < e
  pub is : net.part (net.link fed.link).from ≡ Splitter region
  pub output : (net.link fed.link).output ≡ c

-- the replica of a channel of a merger
pub record ReplicaOf (net : Net) (e : ℕ) (region : RegionPart) (c : ℕ) : Type 0 where
  pub fed : Fed net e c
  pub from : (net.link fed.link).from < net.size
  pub earlier : (net.link fed.link).from < e
  pub is : net.part (net.link fed.link).from ≡ Replica region c
  pub output : (net.link fed.link).output ≡ 0

module _ (g : Graph) (net : Net) (wired : IsWired g net) where
  pub from-below : (l : ℕ) → l < net.links → (net.link l).from < net.size
  from-below l lt = let k = wired.links l lt in let low : (net.link l).from < (net.link l).to = k.earlier in let top : (net.link l).to < net.size = k.within in omega (arith, low, top)

  pub splitter-of : (e : ℕ) (region : RegionPart) (c : ℕ) → e < net.size → net.part e ≡ Replica region c → SplitterOf net e region c
  splitter-of e region c size is = go (wired.fed e 0 size (subst (λ z. 0 < inputs z) (sym is) (omega arith)))
    where
      go : Fed net e 0 → SplitterOf net e region c
      go f =
          let x = replica-at net f.link region c (wired.links f.link f.within) (ap net.part f.to ∙ is) in
          let channel : Replica x.0.region (net.link f.link).output ≡ Replica region c = sym x.0.to ∙ ap net.part f.to ∙ is in
          let low : (net.link f.link).from < (net.link f.link).to = (wired.links f.link f.within).earlier in
          let to : (net.link f.link).to ≡ e = f.to in
          record { fed = f; from = from-below f.link f.within; earlier = omega (arith, low, to); is = x.0.from ∙ ap Splitter x.1; output = cc }

  pub replica-of : (e : ℕ) (region : RegionPart) (outs : List ℕ) (c : ℕ) → e < net.size → net.part e ≡ Merger region outs → c < region.width → ReplicaOf net e region c
  replica-of e region outs c size is lt = go (wired.fed e c size (subst (λ z. c < inputs z) (sym is) lt))
    where
      go : Fed net e c → ReplicaOf net e region c
      go f =
          let x = merger-at net f.link region outs (wired.links f.link f.within) (ap net.part f.to ∙ is) in
          let low : (net.link f.link).from < (net.link f.link).to = (wired.links f.link f.within).earlier in
          let to : (net.link f.link).to ≡ e = f.to in
          record {
            fed = f;
            from = from-below f.link f.within;
            earlier = omega (arith, low, to);
            is = x.0.from ∙ ap (λ z. Replica z (net.link f.link).input) x.1 ∙ ap (Replica region) f.input;
            output = x.0.output;
          }

  -- the splitter of a merger's region
  pub splitter-for : (e : ℕ) (region : RegionPart) (outs : List ℕ) → e < net.size → net.part e ≡ Merger region outs → (d : ℕ) × (d < net.size) × (d < e) × (net.part d ≡ Splitter region)
  splitter-for e region outs size is =
      let some : 0 < region.width = (subst (PartFits g) is (wired.parts e size)).0.some in
      let r : ReplicaOf net e region 0 = replica-of e region outs 0 size is some in
      let s : SplitterOf net (net.link r.fed.link).from region 0 = splitter-of (net.link r.fed.link).from region 0 r.from r.is in
      let low : (net.link r.fed.link).from < e = r.earlier in
      let lower : (net.link s.fed.link).from < (net.link r.fed.link).from = s.earlier in
      ((net.link s.fed.link).from, s.from, omega (arith, low, lower), s.is)

  module _ (st : State) (k : NetKeeps net st) (obey : RegionsObey net) where
    pub progress : InProgress net (lists_of net st)
    progress = progress-state net st (wired-net g net wired) k

    by-part : (e : ℕ) → e < net.size → (part : Part) → net.part e ≡ part → Binds part (taken_at part (st e))
    by-part e size (FromSource source ops outs) is = (k.elements e size).streams
    by-part e size (FromLinks op ops outs) is = tt
    by-part e size (Splitter region) is = tt
    by-part e size (Replica region c) is =
        let s : SplitterOf net e region c = splitter-of e region c size is in
        let p = replica-took g net (lists_of net st) wired progress e (net.link s.fed.link).from region c size s.from is s.is in
        stops-front (without_cut ((taken_at (net.part e) (st e)).packets 0)) p.0 (ap stops_once p.1 ∙ split-stops region c 0 (item_lists ((lists_of net st).taken (net.link s.fed.link).from) 0))
    by-part e size (Merger region outs) is = (
      (region_moment_law g net (lists_of net st) region outs e d.0 wired progress size d.1 is d.3 (law (item_lists ((lists_of net st).taken d.0) 0))).0,
      λ c lt. let p = merger-took g net (lists_of net st) wired progress e d.0 region outs size d.1 is d.3 c lt in
          stops-front (without_cut ((taken_at (net.part e) (st e)).packets c)) p.0 (ap stops_once p.1
          ∙ replies-stop (map start region.ops) (on_output c (region_splits region 0 (item_lists ((lists_of net st).taken d.0) 0)))
          (ap stops_once (split-without_cut region c 0 (item_lists ((lists_of net st).taken d.0) 0)) ∙ split-stops region c 0 (item_lists ((lists_of net st).taken d.0) 0))),
    )
      where
        d : (d : ℕ) × (d < net.size) × (d < e) × (net.part d ≡ Splitter region)
        d = splitter-for e region outs size is

        law : RegionObeys (Merger region outs)
        law = subst RegionObeys is (obey e size)

    pub binds-at : (e : ℕ) → e < net.size → Binds (net.part e) (taken_at (net.part e) (st e))
    binds-at e size = by-part e size (net.part e) refl

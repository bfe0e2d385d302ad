-- Networks that run a checked program by its plan.
use Rattle.std.proofs.Common.{ℕ, ◌<◌, List, ◌≡◌, Some, refl, sym, subst, slice_get}
use Rattle.language_model.specs.CheckedGraph.{CheckedGraph}
use Rattle.stream_model.specs.declared.plan.Region.{Region}
use Rattle.stream_model.specs.CheckedMeaning.{graph_of}
use Rattle.stream_model.specs.Meaning.{Lists, Entries, meaning}
use Rattle.network_model.specs.Networks.{RegionPart, Part, FromSource, FromLinks, Splitter, Replica, Merger, Net}
use Rattle.network_model.specs.Wiring.{PartFits, RegionFits}
use Rattle.network_model.proofs.Packets.{front-same}
use Rattle.region_laws.specs.PlanFronts.{region_sends}
use Rattle.region_laws.proofs.PlanFronts.{plan_front_law, plan_whole_law}
use Rattle.pe_fusion.specs.FusedNets.{fused_net, region_part}
use Rattle.pe_fusion.proofs.Wired.{fused_wired, fused_planned}
use Rattle.network_laws.specs.RegionStreams.{MergerHolds, RegionHolds}
use Rattle.network_laws.specs.RegionLaws.{HasRegionLaw, RegionObeys}
use Rattle.network_laws.specs.PlannedLaws.{RunsPlan, FusedRuns, PlanRegionLaw, RunsObey, RunsHold, RunsSettled, RunsLegal, FusedSettled}
use Rattle.network_laws.proofs.Flowing.{settled_flow_law}
use Rattle.network_laws.proofs.Joining.{settled_law, wired-flowing}
use Rattle.network_laws.proofs.Outcomes.{legal_law}
use Rattle.network_laws.proofs.RegionSends.{holds_law}

pub fused_runs : FusedRuns
fused_runs c plan width capacity keeps is =
    record { keeps = keeps; is_plan = is; wired = fused_wired c plan width capacity keeps is; planned = fused_planned c plan width capacity keeps is }

pub plan_region_law : PlanRegionLaw
plan_region_law c plan i region width items keeps is at some = record {
  fronts = λ went front. plan_front_law c plan i region width items (region_sends region width items) went keeps is at some
      (λ d lt. front-same (region_sends region width items d) (region_sends region width items d) refl) front;
  whole = λ closes. plan_whole_law c plan i region width items keeps is at some closes;
}

module _ (c : CheckedGraph) (plan : List Region) (width : ℕ) (net : Net) (runs : RunsPlan c plan width net) where
  -- the region of a merger is one of the plan, with a channel at least
  pub region-of : (e : ℕ) (part : RegionPart) (outs : List ℕ) → e < net.size → net.part e ≡ Merger part outs
      → (i : ℕ) × (region : Region) × (slice_get plan i ≡ Some region) × (part ≡ region_part (graph_of c) width region) × RegionFits (graph_of c) (region_part (graph_of c) width region)
  region-of e part outs lt is =
      let p = runs.planned e part outs lt is in
      let fits : PartFits (graph_of c) (Merger part outs) = subst (PartFits (graph_of c)) is (runs.wired.parts e lt) in
      (p.0, p.1, p.2, p.3, subst (RegionFits (graph_of c)) p.3 fits.0)

  obeys : (e : ℕ) → e < net.size → (part : Part) → net.part e ≡ part → RegionObeys part
  obeys e lt (FromSource source ops outs) is = tt
  obeys e lt (FromLinks op ops outs) is = tt
  obeys e lt (Splitter region) is = tt
  obeys e lt (Replica region channel) is = tt
  obeys e lt (Merger part outs) is = λ items.
      let r = region-of e part outs lt is in
      subst (λ z. HasRegionLaw z items) (sym r.3) (plan_region_law c plan r.0 r.1 width items runs.keeps runs.is_plan r.2 r.4.some)

  pub runs-hold : (rows : Lists) (entries : Entries) (e : ℕ) → e < net.size → (part : Part) → net.part e ≡ part → RegionHolds (meaning (graph_of c) rows entries) part
  runs-hold rows entries e lt (FromSource source ops outs) is = tt
  runs-hold rows entries e lt (FromLinks op ops outs) is = tt
  runs-hold rows entries e lt (Splitter region) is = tt
  runs-hold rows entries e lt (Replica region channel) is = tt
  runs-hold rows entries e lt (Merger part outs) is =
      let r = region-of e part outs lt is in
      subst (MergerHolds (meaning (graph_of c) rows entries)) (sym r.3)
      (holds_law (graph_of c) rows entries (region_part (graph_of c) width r.1) runs.wired.ordered r.4
      (plan_region_law c plan r.0 r.1 width ((meaning (graph_of c) rows entries).streams (region_part (graph_of c) width r.1).entry) runs.keeps runs.is_plan r.2 r.4.some))

pub runs_obey : RunsObey
runs_obey c plan width net runs e lt = obeys c plan width net runs e lt (net.part e) refl

pub runs_hold : RunsHold
runs_hold c plan width net rows entries runs e lt = runs-hold c plan width net runs rows entries e lt (net.part e) refl

pub runs_settled : RunsSettled
runs_settled c plan width net lists rows entries runs settled under l lt =
    let holds = runs_hold c plan width net rows entries runs in
    let f = wired-flowing (graph_of c) rows entries runs.wired.ordered runs.wired.numbered net lists runs.wired holds under in
    let flows = settled_flow_law net (meaning (graph_of c) rows entries) rows entries lists f settled under l lt in
    (flows.0, flows.1, λ s carries. settled_law (graph_of c) net lists rows entries runs.wired holds settled under l s lt carries)

pub runs_legal : RunsLegal
runs_legal c plan width net list rows entries runs legal under done =
    legal_law (graph_of c) net list rows entries runs.wired (runs_hold c plan width net rows entries runs) legal under done

pub fused_settled : FusedSettled
fused_settled c plan width capacity lists rows entries keeps is settled under l s lt carries =
    (runs_settled c plan width (fused_net (graph_of c) plan width capacity) lists rows entries (fused_runs c plan width capacity keeps is) settled under l lt).2 s carries

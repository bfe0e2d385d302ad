-- Links of networks that run checked programs are proper.
use Rattle.std.proofs.Common.{ℕ, ◌<◌, List, [], ◌∷◌, ◌≡◌, ◌⊎◌, inl, inr, Some, refl, sym, ap, ◌∙◌, subst, slice_get, arith, map}
use Rattle.spl_value.specs.declared.packet.Packet.{Packet}
use Rattle.spl_value.specs.Numbered.{IsProper}
use Rattle.language_model.specs.CheckedGraph.{CheckedGraph}
use Rattle.language_model.specs.StreamTypes.{Attributes}
use Rattle.stream_model.specs.declared.plan.Region.{Region}
use Rattle.stream_model.specs.CheckedMeaning.{graph_of, schema_at}
use Rattle.stream_model.specs.Meaning.{Graph, Lists, Entries, Meaning, meaning}
use Rattle.stream_model.specs.Operators.{Operator, output_attributes}
use Rattle.stream_model.specs.Regions.{ops_of}
use Rattle.stream_model.specs.Sending.{outgoing, on_output}
use Rattle.network_model.specs.Networks.{RegionPart, Part, FromSource, FromLinks, Splitter, Replica, Merger, last_of, outputs, Net}
use Rattle.network_model.specs.Owed.{region_splits, replica_owes}
use Rattle.network_model.specs.Joined.{NetworkLists, InProgress}
use Rattle.network_model.specs.Wiring.{Stands, Path, PartFits, RegionFits, Carries, StreamLink, ReplicaLink, MergerLink, Led}
use Rattle.network_model.specs.Flow.{flows, flow, IsUnder}
use Rattle.network_model.proofs.RegionParts.{on_output-map}
use Rattle.region_laws.specs.RegionProper.{entry_schema, exit_schema}
use Rattle.region_laws.proofs.Propers.{proper_law, types_of}
use Rattle.pe_fusion.specs.FusedNets.{region_part}
use Rattle.pe_fusion.proofs.Checked.{fits_law}
use Rattle.network_laws.specs.Propers.{HasSchema}
use Rattle.network_laws.specs.PlannedLaws.{RunsPlan}
use Rattle.network_model.specs.OutputSchemas.{SchemaOn}
use Rattle.network_laws.specs.SchemaLaws.{RunsProper}
use Rattle.network_laws.proofs.Joining.{wired-net}
use Rattle.network_laws.proofs.Planned.{region-of, runs_hold}
use Rattle.network_laws.proofs.Propers.{stream_proper}

-- ---- the schemas of a region

exit-last : (op : Operator) (ops : List Operator) → exit_schema (op ∷ ops) ≡ output_attributes (last_of op ops) 0
exit-last op [] = refl
exit-last op (next ∷ ops) = exit-last next ops

last-stands : (g : Graph) (op : Operator) (ops : List Operator) → Stands g op → Path g op ops → Stands g (last_of op ops)
last-stands g op [] stands path = stands
last-stands g op (next ∷ ops) stands path = last-stands g next ops path.3 path.5

module _ (c : CheckedGraph) (plan : List Region) (width : ℕ) (net : Net) (runs : RunsPlan c plan width net) where
  there : (op : Operator) → Stands (graph_of c) op → slice_get (graph_of c).ops op.number ≡ Some op
  there op stands = (fits_law c runs.keeps).there op stands

  entry-is : (region : RegionPart) → (fits : RegionFits (graph_of c) region) → entry_schema region.ops ≡ schema_at c region.entry
  entry-is region fits =
      ap entry_schema fits.are ∙ (types_of c runs.keeps fits.op.number fits.op (there fits.op fits.stands)).reads region.entry fits.reads

  exit-is : (region : RegionPart) → (fits : RegionFits (graph_of c) region) → exit_schema region.ops ≡ schema_at c region.exit
  exit-is region fits =
      let last : Operator = last_of fits.op fits.ops in
      let stands : Stands (graph_of c) (last_of fits.op fits.ops) = last-stands (graph_of c) fits.op fits.ops fits.stands fits.path in
      ap exit_schema fits.are ∙ exit-last fits.op fits.ops
      ∙ (types_of c runs.keeps last.number last (there (last_of fits.op fits.ops) stands)).makes region.exit fits.makes

  -- ---- the merger behind a replica, and behind a splitter

  abbrev pub Merged : RegionPart → Type 0
  Merged region = (d : ℕ) × (outs : List ℕ) × (d < net.size) × (net.part d ≡ Merger region outs)

  behind-replica : (e channel : ℕ) (region : RegionPart) → e < net.size → net.part e ≡ Replica region channel → Merged region
  behind-replica e channel region size is = go (runs.wired.led e 0 size (subst (λ z. 0 < outputs z) (sym is) (omega arith)))
    where
      go : Led net e 0 → Merged region
      go led = by (runs.wired.links led.link led.within).ends
        where
          from : net.part (net.link led.link).from ≡ Replica region channel
          from = ap net.part led.from ∙ is

          by : StreamLink net led.link ⊎ (ReplicaLink net led.link ⊎ MergerLink net led.link) → Merged region
          by (inl s) = absurd (subst (λ z. Carries z (net.link led.link).output s.stream) from s.carried)
          by (inr (inl r)) = absurd (let clash : Replica region channel ≡ Splitter r.region = sym from ∙ r.from in cc)
          by (inr (inr m)) =
              let both : Replica region channel ≡ Replica m.region (net.link led.link).input = sym from ∙ m.from in
              let own : m.region ≡ region = cc in
              ((net.link led.link).to, m.outs, (runs.wired.links led.link led.within).within, m.to ∙ ap (λ z. Merger z m.outs) own)

  pub behind-splitter : (e : ℕ) (region : RegionPart) → e < net.size → net.part e ≡ Splitter region → Merged region
  behind-splitter e region size is = go (runs.wired.led e 0 size (subst (λ z. 0 < outputs z) (sym is) (subst (PartFits (graph_of c)) is (runs.wired.parts e size)).some))
    where
      go : Led net e 0 → Merged region
      go led = by (runs.wired.links led.link led.within).ends
        where
          from : net.part (net.link led.link).from ≡ Splitter region
          from = ap net.part led.from ∙ is

          by : StreamLink net led.link ⊎ (ReplicaLink net led.link ⊎ MergerLink net led.link) → Merged region
          by (inl s) = absurd (subst (λ z. Carries z (net.link led.link).output s.stream) from s.carried)
          by (inr (inr m)) = absurd (let clash : Splitter region ≡ Replica m.region (net.link led.link).input = sym from ∙ m.from in cc)
          by (inr (inl r)) =
              let both : Splitter region ≡ Splitter r.region = sym from ∙ r.from in
              let own : r.region ≡ region = cc in
              behind-replica (net.link led.link).to (net.link led.link).output region (runs.wired.links led.link led.within).within
              (r.to ∙ ap (λ z. Replica z (net.link led.link).output) own)

  -- ---- links

  pub from-below : (l : ℕ) → l < net.links → (net.link l).from < net.size
  from-below l lt = let k = runs.wired.links l lt in let low : (net.link l).from < (net.link l).to = k.earlier in let top : (net.link l).to < net.size = k.within in omega (arith, low, top)

  module _ (lists : NetworkLists) (rows : Lists) (entries : Entries) (has : (s : ℕ) → HasSchema (meaning (graph_of c) rows entries) s (schema_at c s))
      (j : InProgress net lists) (under : IsUnder net lists rows entries) where
    m : Meaning
    m = meaning (graph_of c) rows entries

    of-stream : (l s : ℕ) (schema : Attributes) → l < net.links → Carries (net.part (net.link l).from) (net.link l).output s → schema ≡ schema_at c s
        → IsProper schema (flow net rows (meaning (graph_of c) rows entries) l)
    of-stream l s schema lt carries is =
        subst (λ z. IsProper z (flow net rows (meaning (graph_of c) rows entries) l)) (sym is)
        (stream_proper (graph_of c) net lists rows entries (schema_at c s) runs.wired (runs_hold c plan width net rows entries runs) j under l s lt carries (has s))

    both-proper : (region : RegionPart) (d : ℕ) → Merged region → d < region.width
        → IsProper (schema_at c region.entry) (on_output d (region_splits region 0 ((meaning (graph_of c) rows entries).streams region.entry)))
        × IsProper (schema_at c region.exit) (replica_owes region ((meaning (graph_of c) rows entries).streams region.entry) d)
    both-proper region d merged lt =
        let r = region-of c plan width net runs merged.0 region merged.1 merged.2 merged.3 in
        let part : RegionPart = region_part (graph_of c) width r.1 in
        let entry : entry_schema (ops_of (graph_of c) r.1.ops) ≡ schema_at c part.entry = entry-is (region_part (graph_of c) width r.1) r.4 in
        let exit : exit_schema (ops_of (graph_of c) r.1.ops) ≡ schema_at c part.exit = exit-is (region_part (graph_of c) width r.1) r.4 in
        let within : d < part.width = subst (λ z. d < z.width) r.3 lt in
        let p = proper_law c plan r.0 r.1 width d ((meaning (graph_of c) rows entries).streams part.entry) runs.keeps runs.is_plan r.2 within
        (subst (λ z. HasSchema (meaning (graph_of c) rows entries) part.entry z) (sym entry) (has part.entry)) in
        subst (λ z. IsProper (schema_at c z.entry) (on_output d (region_splits z 0 ((meaning (graph_of c) rows entries).streams z.entry)))
        × IsProper (schema_at c z.exit) (replica_owes z ((meaning (graph_of c) rows entries).streams z.entry) d)) (sym r.3) (
          subst (λ z. IsProper z (on_output d (region_splits part 0 ((meaning (graph_of c) rows entries).streams part.entry)))) entry p.0,
          subst (λ z. IsProper z (replica_owes part ((meaning (graph_of c) rows entries).streams part.entry) d)) exit p.1,
        )

    by-part : (l : ℕ) (schema : Attributes) → l < net.links → (part : Part) → net.part (net.link l).from ≡ part → SchemaOn c part (net.link l).output schema
        → IsProper schema (flow net rows (meaning (graph_of c) rows entries) l)
    by-part l schema lt (FromSource source ops outs) is on = of-stream l on.0 schema lt (subst (λ z. Carries z (net.link l).output on.0) (sym is) on.1) on.2
    by-part l schema lt (FromLinks op ops outs) is on = of-stream l on.0 schema lt (subst (λ z. Carries z (net.link l).output on.0) (sym is) on.1) on.2
    by-part l schema lt (Merger region outs) is on = of-stream l on.0 schema lt (subst (λ z. Carries z (net.link l).output on.0) (sym is) on.1) on.2
    by-part l schema lt (Splitter region) is on =
        let within : (net.link l).output < region.width = subst (λ z. (net.link l).output < outputs z) is ((wired-net (graph_of c) net runs.wired).output l lt) in
        let p = (both-proper region (net.link l).output (behind-splitter (net.link l).from region (from-below l lt) is) within).0 in
        let carries : flow net rows (meaning (graph_of c) rows entries) l ≡ on_output (net.link l).output (region_splits region 0 ((meaning (graph_of c) rows entries).streams region.entry)) =
        ap (λ z. on_output (net.link l).output (flows rows (meaning (graph_of c) rows entries) z)) is in
        subst (λ z. IsProper z (flow net rows (meaning (graph_of c) rows entries) l)) (sym on) (subst (IsProper (schema_at c region.entry)) (sym carries) p)
    by-part l schema lt (Replica region channel) is on =
        let fits : PartFits (graph_of c) (Replica region channel) = subst (PartFits (graph_of c)) is (runs.wired.parts (net.link l).from (from-below l lt)) in
        let p = (both-proper region channel (behind-replica (net.link l).from channel region (from-below l lt) is) fits.1).1 in
        let within : (net.link l).output < 1 = subst (λ z. (net.link l).output < outputs z) is ((wired-net (graph_of c) net runs.wired).output l lt) in
        let first : (net.link l).output ≡ 0 = omega (arith, within) in
        let sent : List Packet = replica_owes region ((meaning (graph_of c) rows entries).streams region.entry) channel in
        let carries : flow net rows (meaning (graph_of c) rows entries) l ≡ replica_owes region ((meaning (graph_of c) rows entries).streams region.entry) channel =
        ap (λ z. on_output (net.link l).output (flows rows (meaning (graph_of c) rows entries) z)) is
        ∙ ap (λ z. on_output z (map (outgoing 0) sent)) first ∙ on_output-map 0 sent in
        subst (λ z. IsProper z (flow net rows (meaning (graph_of c) rows entries) l)) (sym on) (subst (IsProper (schema_at c region.exit)) (sym carries) p)

pub runs_proper : RunsProper
runs_proper c plan width net lists rows entries runs has j under l schema lt on =
    by-part c plan width net runs lists rows entries has j under l schema lt (net.part (net.link l).from) refl on

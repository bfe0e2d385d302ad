-- What a checked graph, its plan and a width make an element of fits.
use Rattle.std.proofs.Common.{ℕ, ◌<◌, ◌≤◌, ◌^◌, List, [], ◌∷◌, ◌≡◌, refl, sym, ap, ◌∙◌, subst, arith, length, replicate, is_some, None, Some, slice_get}
use Rattle.std.proofs.lemmas.List.{length-replicate}
use Rattle.std.proofs.lemmas.Option.{slice_get_within}
use Rattle.language_model.specs.CheckedGraph.{CheckedGraph}
use Rattle.language_model.specs.Keeping.{Keeps}
use Rattle.language_model.specs.StreamTypes.{Attributes}
use Rattle.stream_model.specs.declared.plan.Region.{Region}
use Rattle.stream_model.specs.declared.shape.Role.TheVariants as L
use Rattle.stream_model.specs.declared.shape.ShapeElement.{ShapeElement}
use Rattle.stream_model.specs.CheckedMeaning.{graph_of, schema_at}
use Rattle.stream_model.specs.Fans.{ports_of_fans}
use Rattle.stream_model.specs.Operators.{Operator, connections, input_attributes, ports, ports_from}
use Rattle.stream_model.specs.parts.Operators.{port_at}
use Rattle.stream_model.specs.Regions.{IsPlan}
use Rattle.stream_model.specs.Replies.{ItemHas}
use Rattle.stream_model.specs.Stream.{Event}
use Rattle.network_model.specs.Networks.{RegionPart, Part, FromSource, FromLinks, Splitter, Replica, Merger, last_of}
use Rattle.network_model.specs.Wiring.{PartFits, Path, Stands}
use Rattle.pe_fusion.specs.ElementPorts.{channels_of, connections_of_outs, fans_by, ins_by, ports_of, read_schemas}
use Rattle.pe_fusion.specs.FusedNets.{fused_net}
use Rattle.pe_fusion.specs.ShapeLaws.{OfRegion, Tells}
use Rattle.pe_fusion.specs.Shapes.{numbers, shape_of}
use Rattle.pe_fusion.proofs.Checked.{fits_law}
use Rattle.pe_fusion.proofs.FusedElements.{elements_law}
use Rattle.pe_fusion.proofs.Numbered.{get-map}
use Rattle.pe_fusion.proofs.Wired.{fused_wired}
use Rattle.element_notes.specs.Endings.{last_in}
use Rattle.element_outboxes.specs.Waiting.{outputs_in}
use Rattle.element_works.specs.Works.{HasFans}
use Rattle.elements.specs.declared.part.ElementPart.{ElementPart}
use Rattle.elements.specs.declared.work.Work.{Work}
use Rattle.elements.specs.declared.work.Work.TheVariants as W
use Rattle.elements.specs.New.{HasNumbers, IsNew, NewWork}
use Rattle.elements.specs.Suiting.{AreFused, Suits}
use Rattle.element_laws.specs.Made.{FitLaw, HasPorts, IsNewWork}
use Rattle.element_laws.proofs.Operators.{counts-are, fans-count, few-counts, fused-path, has-source, last-few, ones-sum, ports-of-fans, reads-are, reads-count, takes-schema}
use Rattle.element_laws.proofs.Silent.{links-fans, source-fans, source-gives}
use Rattle.element_laws.proofs.Regions.{channels, entry-is, region-ids}
use Rattle.element_laws.proofs.Routes.{routes-key}

-- ---- work

module _ {R : Type 0} (spec : R → Operator) (stands : R → List Event → Type 0) where
  source-work : (source : Operator) (ops : List Operator) (outs fans : List ℕ) (work : Work R) → HasFans (FromSource source ops outs) fans → IsNewWork spec stands (FromSource source ops outs) work
      → NewWork spec stands (FromSource source ops outs) work fans
  source-work source ops outs fans (W.Chain chain) has new = (new, has)
  source-work source ops outs fans (W.Replica chain) has new = absurd new
  source-work source ops outs fans (W.Splitter s) has new = absurd new
  source-work source ops outs fans (W.Turns m) has new = absurd new
  source-work source ops outs fans (W.Numbers m) has new = absurd new
  source-work source ops outs fans (W.Pulses m) has new = absurd new

  links-work : (op : Operator) (ops : List Operator) (outs fans : List ℕ) (work : Work R) → HasFans (FromLinks op ops outs) fans → IsNewWork spec stands (FromLinks op ops outs) work
      → NewWork spec stands (FromLinks op ops outs) work fans
  links-work op ops outs fans (W.Chain chain) has new = (new, has)
  links-work op ops outs fans (W.Replica chain) has new = absurd new
  links-work op ops outs fans (W.Splitter s) has new = absurd new
  links-work op ops outs fans (W.Turns m) has new = absurd new
  links-work op ops outs fans (W.Numbers m) has new = absurd new
  links-work op ops outs fans (W.Pulses m) has new = absurd new

  splitter-work : (region : RegionPart) (fans : List ℕ) (work : Work R) → length fans ≡ region.width → region.width ≤ 16 → IsNewWork spec stands (Splitter region) work → NewWork spec stands (Splitter region) work fans
  splitter-work region fans (W.Splitter s) count low new = (new, count, low)
  splitter-work region fans (W.Chain chain) count low new = absurd new
  splitter-work region fans (W.Replica chain) count low new = absurd new
  splitter-work region fans (W.Turns m) count low new = absurd new
  splitter-work region fans (W.Numbers m) count low new = absurd new
  splitter-work region fans (W.Pulses m) count low new = absurd new

  replica-work : (region : RegionPart) (channel : ℕ) (fans : List ℕ) (work : Work R) → IsNewWork spec stands (Replica region channel) work → NewWork spec stands (Replica region channel) work fans
  replica-work region channel fans (W.Replica chain) new = new
  replica-work region channel fans (W.Chain chain) new = absurd new
  replica-work region channel fans (W.Splitter s) new = absurd new
  replica-work region channel fans (W.Turns m) new = absurd new
  replica-work region channel fans (W.Numbers m) new = absurd new
  replica-work region channel fans (W.Pulses m) new = absurd new

  merger-work : (region : RegionPart) (outs fans : List ℕ) (work : Work R) → outs ≡ ports_of_fans fans → 0 < region.width → IsNewWork spec stands (Merger region outs) work → NewWork spec stands (Merger region outs) work fans
  merger-work region outs fans (W.Turns m) are some new = (new.0, new.1, are, some)
  merger-work region outs fans (W.Numbers m) are some new = (new.0, new.1, are, some)
  merger-work region outs fans (W.Pulses m) are some new = (new.0, new.1, are, some)
  merger-work region outs fans (W.Chain chain) are some new = absurd new
  merger-work region outs fans (W.Replica chain) are some new = absurd new
  merger-work region outs fans (W.Splitter s) are some new = absurd new

module _ {R : Type 0} (spec : R → Operator) (stands : R → List Event → Type 0) (c : CheckedGraph) (k : Keeps c) (plan : List Region) (width : ℕ) (is : IsPlan (graph_of c) plan) (low : width ≤ 16) where
  few-channels : (region : RegionPart) (e : ShapeElement) → OfRegion c plan width region e → region.width ≤ 16
  few-channels region e o = subst (λ n. n ≤ 16) (ap (λ (r : RegionPart). r.width) (sym o.runs)) low

  -- ---- parts

  few-outs : (outs fans : List ℕ) → outs ≡ ports_of_fans fans → outputs_in fans < 2 ^ 32 → length outs < 2 ^ 32
  few-outs outs fans are few = subst (λ n. n < 2 ^ 32) (sym (ap length are ∙ ports-of-fans 0 fans)) few

  ports-count : (op : Operator) (ops : List Operator) (ids fans : List ℕ) → fans ≡ connections_of_outs c ids → ids ≡ numbers (op ∷ ops) → Stands (graph_of c) op → Path (graph_of c) op ops
      → (last : Operator) → Some (last_of op ops) ≡ Some last → length fans ≡ length last.outs
  ports-count op ops ids fans are e stands path last is-last =
      let same : last_of op ops ≡ last = cc in
      ap length are ∙ fans-count c k op ops ids e stands path ∙ ap (λ (o : Operator). length o.outs) same

  few-fans : (op : Operator) (ops : List Operator) (ids fans : List ℕ) → fans ≡ connections_of_outs c ids → ids ≡ numbers (op ∷ ops) → Stands (graph_of c) op → Path (graph_of c) op ops → length fans < 2 ^ 32
  few-fans op ops ids fans are e stands path =
      let count = ap length are ∙ fans-count c k op ops ids e stands path in
      let few = last-few c k op ops stands path in
      let power : 2 ^ 32 ≡ 4294967296 = refl in
      omega (arith, count, few, power)

  has-numbers : (part : Part) (e : ShapeElement) (made : ElementPart R) → PartFits (graph_of c) part → Tells c plan width part e → HasPorts made (ports_of c plan width e) → HasNumbers part made
  has-numbers (FromSource source ops outs) e made f t p =
      let fans : made.fans ≡ connections_of_outs c e.ids = p.fans ∙ ap (λ r. fans_by c r (channels_of plan width e.region) e.ids) t.0 in record {
        ids = p.ids ∙ t.2;
        ports = ports-count source ops e.ids made.fans fans t.2 f.stands f.path;
      }
  has-numbers (FromLinks op ops outs) e made f t p =
      let fans : made.fans ≡ connections_of_outs c e.ids = p.fans ∙ ap (λ r. fans_by c r (channels_of plan width e.region) e.ids) t.0 in record {
        ids = p.ids ∙ t.2;
        ports = ports-count op ops e.ids made.fans fans t.2 f.stands f.path;
      }
  has-numbers (Splitter region) e made f t p = record {
    ids = p.ids ∙ region-ids c k plan width is region e f t.1 ∙ ap numbers (sym f.are);
    ports = λ last none. absurd (let clash : None ≡ Some last = none in cc);
  }
  has-numbers (Replica region channel) e made f t p = record {
    ids = p.ids ∙ region-ids c k plan width is region e f.0 t.1 ∙ ap numbers (sym f.0.are);
    ports = λ last none. absurd (let clash : None ≡ Some last = none in cc);
  }
  has-numbers (Merger region outs) e made f t p =
      let o = t.1 in
      let own = f.0 in
      let ids = region-ids c k plan width is region e own o in
      let fans : made.fans ≡ connections_of_outs c e.ids = p.fans ∙ ap (λ r. fans_by c r (channels_of plan width e.region) e.ids) t.0 in record {
        ids = p.ids ∙ ids ∙ ap numbers (sym own.are);
        ports = λ last is-last. ports-count own.op own.ops e.ids made.fans fans ids own.stands own.path last (sym (ap last_in own.are) ∙ is-last);
      }

  few-ports : (part : Part) (e : ShapeElement) (made : ElementPart R) → PartFits (graph_of c) part → Tells c plan width part e → HasPorts made (ports_of c plan width e) → length made.fans < 2 ^ 32
  few-ports (FromSource source ops outs) e made f t p =
      few-fans source ops e.ids made.fans (p.fans ∙ ap (λ r. fans_by c r (channels_of plan width e.region) e.ids) t.0) t.2 f.stands f.path
  few-ports (FromLinks op ops outs) e made f t p =
      few-fans op ops e.ids made.fans (p.fans ∙ ap (λ r. fans_by c r (channels_of plan width e.region) e.ids) t.0) t.2 f.stands f.path
  few-ports (Splitter region) e made f t p =
      let o = t.1 in
      let wide = channels c k plan width is region e o in
      let fans : made.fans ≡ replicate region.width 1 = p.fans ∙ ap (λ r. fans_by c r (channels_of plan width e.region) e.ids) t.0 ∙ ap (λ n. replicate n 1) wide in
      let most = few-channels region e o in
      let count : length made.fans ≡ region.width = ap length fans ∙ length-replicate region.width 1 in
      let power : 2 ^ 32 ≡ 4294967296 = refl in
      omega (arith, count, most, power)
  few-ports (Replica region channel) e made f t p =
      let fans : made.fans ≡ 1 ∷ [] = p.fans ∙ ap (λ r. fans_by c r (channels_of plan width e.region) e.ids) t.0 in
      let count : length made.fans ≡ 1 = ap length fans in
      let power : 2 ^ 32 ≡ 4294967296 = refl in
      omega (arith, count, power)
  few-ports (Merger region outs) e made f t p =
      few-fans f.0.op f.0.ops e.ids made.fans (p.fans ∙ ap (λ r. fans_by c r (channels_of plan width e.region) e.ids) t.0) (region-ids c k plan width is region e f.0 t.1) f.0.stands f.0.path

  made-fits : (part : Part) (e : ShapeElement) (made : ElementPart R) → PartFits (graph_of c) part → Tells c plan width part e → HasPorts made (ports_of c plan width e) → IsNewWork spec stands part made.work
      → IsNew spec stands part made × Suits part made.ins
  made-fits (FromSource source ops outs) e made f t p new =
      let ids = t.2 in
      let ins : made.ins ≡ read_schemas c e.ids = p.ins ∙ ap (λ r. ins_by c r (channels_of plan width e.region) e.ids) t.0 in
      let fans : made.fans ≡ connections_of_outs c e.ids = p.fans ∙ ap (λ r. fans_by c r (channels_of plan width e.region) e.ids) t.0 in
      let are : outs ≡ ports_of_fans made.fans = t.3 ∙ ap ports_of_fans (sym p.fans) in
      let few : outputs_in made.fans < 2 ^ 32 = subst (λ ns. outputs_in ns < 2 ^ 32) (sym fans) (few-counts c k source ops e.ids ids f.stands f.path) in (
        record {
          input_count = ap length ins ∙ reads-count c k source ops e.ids ids f.stands ∙ ap (λ xs. length (ports_from 0 xs)) ((fits_law c k).no_input source f.stands f.reads);
          output_count = sym (ap length are ∙ ports-of-fans 0 made.fans);
          few = few-outs outs made.fans are few;
          sourced = ap is_some p.source ∙ has-source c k source ops e.ids ids f.stands ∙ f.reads;
          new_work = source-work spec stands source ops outs made.fans made.work (source-fans c k source ops outs made.fans f are (fans ∙ counts-are c k source ops e.ids ids f.stands f.path)) new;
        },
        subst (λ types. AreFused types ops) (source-gives source.clauses f.reads source 0) (fused-path c k source ops f.stands f.path),
      )
  made-fits (FromLinks op ops outs) e made f t p new =
      let ids = t.2 in
      let ins : made.ins ≡ read_schemas c e.ids = p.ins ∙ ap (λ r. ins_by c r (channels_of plan width e.region) e.ids) t.0 in
      let fans : made.fans ≡ connections_of_outs c e.ids = p.fans ∙ ap (λ r. fans_by c r (channels_of plan width e.region) e.ids) t.0 in
      let are : outs ≡ ports_of_fans made.fans = t.3 ∙ ap ports_of_fans (sym p.fans) in
      let few : outputs_in made.fans < 2 ^ 32 = subst (λ ns. outputs_in ns < 2 ^ 32) (sym fans) (few-counts c k op ops e.ids ids f.stands f.path) in (
        record {
          input_count = ap length ins ∙ reads-count c k op ops e.ids ids f.stands;
          output_count = sym (ap length are ∙ ports-of-fans 0 made.fans);
          few = few-outs outs made.fans are few;
          sourced = ap is_some p.source ∙ has-source c k op ops e.ids ids f.stands ∙ f.no_source;
          new_work = links-work spec stands op ops outs made.fans made.work (links-fans c k op ops outs made.fans f are (fans ∙ counts-are c k op ops e.ids ids f.stands f.path)) new;
        },
        (fused-path c k op ops f.stands f.path, λ i s at. input-has op ops e.ids ids f.stands i s (ap (λ ss. slice_get ss i) (sym ins) ∙ at)),
      )
    where
      input-has : (op : Operator) (ops : List Operator) (ns : List ℕ) → ns ≡ numbers (op ∷ ops) → Stands (graph_of c) op → (i : ℕ) (s : Attributes) → slice_get (read_schemas c ns) i ≡ Some s
          → s ≡ input_attributes op (port_at (ports op) i)
      input-has op ops ns ids standing i s at =
          let x = get-map (schema_at c) (connections op) i s (ap (λ ss. slice_get ss i) (sym (reads-are c k op ops ns ids standing)) ∙ at) in
          sym x.2 ∙ sym (takes-schema c k op i x.0 standing x.1)
  made-fits (Splitter region) e made f t p new =
      let o = t.1 in
      let wide = channels c k plan width is region e o in
      let ins : made.ins ≡ read_schemas c e.ids = p.ins ∙ ap (λ r. ins_by c r (channels_of plan width e.region) e.ids) t.0 in
      let fans : made.fans ≡ replicate region.width 1 = p.fans ∙ ap (λ r. fans_by c r (channels_of plan width e.region) e.ids) t.0 ∙ ap (λ n. replicate n 1) wide in
      let most = few-channels region e o in (
        record {
          input_count = ap length ins ∙ reads-count c k f.op f.ops e.ids (region-ids c k plan width is region e f o) f.stands ∙ ap (λ xs. length (ports_from 0 xs)) f.reads;
          output_count = ap outputs_in fans ∙ ones-sum region.width;
          few = (let power : 2 ^ 32 ≡ 4294967296 = refl in omega (arith, most, power));
          sourced = ap is_some p.source ∙ has-source c k f.op f.ops e.ids (region-ids c k plan width is region e f o) f.stands ∙ f.no_source;
          new_work = splitter-work spec stands region made.fans made.work (ap length fans ∙ length-replicate region.width 1) most new;
        },
        λ s x at has. (
            let entry : input_attributes f.op 0 ≡ s = entry-is c k plan width is region e f o s (ap (λ ss. slice_get ss 0) (sym ins) ∙ at) in
            routes-key c k plan is width region o.place o.region o.at o.runs f.op f.ops f.are x (subst (λ types. ItemHas types x) (sym entry) has)),
      )
  made-fits (Replica region channel) e made f t p new =
      let o = t.1 in
      let own = f.0 in
      let ins : made.ins ≡ read_schemas c e.ids = p.ins ∙ ap (λ r. ins_by c r (channels_of plan width e.region) e.ids) t.0 in
      let fans : made.fans ≡ 1 ∷ [] = p.fans ∙ ap (λ r. fans_by c r (channels_of plan width e.region) e.ids) t.0 in (
        record {
          input_count = ap length ins ∙ reads-count c k own.op own.ops e.ids (region-ids c k plan width is region e own o) own.stands ∙ ap (λ xs. length (ports_from 0 xs)) own.reads;
          output_count = ap outputs_in fans;
          few = (let power : 2 ^ 32 ≡ 4294967296 = refl in omega (arith, power));
          sourced = ap is_some p.source ∙ has-source c k own.op own.ops e.ids (region-ids c k plan width is region e own o) own.stands ∙ own.no_source;
          new_work = replica-work spec stands region channel made.fans made.work new;
        },
        λ s at. subst (AreFused s) (sym own.are) (entry-is c k plan width is region e own o s (ap (λ ss. slice_get ss 0) (sym ins) ∙ at), (region.entry, own.reads), fused-path c k own.op own.ops own.stands own.path),
      )
  made-fits (Merger region outs) e made f t p new =
      let o = t.1 in
      let own = f.0 in
      let wide = channels c k plan width is region e o in
      let ids = region-ids c k plan width is region e own o in
      let fans : made.fans ≡ connections_of_outs c e.ids = p.fans ∙ ap (λ r. fans_by c r (channels_of plan width e.region) e.ids) t.0 in
      let are : outs ≡ ports_of_fans made.fans = t.2 ∙ ap ports_of_fans (sym p.fans) in
      let few : outputs_in made.fans < 2 ^ 32 = subst (λ ns. outputs_in ns < 2 ^ 32) (sym fans) (few-counts c k own.op own.ops e.ids ids own.stands own.path) in (
        record {
          input_count = ap length (p.ins ∙ ap (λ r. ins_by c r (channels_of plan width e.region) e.ids) t.0) ∙ length-replicate (channels_of plan width e.region) _ ∙ wide;
          output_count = sym (ap length are ∙ ports-of-fans 0 made.fans);
          few = few-outs outs made.fans are few;
          sourced = ap is_some p.source ∙ has-source c k own.op own.ops e.ids ids own.stands ∙ own.no_source;
          new_work = merger-work spec stands region outs made.fans made.work are own.some new;
        },
        tt,
      )

pub fit_law : {R : Type 0} (spec : R → Operator) (stands : R → List Event → Type 0) → FitLaw spec stands
fit_law spec stands c plan width n capacity made k is low m =
    let told = elements_law c plan width capacity k is in
    let within = slice_get_within (shape_of (graph_of c) plan width).elements n m.element m.at in
    let many = told.many in
    let part = (fused_net (graph_of c) plan width capacity).part n in
    let fit = (fused_wired c plan width capacity k is).parts n (omega (arith, within, many)) in
    let tells = told.each n m.element m.at in
    let new = made-fits spec stands c k plan width is low part m.element made fit tells m.ports m.work in (
      new.0,
      has-numbers spec stands c k plan width is low part m.element made fit tells m.ports,
      few-ports spec stands c k plan width is low part m.element made fit tells m.ports,
      new.1,
    )

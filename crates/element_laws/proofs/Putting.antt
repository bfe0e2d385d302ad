-- What an element puts is proper.
use Rattle.std.proofs.Common.{ℕ, zero, suc, ◌<◌, ◌≤◌, ◌==◌, nat_le, Bool, true, false, cond, List, [], ◌∷◌, ◌++◌, ◌≡◌, ◌⊎◌, inl, inr, refl, sym, ap, ◌∙◌, subst, append-nil, arith, length, map, replicate, Some, slice_get}
use Rattle.std.specs.List.{AllByRecursion, concat, list_all}
use Rattle.std.proofs.lemmas.Bool.{and_parts, cases_lt, eqb-true}
use Rattle.std.proofs.lemmas.Option.{slice_get_within}
use Rattle.spl_value.proofs.Lists.{get_below}
use Rattle.spl_value.specs.declared.item.Item.{Item}
use Rattle.spl_value.specs.declared.packet.Packet.{Packet}
use Rattle.spl_value.specs.declared.packet.Packet.TheVariants as P
use Rattle.spl_value.specs.Numbered.{IsProper, item_fits, merged, stops_once}
use Rattle.language_model.specs.CheckedGraph.{CheckedGraph}
use Rattle.language_model.specs.Keeping.{Keeps}
use Rattle.language_model.specs.StreamTypes.{Attributes}
use Rattle.language_model.specs.declared.outs.Output.{Output}
use Rattle.list_engine.proofs.Ports.{input_count, mapped}
use Rattle.stream_model.specs.declared.plan.Region.{Region}
use Rattle.stream_model.specs.declared.shape.Role.TheVariants as L
use Rattle.stream_model.specs.declared.shape.ShapeElement.{ShapeElement}
use Rattle.stream_model.specs.Bodies.{output}
use Rattle.stream_model.specs.Chains.{onward, passed}
use Rattle.stream_model.specs.CheckedMeaning.{graph_of, schema_at}
use Rattle.stream_model.specs.Operators.{Operator, connections, output_attributes, ports}
use Rattle.stream_model.specs.Regions.{IsPlan, has_pulses, ops_of}
use Rattle.stream_model.specs.Replies.{given_attributes}
use Rattle.stream_model.specs.Sending.{on_output, replies}
use Rattle.stream_model.specs.Stages.{on_port, start}
use Rattle.stream_model.specs.Stream.{Event, TuplesFit}
use Rattle.stream_schemas.proofs.Coming.{place_is}
use Rattle.network_model.specs.ElementRule.{KeepsRule}
use Rattle.network_model.specs.Networks.{RegionPart, Part, FromSource, FromLinks, Splitter, Replica, Merger, inputs, last_of, outputs}
use Rattle.network_model.specs.OutputSchemas.{SchemaOn}
use Rattle.network_model.specs.Owed.{Binds, given, owed_for, send_all, taken_of}
use Rattle.network_model.specs.Packets.{items_in, packets_of, without_cut}
use Rattle.network_model.specs.PartLaws.{IsPart}
use Rattle.network_model.specs.Receipts.{Receipt, item_events, popped, read_in}
use Rattle.network_model.specs.States.{At}
use Rattle.network_model.specs.Wiring.{Path, PartFits, RegionFits, Stands, is_source}
use Rattle.network_model.proofs.Adds.{given-links}
use Rattle.network_model.proofs.Chains.{on_port-outputs}
use Rattle.network_model.proofs.ElementLists.{pushed-kept, stops-kept_in}
use Rattle.network_model.proofs.Packets.{no_length}
use Rattle.network_model.proofs.Parts.{is-part}
use Rattle.network_model.proofs.Propers.{front-proper, proper-front, proper-part, stops-stream}
use Rattle.network_model.proofs.Receipts.{popped-append}
use Rattle.network_model.proofs.RegionParts.{on_output-map}
use Rattle.network_model.proofs.Sending.{on_output-send_all}
use Rattle.pe_fusion.specs.ElementPorts.{channels_of, ins_by, ports_of, read_schemas}
use Rattle.pe_fusion.specs.FusedNets.{first_stream, fused_net}
use Rattle.pe_fusion.specs.ShapeLaws.{OfRegion, Tells}
use Rattle.pe_fusion.specs.Shapes.{shape_of}
use Rattle.pe_fusion.specs.steps.Building.{last_outs}
use Rattle.pe_fusion.proofs.FusedElements.{elements_law}
use Rattle.pe_fusion.proofs.Numbered.{map-get}
use Rattle.pe_fusion.proofs.Wired.{fused_wired}
use Rattle.region_laws.specs.RegionProper.{exit_schema}
use Rattle.region_laws.proofs.Propers.{AreTyped, replies_proper, sends_proper, typed_region}
use Rattle.region_laws.proofs.Unended.{IsMember}
use Rattle.element_laws.specs.Putting.{OwesLaw, PutsLaw, TookProper}
use Rattle.element_laws.proofs.Fitting.{FitAt, came-fit, events-fit, items-fit, last-fits, packets-fit}
use Rattle.element_laws.proofs.Merged.{merged-all}
use Rattle.element_laws.proofs.Operators.{first-schema, gives-schema, last-outs, last-stands, own, reads-are, takes-schema}
use Rattle.element_laws.proofs.Regions.{channels, region-ids}
use Rattle.element_laws.proofs.Silent.{source-gives}

-- ---- packets

stops-without : (ps : List Packet) → stops_once ps ≡ true → stops_once (without_cut ps) ≡ true
stops-without [] h = refl
stops-without (P.Item n x ∷ ps) h = stops-without ps h
stops-without (P.Pulse n ∷ ps) h = stops-without ps h
stops-without (P.Close ∷ ps) h =
    let none : ps ≡ [] = no_length ps (and_parts (nat_le (length ps) 0) (stops_once ps) h).0 in
    ap (λ (qs : List Packet). stops_once (P.Close ∷ without_cut qs)) none
stops-without (P.Cut ∷ ps) h =
    let none : ps ≡ [] = no_length ps (and_parts (nat_le (length ps) 0) (stops_once ps) h).0 in
    ap (λ (qs : List Packet). stops_once (without_cut qs)) none

-- the packets of a stream of items that fit
stream-proper : (schema : Attributes) (ps : List Packet) (xs : List Item) → ps ≡ packets_of xs → without_cut ps ≡ ps → stops_once ps ≡ true → list_all (item_fits schema) xs ≡ true → IsProper schema ps
stream-proper schema ps xs are clean stops fit =
    proper-front schema ps xs ([], append-nil (without_cut ps) ∙ clean ∙ are) stops (stops-stream xs (ap stops_once (sym are) ∙ stops)) fit

replicate-at : (n : ℕ) (x : Attributes) (i : ℕ) → i < n → slice_get (replicate n x) i ≡ Some x
replicate-at zero x i lt = absurd (omega (arith, lt))
replicate-at (suc n) x zero lt = refl
replicate-at (suc n) x (suc i) lt = replicate-at n x i (omega (arith, lt))

exit-last : (op : Operator) (ops : List Operator) → exit_schema (op ∷ ops) ≡ output_attributes (last_of op ops) 0
exit-last op [] = refl
exit-last op (next ∷ ops) = exit-last next ops

-- ---- one element

module _ (c : CheckedGraph) (k : Keeps c) where
  -- what an element sends of what the last operator of its chain gives
  sent-proper : (part : Part) (outs : List ℕ) (last : Operator) (T : List Receipt) (o s p : ℕ) (schema : Attributes) → IsPart part → Binds part (taken_of part T) → Stands (graph_of c) last → slice_get outs o ≡ Some p
      → owed_for part T ≡ send_all outs (given part (taken_of part T)) → slice_get last.outs p ≡ Some s → schema ≡ schema_at c s
      → TuplesFit (given_attributes last.clauses last p) (on_port p (given part (taken_of part T))) → IsProper schema (on_output o (owed_for part T))
  sent-proper part outs last T o s p schema laws binds stands at owes there same fits =
      stream-proper schema (on_output o (owed_for part T)) (on_port p (given part (taken_of part T)))
      (ap (on_output o) owes ∙ on_output-send_all outs o p (given part (taken_of part T)) at)
      (laws.no_cut (taken_of part T) o) (laws.stops (taken_of part T) o binds)
      (items-fit schema (on_port p (given part (taken_of part T)))
      (subst (λ (types : Attributes). TuplesFit types (on_port p (given part (taken_of part T)))) (gives-schema c k last p s stands there ∙ sym same) fits))

  -- a chain that begins with a source
  source-fits : (source : Operator) (ops : List Operator) (items : List Item) (p : ℕ) → Stands (graph_of c) source → is_source source.clauses ≡ true → Path (graph_of c) source ops → TuplesFit (output_attributes source 0) items
      → TuplesFit (given_attributes (last_of source ops).clauses (last_of source ops) p) (on_port p (passed (map start ops) (map (output 0) items)))
  source-fits source [] items p stands is path h =
      subst (λ (xs : List Item). TuplesFit (given_attributes source.clauses source p) xs) (sym (on_port-outputs p items)) (go (0 == p) refl)
    where
      go : (b : Bool) → (0 == p) ≡ b → TuplesFit (given_attributes source.clauses source p) (cond b items [])
      go true e = subst (λ n. TuplesFit (given_attributes source.clauses source n) items) (eqb-true 0 p e) (subst (λ (types : Attributes). TuplesFit types items) (sym (source-gives source.clauses is source 0)) h)
      go false e = tt
  source-fits source (next ∷ ops) items p stands is path h =
      last-fits c k next ops (onward (map (output 0) items)) p path.3 path.5
      (came-fit c k next path.0 (on_port 0 (map (output 0) items)) path.3 path.2
      (subst (λ (xs : List Item). TuplesFit (schema_at c path.0) xs) (sym (on_port-outputs 0 items))
      (subst (λ (types : Attributes). TuplesFit types items) (sym (source-gives source.clauses is source 0) ∙ gives-schema c k source 0 path.0 stands (ap (λ ss. slice_get ss 0) path.1)) h)))

  exit-is : (region : RegionPart) (f : RegionFits (graph_of c) region) → exit_schema (f.op ∷ f.ops) ≡ schema_at c region.exit
  exit-is region f =
      let last : Operator = last_of f.op f.ops in
      let x = own c k (last_of f.op f.ops) (last-stands c k f.op f.ops f.stands f.path) in
      exit-last f.op f.ops ∙ ap (λ (op : Operator). output_attributes op 0) x.same
      ∙ mapped (schema_at c) x.op.outs 0 region.exit (ap (λ (op : Operator). slice_get op.outs 0) (sym x.same) ∙ ap (λ ss. slice_get ss 0) f.makes)

  module _ (plan : List Region) (width : ℕ) (is : IsPlan (graph_of c) plan) where
    -- the attributes at the inputs of a region
    entry-at : (region : RegionPart) (e : ShapeElement) (f : RegionFits (graph_of c) region) → OfRegion c plan width region e → slice_get (read_schemas c e.ids) 0 ≡ Some (schema_at c region.entry)
    entry-at region e f o =
        ap (λ ss. slice_get ss 0) (reads-are c k f.op f.ops e.ids (region-ids c k plan width is region e f o) f.stands)
        ∙ ap (λ ins. slice_get (map (schema_at c) (concat ins)) 0) f.reads

    binds-it : (part : Part) (e : ShapeElement) (T : List Receipt) → PartFits (graph_of c) part → Tells c plan width part e → TookProper part (ports_of c plan width e).ins T → Binds part (taken_of part T)
    binds-it (FromSource source ops outs) e T f t took = took.rows.0
    binds-it (FromLinks op ops outs) e T f t took = tt
    binds-it (Splitter region) e T f t took = tt
    binds-it (Replica region channel) e T f t took =
        stops-without (popped 0 T) (took.proper 0 (schema_at c region.entry) (ap (λ r. slice_get (ins_by c r (channels_of plan width e.region) e.ids) 0) t.0 ∙ entry-at region e f.0 t.1)).stops
    binds-it (Merger region outs) e T f t took = took.merges

    owes-proper : (part : Part) (e : ShapeElement) (T : List Receipt) → PartFits (graph_of c) part → Tells c plan width part e → TookProper part (ports_of c plan width e).ins T → (o : ℕ) (schema : Attributes) → o < outputs part
        → SchemaOn c part o schema → IsProper schema (on_output o (owed_for part T))
    owes-proper (FromSource source ops outs) e T f t took o schema lt on =
        sent-proper (FromSource source ops outs) outs (last_of source ops) T o on.0 on.1.0 schema (is-part (graph_of c) (FromSource source ops outs) f) took.rows.0
        (last-stands c k source ops f.stands f.path) on.1.1 refl (place_is on.0 (last_of source ops).outs on.1.0 on.1.2) on.2
        (source-fits source ops (read_in T) on.1.0 f.stands f.reads f.path took.rows.1)
    owes-proper (FromLinks op ops outs) e T f t took o schema lt on =
        sent-proper (FromLinks op ops outs) outs (last_of op ops) T o on.0 on.1.0 schema (is-part (graph_of c) (FromLinks op ops outs) f) tt
        (last-stands c k op ops f.stands f.path) on.1.1 refl (place_is on.0 (last_of op ops).outs on.1.0 on.1.2) on.2
        (subst (λ (outputs : List Output). TuplesFit (given_attributes (last_of op ops).clauses (last_of op ops) on.1.0) (on_port on.1.0 outputs)) (sym (given-links op ops outs T))
        (last-fits c k op ops (item_events T) on.1.0 f.stands f.path (events-fit op T (λ i. fit i (cases_lt i (length (ports op)))))))
      where
        fit : (i : ℕ) → (i < length (ports op)) ⊎ (length (ports op) ≤ i) → FitAt op i (items_in (popped i T))
        fit i (inl lt) =
            let count = input_count op in
            let x = get_below (connections op) i (omega (arith, lt, count)) in
            let at : slice_get (ports_of c plan width e).ins i ≡ Some (schema_at c x.0) =
            ap (λ r. slice_get (ins_by c r (channels_of plan width e.region) e.ids) i) t.0 ∙ ap (λ ss. slice_get ss i) (reads-are c k op ops e.ids t.2 f.stands) ∙ map-get (schema_at c) (connections op) i x.0 x.1 in
            inl (
              lt,
              ap (λ (types : Attributes). list_all (item_fits types) (items_in (popped i T))) (takes-schema c k op i x.0 f.stands x.1)
                  ∙ packets-fit (schema_at c x.0) (popped i T) (took.proper i (schema_at c x.0) at).fit,
            )
        fit i (inr le) = inr (ap items_in (took.in_range i le))
    owes-proper (Splitter region) e T f t took o schema lt on =
        let at : slice_get (ports_of c plan width e).ins 0 ≡ Some (schema_at c region.entry) =
        ap (λ r. slice_get (ins_by c r (channels_of plan width e.region) e.ids) 0) t.0 ∙ entry-at region e f t.1 in
        subst (λ (types : Attributes). IsProper types (on_output o (owed_for (Splitter region) T))) (sym on)
        (sends_proper (schema_at c region.entry) region.routing region.width (has_pulses region.rule) o (items_in (popped 0 T)) lt
        (packets-fit (schema_at c region.entry) (popped 0 T) (took.proper 0 (schema_at c region.entry) at).fit))
    owes-proper (Replica region channel) e T f t took o schema lt on =
        let own = f.0 in
        let r = typed_region c plan t.1.place t.1.region k is t.1.at in
        let ops : ops_of (graph_of c) t.1.region.ops ≡ own.op ∷ own.ops = sym (ap (λ (x : RegionPart). x.ops) t.1.runs) ∙ own.are in
        let at : slice_get (ports_of c plan width e).ins 0 ≡ Some (schema_at c region.entry) =
        ap (λ r. slice_get (ins_by c r (channels_of plan width e.region) e.ids) 0) t.0 ∙ entry-at region e own t.1 in
        let first : o ≡ 0 = omega (arith, lt) in
        let sends : on_output o (owed_for (Replica region channel) T) ≡ replies (map start (own.op ∷ own.ops)) (popped 0 T) =
        on_output-map o (replies (map start region.ops) (popped 0 T)) ∙ ap (λ n. cond (0 == n) (replies (map start region.ops) (popped 0 T)) []) first
        ∙ ap (λ os. replies (map start os) (popped 0 T)) own.are in
        subst (λ (types : Attributes). IsProper types (on_output o (owed_for (Replica region channel) T))) (exit-is region own ∙ sym on)
        (subst (IsProper (exit_schema (own.op ∷ own.ops))) (sym sends)
        (replies_proper own.op own.ops (popped 0 T) (subst (AllByRecursion IsMember) ops r.members) (subst AreTyped ops r.typed)
        (subst (λ (types : Attributes). IsProper types (popped 0 T)) (sym (first-schema c k own.op region.entry own.stands own.reads)) (took.proper 0 (schema_at c region.entry) at))))
    owes-proper (Merger region outs) e T f t took o schema lt on =
        let own = f.0 in
        let part : Part = Merger region outs in
        let xs : List Item = merged region.rule region.width (λ d. popped d T) in
        let laws = is-part (graph_of c) (Merger region outs) f in
        let exit : schema_at c (first_stream (last_outs c.graph.ops e.ids)) ≡ schema =
        ap (λ ss. schema_at c (first_stream ss)) (last-outs c k own.op own.ops e.ids (region-ids c k plan width is region e own t.1) own.stands own.path ∙ own.makes) ∙ ap (schema_at c) on.1.1 ∙ sym on.2 in
        let at : (d : ℕ) → d < region.width → slice_get (ports_of c plan width e).ins d ≡ Some schema =
        (λ d low. ap (λ r. slice_get (ins_by c r (channels_of plan width e.region) e.ids) d) t.0
        ∙ ap (λ n. slice_get (replicate n (schema_at c (first_stream (last_outs c.graph.ops e.ids)))) d) (channels c k plan width is region e t.1)
        ∙ replicate-at region.width (schema_at c (first_stream (last_outs c.graph.ops e.ids))) d low ∙ ap (λ x. Some x) exit) in
        stream-proper schema (on_output o (owed_for (Merger region outs) T)) (merged region.rule region.width (λ d. popped d T))
        (on_output-send_all outs o 0 (map (output 0) xs) on.1.0 ∙ ap packets_of (on_port-outputs 0 xs))
        (laws.no_cut (taken_of (Merger region outs) T) o) (laws.stops (taken_of (Merger region outs) T) o took.merges)
        (merged-all (item_fits schema) region.rule region.width (λ d. popped d T) (λ d low. (took.proper d schema (at d low)).fit))

    -- what was pushed is a front of that, perhaps with `Cut` behind it
    puts-proper : (part : Part) (e : ShapeElement) (a : At) → PartFits (graph_of c) part → Tells c plan width part e → KeepsRule part a → TookProper part (ports_of c plan width e).ins a.kept → (o : ℕ) (schema : Attributes) → o < outputs part
        → SchemaOn c part o schema → IsProper schema (on_output o a.pushed)
    puts-proper part e a f t rule took o schema lt on =
        let laws = is-part (graph_of c) part f in
        let front = pushed-kept part a rule took.merges o in
        proper-part schema (on_output o a.pushed) (on_output o (owed_for part a.kept)) (front.0, front.1 ∙ laws.no_cut (taken_of part a.kept) o)
        (stops-kept_in part a laws rule (binds-it part e a.kept f t took) o lt) (owes-proper part e a.kept f t took o schema lt on)

pub owes_law : OwesLaw
owes_law c plan width n capacity e a k is at rule took o schema lt on =
    let told = elements_law c plan width capacity k is in
    let within = slice_get_within (shape_of (graph_of c) plan width).elements n e at in
    let many = told.many in
    puts-proper c k plan width is ((fused_net (graph_of c) plan width capacity).part n) e a ((fused_wired c plan width capacity k is).parts n (omega (arith, within, many))) (told.each n e at) rule took o schema lt on

front_none : {A : Type 0} (xs ys : List A) → xs ++ ys ≡ [] → xs ≡ []
front_none [] ys e = refl
front_none (x ∷ xs) ys e = absurd (cc)

pub puts_law : {R : Type 0} (spec : R → Operator) (stands : R → List Event → Type 0) → PutsLaw spec stands
puts_law spec stands c plan width n capacity e element a poured k is at same standing range rows merges o schema lt on =
    owes_law c plan width n capacity e a k is at standing.spent.rule (record {
      proper = λ i own got.
          front-proper own (popped i a.kept) (popped i a.dropped) (subst (IsProper own) (popped-append i a.kept a.dropped) (standing.spent.proper i own (ap (λ ss. slice_get ss i) same ∙ got)));
      in_range = λ i le. front_none (popped i a.kept) (popped i a.dropped) (sym (popped-append i a.kept a.dropped) ∙ range i le);
      rows = rows;
      merges = merges;
    }) o schema lt on

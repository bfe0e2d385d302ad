-- The elements of a region of a plan: their operators, channels and inputs.
use Rattle.std.proofs.Common.{ℕ, List, [], ◌∷◌, ◌≡◌, sym, ap, ◌∙◌, map, Some, slice_get}
use Rattle.std.specs.List.{concat}
use Rattle.std.specs.Option.{option_map_or}
use Rattle.language_model.specs.CheckedGraph.{CheckedGraph}
use Rattle.language_model.specs.Keeping.{Keeps}
use Rattle.language_model.specs.StreamTypes.{Attributes}
use Rattle.stream_model.specs.declared.plan.Region.{Region}
use Rattle.stream_model.specs.declared.shape.ShapeElement.{ShapeElement}
use Rattle.stream_model.specs.CheckedMeaning.{graph_of, schema_at}
use Rattle.stream_model.specs.Operators.{input_attributes}
use Rattle.stream_model.specs.Regions.{IsPlan, width_of}
use Rattle.network_model.specs.Networks.{RegionPart}
use Rattle.network_model.specs.Wiring.{RegionFits}
use Rattle.pe_fusion.specs.ElementPorts.{channels_of, read_schemas}
use Rattle.pe_fusion.specs.ShapeLaws.{OfRegion}
use Rattle.pe_fusion.specs.Shapes.{numbers}
use Rattle.pe_fusion.proofs.Checked.{fits_law}
use Rattle.pe_fusion.proofs.PlanParts.{region_chain}
use Rattle.element_laws.proofs.Operators.{first-schema, reads-are}

module _ (c : CheckedGraph) (k : Keeps c) (plan : List Region) (width : ℕ) (is : IsPlan (graph_of c) plan) where
  pub region-ids : (region : RegionPart) (e : ShapeElement) (f : RegionFits (graph_of c) region) → OfRegion c plan width region e → e.ids ≡ numbers (f.op ∷ f.ops)
  region-ids region e f o =
      let chain = region_chain (graph_of c) (fits_law c k) plan o.place o.region is o.at in
      o.ids ∙ sym chain.numbers ∙ ap numbers (sym chain.are ∙ ap (λ (r : RegionPart). r.ops) (sym o.runs) ∙ f.are)

  pub channels : (region : RegionPart) (e : ShapeElement) → OfRegion c plan width region e → channels_of plan width e.region ≡ region.width
  channels region e o =
      ap (channels_of plan width) o.here ∙ ap (λ r. option_map_or (λ (x : Region). width_of x width) r 0) o.at ∙ ap (λ (r : RegionPart). r.width) (sym o.runs)

  -- what comes into a region
  pub entry-is : (region : RegionPart) (e : ShapeElement) (f : RegionFits (graph_of c) region) (o : OfRegion c plan width region e) (s : Attributes) → slice_get (read_schemas c e.ids) 0 ≡ Some s → input_attributes f.op 0 ≡ s
  entry-is region e f o s at =
      let one : read_schemas c e.ids ≡ schema_at c region.entry ∷ [] = reads-are c k f.op f.ops e.ids (region-ids region e f o) f.stands ∙ ap (λ ins. map (schema_at c) (concat ins)) f.reads in
      let same : Some (schema_at c region.entry) ≡ Some s = ap (λ ss. slice_get ss 0) (sym one) ∙ at in
      let own : schema_at c region.entry ≡ s = cc in
      first-schema c k f.op region.entry f.stands f.reads ∙ own

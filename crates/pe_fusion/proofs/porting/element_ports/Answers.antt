use Rattle.std.proofs.Common.{◌≡◌, ◌+◌, ◌++◌, ◌∷◌, [], ◌∙◌, List, ℕ, ap, append_assoc, drop, length, map, refl, sym}
use Rattle.spl_value.proofs.Lists.{drop_at}
use Rattle.language_model.specs.CheckedGraph.{CheckedGraph}
use Rattle.stream_model.specs.declared.plan.Region.{Region}
use Rattle.stream_model.specs.declared.shape.Role.{Role}
use Rattle.stream_model.specs.declared.shape.Role.TheVariants as L
use Rattle.stream_model.specs.declared.shape.ShapeElement.{ShapeElement}
use Rattle.stream_model.specs.CheckedMeaning.{graph_of}
use Rattle.pe_fusion.specs.declared.ports.ElementPorts.{ElementPorts}
use Rattle.pe_fusion.specs.ElementPorts.{channels_of, fans_by, ins_by, ports_of, source_of}
use Rattle.pe_fusion.specs.Readers.{readers}
use Rattle.pe_fusion.specs.steps.Building.{last_outs}
use Rattle.pe_fusion.specs.steps.Ports.{counts_in, fans_with, ports_with}
use Rattle.pe_fusion.specs.steps.Reading.{Table, read_by}
use Rattle.pe_fusion.proofs.porting.element_ports.Goals as goal

-- a table with the connections of the graph
abbrev Has : CheckedGraph → Table → Type 0
Has c t = (s : ℕ) → read_by t s ≡ readers (graph_of c) s

counts-same : (c : CheckedGraph) (t : Table) → Has c t → (outs : List ℕ) → counts_in t outs ≡ map (λ s. length (readers (graph_of c) s)) outs
counts-same c t has [] = refl
counts-same c t has (s ∷ outs) =
    ap (λ (rs : List (ℕ × ℕ)). length rs ∷ counts_in t outs) (has s)
    ∙ ap (λ ns. length (readers (graph_of c) s) ∷ ns) (counts-same c t has outs)

fans-same : (c : CheckedGraph) (t : Table) → Has c t → (role : Role) (width : ℕ) (ids : List ℕ) → fans_with t role width (last_outs c.graph.ops ids) ≡ fans_by c role width ids
fans-same c t has L.Chain width ids = counts-same c t has (last_outs c.graph.ops ids)
fans-same c t has L.Splitter width ids = refl
fans-same c t has (L.Replica channel) width ids = refl
fans-same c t has L.Merger width ids = counts-same c t has (last_outs c.graph.ops ids)

ports-same : (c : CheckedGraph) (t : Table) → Has c t → (plan : List Region) (width : ℕ) (e : ShapeElement) → ports_with c plan width t e ≡ ports_of c plan width e
ports-same c t has plan width e =
    ap (λ fans. record { ids = e.ids; ins = ins_by c e.role (channels_of plan width e.region) e.ids; fans = fans; source = source_of c e.ids })
    (fans-same c t has e.role (channels_of plan width e.region) e.ids)

pub ports_of-requires : goal.ports_of-requires
ports_of-requires c = c.in_ok-readers.ensures.few

pub loop-element-preserved : goal.loop-element-preserved
loop-element-preserved c =
    let i : ℕ = c.loop-element.element-index in
    let e : ShapeElement = c.element-item.result in
    let f : ShapeElement → ElementPorts = ports_of c.args.checked.now c.args.plan.now c.args.width in
    let split : drop i c.args.shape.now.elements ≡ e ∷ drop (i + 1) c.args.shape.now.elements =
    ap (λ (es : List ShapeElement). drop i es) (sym c.as_slice-element-items.ensures)
    ∙ drop_at c.as_slice-element-items.result.now i e c.loop-element-test.true c.element-item.is
    ∙ ap (λ (es : List ShapeElement). e ∷ drop (i + 1) es) c.as_slice-element-items.ensures in
    let own : c.in_ok-ports_of.field-0 ≡ f e =
    c.in_ok-ports_of.ensures ∙ ports-same c.args.checked.now c.in_ok-readers.readers c.in_ok-readers.ensures.streams c.args.plan.now c.args.width e in
    ap (λ (all : List ElementPorts). all ++ map f (drop (i + 1) c.args.shape.now.elements)) (c.in_ok-push.ensures.ok ∙ ap (λ (p : ElementPorts). c.loop-element.all ++ p ∷ []) own)
    ∙ append_assoc c.loop-element.all (f e ∷ []) (map f (drop (i + 1) c.args.shape.now.elements))
    ∙ ap (λ es. c.loop-element.all ++ map f es) (sym split)
    ∙ c.loop-element.invariant

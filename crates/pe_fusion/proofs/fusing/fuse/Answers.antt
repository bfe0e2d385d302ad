use Rattle.std.proofs.Common.{◌≡◌, ◌<◌, ◌∙◌, [], List, ℕ, None, Option, ap, refl, length, map, replicate, slice_get, subst, sym, arith}
use Rattle.std.specs.List.{Contains, flat_map}
use Rattle.spl_tree.specs.declared.graph.Graph.{Graph as Tree}
use Rattle.language_model.specs.CheckedGraph.{CheckedGraph}
use Rattle.language_model.specs.Keeping.{Keeps}
use Rattle.stream_model.specs.declared.plan.Region.{Region}
use Rattle.stream_model.specs.declared.shape.ShapeElement.{ShapeElement}
use Rattle.stream_model.specs.CheckedMeaning.{graph_of}
use Rattle.stream_model.specs.Meaning.{Graph}
use Rattle.stream_model.specs.Regions.{IsPlan}
use Rattle.network_model.specs.Networks.{Link}
use Rattle.pe_fusion.specs.Pieces.{pieces_of, replicated}
use Rattle.pe_fusion.specs.Shapes.{elements_of, shape_of}
use Rattle.pe_fusion.specs.declared.regions.OperatorRegion.{OperatorRegion}
use Rattle.pe_fusion.specs.declared.pieces.NumberedPiece.{NumberedPiece}
use Rattle.pe_fusion.specs.steps.Building.{all_elements, all_links, last_outs}
use Rattle.pe_fusion.specs.steps.Placing.{put_all}
use Rattle.pe_fusion.specs.steps.Reading.{Table, read_by}
use Rattle.pe_fusion.specs.steps.Regions.{enter_all}
use Rattle.pe_fusion.specs.steps.Starting.{sizes, start_all}
use Rattle.pe_fusion.proofs.ReadTables.{table_of}
use Rattle.pe_fusion.proofs.Numbered.{numbered}
use Rattle.pe_fusion.proofs.Leaders.{plan-below}
use Rattle.pe_fusion.proofs.FusedShapes.{elements-are, few-elements, few-outs, few-regions, firsts-below, links-are, pieces-are, sizes-are}
use Rattle.pe_fusion.proofs.fusing.fuse.Goals as goal

-- the tables that are made, and the pieces
abbrev table_at : CheckedGraph → List Region → ℕ → List (Option OperatorRegion)
table_at x plan w = enter_all w 0 plan (replicate (length x.graph.ops) None)

abbrev pieces_at : CheckedGraph → List Region → ℕ → List NumberedPiece
pieces_at x plan w = map (numbered (table_at x plan w)) (pieces_of (graph_of x) (replicated w plan))

pieces-made : (x : CheckedGraph) (tree : Tree) → x.graph ≡ tree → (k : Keeps x) (plan : List Region) (w : ℕ) → IsPlan (graph_of x) plan → (readers : Table) (regions : List (Option OperatorRegion)) (pieces : List NumberedPiece)
    → readers ≡ table_of x → regions ≡ enter_all w 0 plan (replicate (length tree.ops) None)
    → pieces ≡ (put_all tree regions readers (record { pieces = []; places = replicate (length tree.ops) None }) tree.topo).pieces
    → pieces ≡ pieces_at x plan w
pieces-made x tree same k plan w is readers regions pieces a b d =
    d
    ∙ ap (λ (y : Tree). (put_all y regions readers (record { pieces = []; places = replicate (length y.ops) None }) y.topo).pieces) (sym same)
    ∙ ap (λ rs. (put_all x.graph rs readers (record { pieces = []; places = replicate (length x.graph.ops) None }) x.graph.topo).pieces) (b ∙ ap (λ (y : Tree). enter_all w 0 plan (replicate (length y.ops) None)) (sym same))
    ∙ ap (λ t. (put_all x.graph (table_at x plan w) t (record { pieces = []; places = replicate (length x.graph.ops) None }) x.graph.topo).pieces) a
    ∙ pieces-are x k plan w is

pub operator_regions-requires-clause-few : goal.operator_regions-requires-clause-few
operator_regions-requires-clause-few c =
    few-regions c.args.checked.now (subst Keeps c.checked.view_is c.checked.invariant) c.args.plan.now c.args.width (c.requires.plan (graph_of c.args.checked.now) refl)

pub operator_regions-requires-clause-within : goal.operator_regions-requires-clause-within
operator_regions-requires-clause-within c = λ i n r at h.
    (let lt = plan-below c.args.checked.now (subst Keeps c.checked.view_is c.checked.invariant) c.args.plan.now c.args.width (c.requires.plan (graph_of c.args.checked.now) refl) i n r at h in
    let same : c.len.result ≡ length c.args.checked.now.graph.ops = c.len.ensures ∙ ap (λ (x : CheckedGraph). length x.graph.ops) c.checked.view_is in
    omega (arith, lt, same))

pub pieces-requires : goal.pieces-requires
pieces-requires c = λ n h.
    (let k : Keeps c.args.checked.now = subst Keeps c.checked.view_is c.checked.invariant in
    let lt = (k.graph.ordered.all n).0 (subst (λ (x : CheckedGraph). Contains x.graph.topo n) c.checked.view_is h) in
    let same : length c.checked.inside.graph.ops ≡ length c.args.checked.now.graph.ops = ap (λ (x : CheckedGraph). length x.graph.ops) c.checked.view_is in
    omega (arith, lt, same))

pub total_size-size-requires : goal.total_size-size-requires
total_size-size-requires c =
    let k : Keeps c.args.checked.now = subst Keeps c.checked.view_is c.checked.invariant in
    let is : IsPlan (graph_of c.args.checked.now) c.args.plan.now = c.requires.plan (graph_of c.args.checked.now) refl in
    let pieces = c.as_slice.ensures ∙ pieces-made c.args.checked.now c.checked.inside.graph (ap (λ (x : CheckedGraph). x.graph) (sym c.checked.view_is)) k c.args.plan.now c.args.width is c.in_ok-readers.readers c.in_ok-regions.regions c.in_ok-pieces.pieces
    c.in_ok-readers.ensures.table (c.in_ok-regions.ensures ∙ ap (λ n. enter_all c.args.width 0 c.args.plan.now (replicate n None)) c.len.ensures) c.in_ok-pieces.ensures in
    subst (λ ps. sizes ps < 4294967296) (sym pieces) (few-elements c.args.checked.now k c.args.plan.now c.args.width is c.requires.width)

size-known : (x : CheckedGraph) (k : Keeps x) (plan : List Region) (w : ℕ) → IsPlan (graph_of x) plan → (pieces : List NumberedPiece) (size : ℕ) → pieces ≡ pieces_at x plan w → size ≡ sizes pieces
    → size ≡ length (elements_of plan (replicated w plan) w (pieces_of (graph_of x) (replicated w plan)))
size-known x k plan w is pieces size same e = e ∙ ap sizes same ∙ sizes-are x k plan w is

pub returns-then-size-gt2048-clause-too_wide : goal.returns-then-size-gt2048-clause-too_wide
returns-then-size-gt2048-clause-too_wide c = λ n g e same.
    (let k : Keeps c.args.checked.now = subst Keeps c.checked.view_is c.checked.invariant in
    let is : IsPlan (graph_of c.args.checked.now) c.args.plan.now = c.requires.plan (graph_of c.args.checked.now) refl in
    let pieces = c.as_slice.ensures ∙ pieces-made c.args.checked.now c.checked.inside.graph (ap (λ (x : CheckedGraph). x.graph) (sym c.checked.view_is)) k c.args.plan.now c.args.width is c.in_ok-readers.readers c.in_ok-regions.regions c.in_ok-pieces.pieces
    c.in_ok-readers.ensures.table (c.in_ok-regions.ensures ∙ ap (λ n. enter_all c.args.width 0 c.args.plan.now (replicate n None)) c.len.ensures) c.in_ok-pieces.ensures in
    let number : c.total_size-size.result ≡ n = cc in
    let known = size-known c.args.checked.now k c.args.plan.now c.args.width is c.as_slice.result.now c.total_size-size.result pieces c.total_size-size.ensures in
    let above = c.if-size-gt2048.true in
    (sym number ∙ known ∙ ap (λ (h : Graph). length (shape_of h c.args.plan.now c.args.width).elements) same, omega (arith, number, above)))

pub starts-requires-clause-within : goal.starts-requires-clause-within
starts-requires-clause-within c = λ i n p at first.
    (let k : Keeps c.args.checked.now = subst Keeps c.checked.view_is c.checked.invariant in
    let is : IsPlan (graph_of c.args.checked.now) c.args.plan.now = c.requires.plan (graph_of c.args.checked.now) refl in
    let pieces = c.as_slice-2.ensures ∙ pieces-made c.args.checked.now c.checked.inside.graph (ap (λ (x : CheckedGraph). x.graph) (sym c.checked.view_is)) k c.args.plan.now c.args.width is c.in_ok-readers.readers c.in_ok-regions.regions c.in_ok-pieces.pieces
    c.in_ok-readers.ensures.table (c.in_ok-regions.ensures ∙ ap (λ n. enter_all c.args.width 0 c.args.plan.now (replicate n None)) c.len.ensures) c.in_ok-pieces.ensures in
    let lt = firsts-below c.args.checked.now k c.args.plan.now c.args.width is i n p (ap (λ ps. slice_get ps i) (sym pieces) ∙ at) first in
    let same : c.len-2.result ≡ length c.args.checked.now.graph.ops = c.len-2.ensures ∙ ap (λ (x : CheckedGraph). length x.graph.ops) c.checked.view_is in
    omega (arith, lt, same))

pub links-requires-clause-outs : goal.links-requires-clause-outs
links-requires-clause-outs c = λ i p at.
    (let k : Keeps c.args.checked.now = subst Keeps c.checked.view_is c.checked.invariant in
    let is : IsPlan (graph_of c.args.checked.now) c.args.plan.now = c.requires.plan (graph_of c.args.checked.now) refl in
    let pieces = c.as_slice-4.ensures ∙ pieces-made c.args.checked.now c.checked.inside.graph (ap (λ (x : CheckedGraph). x.graph) (sym c.checked.view_is)) k c.args.plan.now c.args.width is c.in_ok-readers.readers c.in_ok-regions.regions c.in_ok-pieces.pieces
    c.in_ok-readers.ensures.table (c.in_ok-regions.ensures ∙ ap (λ n. enter_all c.args.width 0 c.args.plan.now (replicate n None)) c.len.ensures) c.in_ok-pieces.ensures in
    let few = few-outs c.args.checked.now k c.args.plan.now c.args.width is i p (ap (λ ps. slice_get ps i) (sym pieces) ∙ at) in
    let tables : c.in_ok-readers.readers ≡ table_of c.args.checked.now = c.in_ok-readers.ensures.table in
    let one = subst (λ t. length (flat_map (read_by t) (last_outs c.args.checked.now.graph.ops p.ids)) < 4294967296) (sym tables) few in
    subst (λ (x : CheckedGraph). length (flat_map (read_by c.in_ok-readers.readers) (last_outs x.graph.ops p.ids)) < 4294967296) (sym c.checked.view_is) one)

shape-made : (x : CheckedGraph) (tree : Tree) → x.graph ≡ tree → (k : Keeps x) (plan : List Region) (w : ℕ) (is : IsPlan (graph_of x) plan) (readers : Table) (starts : List ℕ) (pieces : List NumberedPiece) (elements : List ShapeElement) (links : List Link)
    → readers ≡ table_of x → pieces ≡ pieces_at x plan w → starts ≡ start_all (replicate (length tree.ops) 0) 0 pieces
    → elements ≡ all_elements pieces → links ≡ all_links tree.ops starts readers 0 pieces
    → record { elements = elements; links = links } ≡ shape_of (graph_of x) plan w
shape-made x tree same k plan w is readers starts pieces elements links a b d e f =
    let begun : starts ≡ start_all (replicate (length x.graph.ops) 0) 0 (pieces_at x plan w) =
    d ∙ ap (λ (y : Tree). start_all (replicate (length y.ops) 0) 0 pieces) (sym same) ∙ ap (start_all (replicate (length x.graph.ops) 0) 0) b in
    let es : elements ≡ elements_of plan (replicated w plan) w (pieces_of (graph_of x) (replicated w plan)) = e ∙ ap all_elements b ∙ elements-are x k plan w is in
    let ls : links ≡ (shape_of (graph_of x) plan w).links =
    f
    ∙ ap (λ (y : Tree). all_links y.ops starts readers 0 pieces) (sym same)
    ∙ ap (λ ss. all_links x.graph.ops ss readers 0 pieces) begun
    ∙ ap (λ t. all_links x.graph.ops (start_all (replicate (length x.graph.ops) 0) 0 (pieces_at x plan w)) t 0 pieces) a
    ∙ ap (all_links x.graph.ops (start_all (replicate (length x.graph.ops) 0) 0 (pieces_at x plan w)) (table_of x) 0) b
    ∙ links-are x k plan w is in
    (λ i. record { elements = es i; links = ls i })

pub returns-clause-shape : goal.returns-clause-shape
returns-clause-shape c = λ g same.
    (let k : Keeps c.args.checked.now = subst Keeps c.checked.view_is c.checked.invariant in
    let is : IsPlan (graph_of c.args.checked.now) c.args.plan.now = c.requires.plan (graph_of c.args.checked.now) refl in
    let pieces = pieces-made c.args.checked.now c.checked.inside.graph (ap (λ (x : CheckedGraph). x.graph) (sym c.checked.view_is)) k c.args.plan.now c.args.width is c.in_ok-readers.readers c.in_ok-regions.regions c.in_ok-pieces.pieces
    c.in_ok-readers.ensures.table (c.in_ok-regions.ensures ∙ ap (λ n. enter_all c.args.width 0 c.args.plan.now (replicate n None)) c.len.ensures) c.in_ok-pieces.ensures in
    shape-made c.args.checked.now c.checked.inside.graph (ap (λ (x : CheckedGraph). x.graph) (sym c.checked.view_is)) k c.args.plan.now c.args.width is c.in_ok-readers.readers c.in_ok-starts.starts c.in_ok-pieces.pieces c.in_ok-elements.field-0 c.in_ok-links.field-0
    c.in_ok-readers.ensures.table pieces
    (c.in_ok-starts.ensures ∙ ap (λ n. start_all (replicate n 0) 0 c.as_slice-2.result.now) c.len-2.ensures ∙ ap (start_all (replicate (length c.checked.inside.graph.ops) 0) 0) c.as_slice-2.ensures)
    (c.in_ok-elements.ensures ∙ ap all_elements c.as_slice-3.ensures)
    (c.in_ok-links.ensures ∙ ap (all_links c.checked.inside.graph.ops c.in_ok-starts.starts c.in_ok-readers.readers 0) c.as_slice-4.ensures)
    ∙ ap (λ (h : Graph). shape_of h c.args.plan.now c.args.width) same)

pub returns-clause-fits : goal.returns-clause-fits
returns-clause-fits c =
    let k : Keeps c.args.checked.now = subst Keeps c.checked.view_is c.checked.invariant in
    let is : IsPlan (graph_of c.args.checked.now) c.args.plan.now = c.requires.plan (graph_of c.args.checked.now) refl in
    let pieces = c.as_slice.ensures ∙ pieces-made c.args.checked.now c.checked.inside.graph (ap (λ (x : CheckedGraph). x.graph) (sym c.checked.view_is)) k c.args.plan.now c.args.width is c.in_ok-readers.readers c.in_ok-regions.regions c.in_ok-pieces.pieces
    c.in_ok-readers.ensures.table (c.in_ok-regions.ensures ∙ ap (λ n. enter_all c.args.width 0 c.args.plan.now (replicate n None)) c.len.ensures) c.in_ok-pieces.ensures in
    let whole : c.in_ok-pieces.pieces ≡ pieces_at c.args.checked.now c.args.plan.now c.args.width = sym c.as_slice.ensures ∙ pieces in
    let known = size-known c.args.checked.now k c.args.plan.now c.args.width is c.as_slice.result.now c.total_size-size.result pieces c.total_size-size.ensures in
    let elements : c.in_ok-elements.field-0 ≡ elements_of c.args.plan.now (replicated c.args.width c.args.plan.now) c.args.width (pieces_of (graph_of c.args.checked.now) (replicated c.args.width c.args.plan.now)) =
    c.in_ok-elements.ensures ∙ ap all_elements (c.as_slice-3.ensures ∙ whole) ∙ elements-are c.args.checked.now k c.args.plan.now c.args.width is in
    let long : length c.in_ok-elements.field-0 ≡ length (elements_of c.args.plan.now (replicated c.args.width c.args.plan.now) c.args.width (pieces_of (graph_of c.args.checked.now) (replicated c.args.width c.args.plan.now))) = ap (λ (es : List ShapeElement). length es) elements in
    let most = c.if-size-gt2048.false in
    omega (arith, known, long, most)

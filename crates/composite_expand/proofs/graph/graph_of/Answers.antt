use Rattle.std.proofs.Common.{◌≡◌, ◌∙◌, refl, sym, ap, subst, List, length, Some, None, Err}
use Rattle.std.specs.Prelude.{ℕ, map, slice_get}
use Rattle.std.proofs.lemmas.List.{length-map}
use Rattle.spl_tree.specs.Trees.{placed}
use Rattle.spl_tree.specs.declared.expression.Placed.{Placed}
use Rattle.spl_tree.specs.declared.graph.Expansion.{Expansion}
use Rattle.spl_tree.specs.declared.graph.Op.{Op}
use Rattle.spl_tree.specs.declared.graph.Stream.{Stream}
use Rattle.language_model.specs.declared.expansion.Operation.{Operation}
use Rattle.language_model.specs.Declarations.{first_of}
use Rattle.language_model.proofs.parts.Flat.{files_had}
use Rattle.language_model.specs.Taking.{taken, first_untaken}
use Rattle.language_model.specs.Flat.{flat_from}
use Rattle.composite_expand.specs.steps.Answers.{IsAnswer}
use Rattle.composite_expand.specs.steps.Waiting.{IsFirstWaiting}
use Rattle.composite_expand.proofs.Comes.{loops, same_files}
use Rattle.composite_expand.proofs.graph.graph_of.Goals as goal

pub returns-in-Some : goal.returns-in-Some
returns-in-Some c = λ main e.
    let labels : c.in_ok-labels.labels ≡ map (λ (x : Operation). placed x.at x.label) e.made.ops =
    c.in_ok-labels.ensures ∙ ap (map (λ (x : Operation). placed x.at x.label)) (c.as_slice.ensures ∙ e.ops) in
    let count : length c.in_ok-labels.labels ≡ length e.made.ops = ap length labels ∙ length-map e.made.ops _ in
    let order : c.in_ok-topo.topo ≡ taken c.in_ok-parts.parts.streams c.in_ok-parts.parts.ops =
    c.in_ok-topo.ensures ∙ ap (λ (s : List Stream). taken s c.as_slice-3.result.now) c.as_slice-2.ensures ∙ ap (λ (o : List Op). taken c.in_ok-parts.parts.streams o) c.as_slice-3.ensures in
    let first = c.in-Some.ensures in
    subst (λ a. IsAnswer (flat_from c.args.composites.now.unit.now c.args.names.now main) (Err a)) (sym c.refused.ensures)
    (loops c.args.composites.now.unit.now c.args.names.now main c.args.walk e c.in_ok-parts.parts (c.in_ok-parts.ensures main e) c.in_ok-topo.topo order
    first.0 c.in-Some.name
    (ap (λ n. first_untaken c.in_ok-topo.topo 0 n) (sym count) ∙ ap (λ t. first_untaken t 0 (length c.in_ok-labels.labels)) (sym c.as_slice-4.ensures) ∙ first.1)
    (ap (λ (ls : List (Placed (List ℕ))). slice_get ls first.0) (sym labels) ∙ first.2))

pub returns-in-Some-2 : goal.returns-in-Some-2
returns-in-Some-2 c = λ main e.
    let labels : c.in_ok-labels.labels ≡ map (λ (x : Operation). placed x.at x.label) e.made.ops =
    c.in_ok-labels.ensures ∙ ap (map (λ (x : Operation). placed x.at x.label)) (c.as_slice.ensures ∙ e.ops) in
    let count : length c.in_ok-labels.labels ≡ length e.made.ops = ap length labels ∙ length-map e.made.ops _ in
    let order : c.in_ok-topo.topo ≡ taken c.in_ok-parts.parts.streams c.in_ok-parts.parts.ops =
    c.in_ok-topo.ensures ∙ ap (λ (s : List Stream). taken s c.as_slice-3.result.now) c.as_slice-2.ensures ∙ ap (λ (o : List Op). taken c.in_ok-parts.parts.streams o) c.as_slice-3.ensures in
    let all_taken : first_untaken c.in_ok-topo.topo 0 (length e.made.ops) ≡ None =
    ap (λ n. first_untaken c.in_ok-topo.topo 0 n) (sym count) ∙ ap (λ t. first_untaken t 0 (length c.in_ok-labels.labels)) (sym c.as_slice-4.ensures)
    ∙ subst (IsFirstWaiting c.in_ok-labels.labels c.as_slice-4.result.now) c.in_default.is c.first_waiting.ensures in
    subst (λ a. IsAnswer (flat_from c.args.composites.now.unit.now c.args.names.now main) (Err a)) (sym c.refused-in-Some-2.ensures)
    (same_files c.args.composites.now.unit.now c.args.names.now main c.args.walk e c.in_ok-parts.parts (c.in_ok-parts.ensures main e) c.in_ok-topo.topo order all_taken
    (Some c.in-Some-2.file)
    (sym c.in-Some-2.is ∙ c.in_ok-file.ensures
    ∙ ap (λ (x : List Expansion). first_of (map (λ f. f.file) (files_had c.args.composites.now.unit.now c.args.names.now x c.as_slice-ops.result.now))) c.as_slice-expansions.ensures
    ∙ ap (λ (o : List Op). first_of (map (λ f. f.file) (files_had c.args.composites.now.unit.now c.args.names.now c.in_ok-parts.parts.expansions o))) c.as_slice-ops.ensures)
    (record { ops = c.in_ok-parts.parts.ops; streams = c.in_ok-parts.parts.streams; expansions = c.in_ok-parts.parts.expansions; topo = c.in_ok-topo.topo }) refl)

pub returns : goal.returns
returns c = λ main e.
    let labels : c.in_ok-labels.labels ≡ map (λ (x : Operation). placed x.at x.label) e.made.ops =
    c.in_ok-labels.ensures ∙ ap (map (λ (x : Operation). placed x.at x.label)) (c.as_slice.ensures ∙ e.ops) in
    let count : length c.in_ok-labels.labels ≡ length e.made.ops = ap length labels ∙ length-map e.made.ops _ in
    let order : c.in_ok-topo.topo ≡ taken c.in_ok-parts.parts.streams c.in_ok-parts.parts.ops =
    c.in_ok-topo.ensures ∙ ap (λ (s : List Stream). taken s c.as_slice-3.result.now) c.as_slice-2.ensures ∙ ap (λ (o : List Op). taken c.in_ok-parts.parts.streams o) c.as_slice-3.ensures in
    let all_taken : first_untaken c.in_ok-topo.topo 0 (length e.made.ops) ≡ None =
    ap (λ n. first_untaken c.in_ok-topo.topo 0 n) (sym count) ∙ ap (λ t. first_untaken t 0 (length c.in_ok-labels.labels)) (sym c.as_slice-4.ensures)
    ∙ subst (IsFirstWaiting c.in_ok-labels.labels c.as_slice-4.result.now) c.in_default.is c.first_waiting.ensures in
    same_files c.args.composites.now.unit.now c.args.names.now main c.args.walk e c.in_ok-parts.parts (c.in_ok-parts.ensures main e) c.in_ok-topo.topo order all_taken
    None
    (sym c.in_default-2.is ∙ c.in_ok-file.ensures
    ∙ ap (λ (x : List Expansion). first_of (map (λ f. f.file) (files_had c.args.composites.now.unit.now c.args.names.now x c.as_slice-ops.result.now))) c.as_slice-expansions.ensures
    ∙ ap (λ (o : List Op). first_of (map (λ f. f.file) (files_had c.args.composites.now.unit.now c.args.names.now c.in_ok-parts.parts.expansions o))) c.as_slice-ops.ensures)
    (record { ops = c.in_ok-parts.parts.ops; streams = c.in_ok-parts.parts.streams; expansions = c.in_ok-parts.parts.expansions; topo = c.in_ok-topo.topo }) refl

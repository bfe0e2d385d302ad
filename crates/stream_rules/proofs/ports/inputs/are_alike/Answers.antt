use Rattle.std.proofs.Common.{◌≡◌, Err, List, ℕ, refl, ap, sym, ◌∙◌, take, drop, flat_map}
use Rattle.std.proofs.lemmas.List.{take_rest}
use Rattle.spl_tree.specs.declared.expression.Placed.{Placed}
use Rattle.language_model.specs.Expansion.{place_of}
use Rattle.language_model.specs.Invoking.{stream_names}
use Rattle.language_model.specs.StreamTypes.{are_alike, taken_by}
use Rattle.language_model.specs.parts.StreamTypes.{so_often}
use Rattle.stream_rules.specs.steps.Among.{graph_of, unit_of}
use Rattle.body_sites.specs.Bodies.{body_seen}
use Rattle.stream_rules.proofs.AlikeStreams.{long_enough, name_on, name_stops}
use Rattle.stream_rules.proofs.ports.inputs.are_alike.Goals as goal
use Rattle.language_model.proofs.FoundAnswers.{fails, finds_by}

pub returns-in_err-row_alike : goal.returns-in_err-row_alike
returns-in_err-row_alike c =
    let b = body_seen c.args.body.now in
    let n = c.name-item.result in
    let m = c.fewest-taken.result in
    let k = c.taken_by.result in
    let row = c.loop-name.left.now in
    let f : Placed (List ℕ) → List ℕ = λ n. so_often (taken_by b n.what (place_of n.what (stream_names b.composite))) n.at in
    let is : f n ≡ so_often k n.at = ap (λ k. so_often k n.at) (sym (c.taken_by.ensures ∙ ap (λ w. taken_by b w (place_of w (stream_names b.composite))) c.as_slice.ensures)) in
    let short = c.fewest-taken.ensures.within in
    fails _ _ _ c.from_residual.ensures.1
    (finds_by _ (are_alike (unit_of c.args.streams.now) (graph_of c.args.streams.now) c.args.schema.now (flat_map f (drop c.loop-name.name-index c.as_slice-name-items.result.now)) row) (Err c.in_err-row_alike.field-0.0) c.loop-name.invariant
    (name_stops (unit_of c.args.streams.now) (graph_of c.args.streams.now) c.args.schema.now f c.as_slice-name-items.result.now c.loop-name.name-index n c.loop-name-test.true c.name-item.is
    m k is row (take m row) refl (long_enough m row short) c.fewest-taken.ensures.most short c.fewest-taken.ensures.all c.in_err-row_alike.field-0.0 c.in_err-row_alike.ensures))

pub loop-name-preserved : goal.loop-name-preserved
loop-name-preserved c =
    let b = body_seen c.args.body.now in
    let n = c.name-item.result in
    let m = c.fewest-taken.result in
    let k = c.taken_by.result in
    let row = c.loop-name.left.now in
    let f : Placed (List ℕ) → List ℕ = λ n. so_often (taken_by b n.what (place_of n.what (stream_names b.composite))) n.at in
    let is : f n ≡ so_often k n.at = ap (λ k. so_often k n.at) (sym (c.taken_by.ensures ∙ ap (λ w. taken_by b w (place_of w (stream_names b.composite))) c.as_slice.ensures)) in
    let short = c.fewest-taken.ensures.within in
    c.loop-name.invariant
    ∙ name_on (unit_of c.args.streams.now) (graph_of c.args.streams.now) c.args.schema.now f c.as_slice-name-items.result.now c.loop-name.name-index n c.loop-name-test.true c.name-item.is
    m k is row (take m row) refl (long_enough m row short) c.fewest-taken.ensures.most short c.fewest-taken.ensures.all _ (take_rest row m) c.in_ok-row_alike.ensures

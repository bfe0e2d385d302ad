use Rattle.std.proofs.Common.{None, Some, ap, arith, cond, length, sym, ◌≡◌, ◌∙◌}
use Rattle.spl_tree.specs.declared.code.Marker.TheVariants as M
use Rattle.stream_model.specs.declared.plan.Gives.TheVariants as G
use Rattle.stream_model.specs.Customs.{handler}
use Rattle.selectivity_rules.specs.steps.Counts.{body_submits, class_of}
use Rattle.selectivity_rules.proofs.CountedClasses.{one_alone}
use Rattle.selectivity_rules.proofs.classes.handlers_give.Goals as goal

pub returns : goal.returns
returns c =
    let handlers = c.args.handlers.now in
    let one : length handlers.on_tuple ≡ 1 = omega arith in
    let tuple = c.body_submits-tuple.ensures ∙ ap (λ bodies. body_submits None (handler bodies 0)) c.as_slice.ensures in
    let window = c.body_submits-window.ensures ∙ ap (λ bodies. body_submits (Some M.Window) (handler bodies 0)) c.as_slice-2.ensures in
    let end = c.body_submits-end.ensures ∙ ap (λ bodies. body_submits (Some M.Final) (handler bodies 0)) c.as_slice-3.ensures in
    c.class_of.ensures ∙ (λ i. class_of (tuple i) (window i) (end i))
    ∙ sym (ap (λ b. cond b (class_of (body_submits None (handler handlers.on_tuple 0)) (body_submits (Some M.Window) (handler handlers.on_punct 0))
    (body_submits (Some M.Final) (handler handlers.on_punct 0))) G.Many) (one_alone handlers.on_tuple one))

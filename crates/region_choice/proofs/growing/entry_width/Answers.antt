use Rattle.std.proofs.Common.{◌∙◌, ap, slice_get, sym}
use Rattle.language_model.specs.CheckedGraph.{CheckedGraph}
use Rattle.region_choice.proofs.Growth.{width_is, width_there}
use Rattle.region_choice.proofs.growing.entry_width.Goals as goal

pub returns-in-Some : goal.returns-in-Some
returns-in-Some c = λ g o e at all.
    width_is c.args.checked.now g e c.args.growing.now.ops c.args.op o at all c.first_or-first.result c.first_or-first.ensures c.in-Some.first.now
    (sym (ap (λ (x : CheckedGraph). slice_get x.graph.ops c.first_or-first.result) c.checked.view_is) ∙ sym c.in-Some.ensures.value) c.input_width.result c.input_width.ensures

pub returns-in-None : goal.returns-in-None
returns-in-None c = λ g o e at all.
    absurd (width_there c.args.checked.now g e c.args.growing.now.ops c.args.op o at all c.first_or-first.result c.first_or-first.ensures
    (sym (ap (λ (x : CheckedGraph). slice_get x.graph.ops c.first_or-first.result) c.checked.view_is) ∙ sym c.in-None.ensures.value))

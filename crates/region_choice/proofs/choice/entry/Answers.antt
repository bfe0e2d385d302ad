use Rattle.std.proofs.Common.{◌∙◌, ap, slice_get, sym}
use Rattle.language_model.specs.CheckedGraph.{CheckedGraph}
use Rattle.region_choice.specs.steps.Ports.{entry_of}
use Rattle.region_choice.proofs.Placing.{op_there, ports_same}
use Rattle.region_choice.proofs.choice.entry.Goals as goal

pub returns-in-Some : goal.returns-in-Some
returns-in-Some c = λ g o e at.
    (let same = ports_same c.args.checked.now g e c.args.op o c.in-Some.own.now at
    (sym (ap (λ (x : CheckedGraph). slice_get x.graph.ops c.args.op) c.checked.view_is) ∙ sym c.in-Some.ensures.value) in
    c.entry_of.ensures ∙ (λ i. entry_of (same.0 i) (same.1 i) c.args.state.now))

pub returns-in-None : goal.returns-in-None
returns-in-None c = λ g o e at.
    absurd (op_there c.args.checked.now g e c.args.op o at (sym (ap (λ (x : CheckedGraph). slice_get x.graph.ops c.args.op) c.checked.view_is) ∙ sym c.in-None.ensures.value))

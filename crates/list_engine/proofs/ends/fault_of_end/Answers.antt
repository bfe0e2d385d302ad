use Rattle.std.proofs.Common.{◌≡◌, ◌∙◌, ap, sym, slice_get, true, false}
use Rattle.language_model.specs.CheckedGraph.{CheckedGraph}
use Rattle.list_engine.proofs.Faults.{end_of_none, end_of_some}
use Rattle.list_engine.proofs.ends.fault_of_end.Goals as goal

pub returns-then-is_empty : goal.returns-then-is_empty
returns-then-is_empty c = λ g o e at.
    end_of_none c.args.checked.now g c.args.state.now c.args.number c.in-Some.op.now o e
    (ap (λ (x : CheckedGraph). slice_get x.graph.ops c.args.number) (sym c.checked.view_is) ∙ sym c.in-Some.ensures.value) at
    (c.is_empty.ensures.0 c.if-is_empty.true) c.own_fault.result c.own_fault.ensures

pub returns-else-is_empty : goal.returns-else-is_empty
returns-else-is_empty c = λ g o e at.
    end_of_some c.args.checked.now g c.args.state.now c.args.number c.in-Some.op.now o e
    (ap (λ (x : CheckedGraph). slice_get x.graph.ops c.args.number) (sym c.checked.view_is) ∙ sym c.in-Some.ensures.value) at
    (λ none. let is = c.is_empty.ensures.1 none in let clash : true ≡ false = sym is ∙ c.if-is_empty.false in cc)
    c.unread_faults.result c.as_slice.result.now c.as_slice.ensures (c.unread_faults.ensures g e)

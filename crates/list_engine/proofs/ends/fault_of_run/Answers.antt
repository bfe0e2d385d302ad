use Rattle.std.proofs.Common.{◌∙◌, ◌<◌, ◌≤◌, ap, subst, sym, length}
use Rattle.language_model.specs.CheckedGraph.{CheckedGraph}
use Rattle.language_model.specs.Keeping.{Keeps}
use Rattle.list_engine.proofs.Faults.{fault_found, fault_later, fault_over}
use Rattle.list_engine.proofs.ends.fault_of_run.Goals as goal

pub returns-then-is_some : goal.returns-then-is_some
returns-then-is_some c = λ g e.
    fault_found c.args.checked.now g c.args.state.now (subst Keeps c.checked.view_is c.checked.invariant) e c.loop-number.number c.fault_of_end-fault.result
    (subst (λ n. c.loop-number.number < n) (c.len-number-end.ensures ∙ ap (λ (x : CheckedGraph). length x.graph.ops) c.checked.view_is) c.loop-number-test.true)
    (λ o at. c.fault_of_end-fault.ensures g o e at) (sym c.is_some.ensures ∙ c.if-is_some.true) (c.loop-number.invariant g e)

pub loop-number-preserved : goal.loop-number-preserved
loop-number-preserved c = λ g e.
    fault_later c.args.checked.now g c.args.state.now (subst Keeps c.checked.view_is c.checked.invariant) e c.loop-number.number c.fault_of_end-fault.result
    (subst (λ n. c.loop-number.number < n) (c.len-number-end.ensures ∙ ap (λ (x : CheckedGraph). length x.graph.ops) c.checked.view_is) c.loop-number-test.true)
    (λ o at. c.fault_of_end-fault.ensures g o e at) (sym c.is_some.ensures ∙ c.if-is_some.false) (c.loop-number.invariant g e)

pub returns : goal.returns
returns c = λ g e.
    fault_over c.args.checked.now g c.args.state.now (subst Keeps c.checked.view_is c.checked.invariant) e c.loop-number.number
    (subst (λ n. n ≤ c.loop-number.number) (c.len-number-end.ensures ∙ ap (λ (x : CheckedGraph). length x.graph.ops) c.checked.view_is) c.loop-number-test.false)
    (c.loop-number.invariant g e)

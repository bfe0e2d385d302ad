use Rattle.std.proofs.Common.{◌∙◌, [], None, ap, length, replicate, refl, subst, arith}
use Rattle.language_model.specs.CheckedGraph.{CheckedGraph}
use Rattle.language_model.specs.Keeping.{Keeps}
use Rattle.stream_model.specs.CheckedMeaning.{graph_of}
use Rattle.list_engine.specs.steps.Running.{LeftToRun}
use Rattle.list_engine.proofs.Gathering.{first_and_rest}
use Rattle.list_engine.proofs.Looping.{fault_all, lists_all, ordered_all, remains_first, remains_left, remains_next, remains_ready, sinks_given, whole_all}
use Rattle.list_engine.proofs.run.run_lists.Goals as goal

pub operators-init : goal.operators-init
operators-init g c =
    let operators = c.len.ensures ∙ ap (λ (x : CheckedGraph). length x.graph.ops) c.checked.view_is in
    let streams = c.len-2.ensures ∙ ap (λ (x : CheckedGraph). length x.graph.streams) c.checked.view_is in
    remains_first g.R.React.spec g.R.React.stands c.args.checked.now c.args.order.now c.args.rows c.as_slice-rest.result.now c.args.operators c.in_ok-state.state
    (subst Keeps c.checked.view_is c.checked.invariant) c.requires.operators c.requires.rows
    (c.as_slice-rest.ensures ∙ ap (λ (x : CheckedGraph). x.graph.topo) c.checked.view_is)
    (c.in_ok-state.ensures.streams ∙ ap (λ n. replicate n []) streams) c.in_ok-state.ensures.rows (c.in_ok-state.ensures.sinks ∙ ap (λ n. replicate n []) operators)
    (c.in_ok-state.ensures.faults ∙ ap (λ n. replicate n None) operators) (c.in_ok-state.ensures.inputs ∙ ap (λ n. replicate n None) operators)

pub run_operator-requires-clause-kept : goal.run_operator-requires-clause-kept
run_operator-requires-clause-kept g c = subst Keeps c.checked.view_is c.checked.invariant

pub run_operator-requires-clause-operators : goal.run_operator-requires-clause-operators
run_operator-requires-clause-operators g c =
    remains_left g.R.React.spec g.R.React.stands c.args.checked.now c.args.order.now c.args.rows c.operators.rest.now _ _ c.operators.operators c.operators.state c.operators.invariant
    (first_and_rest c.operators.rest.now c.in-len1-up.len_at_least)

pub run_operator-requires-clause-ready : goal.run_operator-requires-clause-ready
run_operator-requires-clause-ready g c =
    remains_ready g.R.React.spec g.R.React.stands c.args.checked.now c.args.order.now c.args.rows c.operators.rest.now _ _ c.operators.operators c.operators.state c.operators.invariant
    (first_and_rest c.operators.rest.now c.in-len1-up.len_at_least)

pub operators-preserved : goal.operators-preserved
operators-preserved g c =
    remains_next g.R.React.spec g.R.React.stands c.args.checked.now c.args.order.now c.args.rows c.operators.rest.now _ _ c.operators.operators c.run_operator.new.operators c.operators.state
    c.run_operator.new.state c.operators.invariant (first_and_rest c.operators.rest.now c.in-len1-up.len_at_least) c.in-Ok.ensures.operators
    c.in-Ok.ensures.advances

pub arrival_lists-requires : goal.arrival_lists-requires
arrival_lists-requires g c =
    let k = subst Keeps c.checked.view_is c.checked.invariant in
    let inputs = (c.operators.invariant.stood (graph_of c.args.checked.now) refl).places.inputs in
    let most = k.graph.operators in
    record { few = omega (arith, inputs, most) }

pub returns-clause-sinks : goal.returns-clause-sinks
returns-clause-sinks g c = λ x e.
    sinks_given c.args.checked.now c.args.order.now x c.args.rows c.operators.rest.now c.operators.state c.in_ok-lists.lists (subst Keeps c.checked.view_is c.checked.invariant) e
    (c.operators.invariant.stood x e) c.in_default.len_below c.in_ok-lists.ensures

pub returns-clause-fault : goal.returns-clause-fault
returns-clause-fault g c = λ x e.
    c.fault_of_run-fault.ensures x e
    ∙ fault_all c.args.checked.now c.args.order.now x c.args.rows c.operators.rest.now c.operators.state c.in_ok-lists.lists (subst Keeps c.checked.view_is c.checked.invariant) e
    (c.operators.invariant.stood x e) c.in_default.len_below c.in_ok-lists.ensures

pub returns-clause-lists : goal.returns-clause-lists
returns-clause-lists g c = λ x e.
    lists_all c.args.checked.now c.args.order.now x c.args.rows c.operators.rest.now c.operators.state c.in_ok-lists.lists (subst Keeps c.checked.view_is c.checked.invariant) e
    (c.operators.invariant.stood x e) c.in_default.len_below c.in_ok-lists.ensures

pub returns-clause-whole : goal.returns-clause-whole
returns-clause-whole g c = λ x e.
    whole_all c.args.checked.now c.args.order.now x c.args.rows c.operators.rest.now c.operators.state c.in_ok-lists.lists (subst Keeps c.checked.view_is c.checked.invariant) e
    (c.operators.invariant.stood x e) c.in_default.len_below c.in_ok-lists.ensures

pub returns-clause-ordered : goal.returns-clause-ordered
returns-clause-ordered g c = λ x e.
    ordered_all c.args.checked.now c.args.order.now x c.args.rows c.operators.rest.now c.operators.state c.in_ok-lists.lists (subst Keeps c.checked.view_is c.checked.invariant) e
    (c.operators.invariant.stood x e) c.in_default.len_below c.in_ok-lists.ensures

pub returns-in-Err-clause-stops : goal.returns-in-Err-clause-stops
returns-in-Err-clause-stops g c = λ x e.
    c.in-Err.ensures.stops x c.args.rows e
    (subst (λ ns. LeftToRun c.args.checked.now c.args.order.now x c.args.rows ns c.operators.state) (first_and_rest c.operators.rest.now c.in-len1-up.len_at_least) (c.operators.invariant.stood x e))

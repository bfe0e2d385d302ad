use Rattle.std.proofs.Common.{◌∙◌, ap, refl, subst, sym, slice_get}
use Rattle.language_model.specs.CheckedGraph.{CheckedGraph}
use Rattle.language_model.specs.Keeping.{Keeps}
use Rattle.stream_model.specs.CheckedMeaning.{graph_of}
use Rattle.stream_model.specs.Operators.{Operator}
use Rattle.list_engine.specs.steps.Keeping.{GivesNothing}
use Rattle.list_engine.proofs.GraphOperators.{is_numbered}
use Rattle.list_engine.proofs.Running.{few_inputs, gives_nothing, has_room, inputs_there, other_advances, other_stops, ready_places, streams_taken, takes_inputs}
use Rattle.list_engine.proofs.run.run_other.Goals as goal

pub streams_for-requires : goal.streams_for-requires
streams_for-requires g c =
    let k = subst Keeps c.checked.view_is c.checked.invariant in
    let there = ap (λ (x : CheckedGraph). slice_get x.graph.ops c.args.number) (sym c.checked.view_is) ∙ sym c.in-Some.ensures.value in
    record {
      there = inputs_there c.args.checked.now c.args.order.now c.args.later.now c.args.number c.in-Some.op.now c.args.state.now c.as_slice.result.now k there c.requires.ready
          (c.as_slice.ensures ∙ c.in_ok-streams.ensures);
    }

pub take_items-requires-clause-number : goal.take_items-requires-clause-number
take_items-requires-clause-number g c =
    let o = c.requires.is_other (graph_of c.args.checked.now) refl in
    ap (λ (x : Operator). x.number) o.3 ∙ is_numbered c.args.checked.now (graph_of c.args.checked.now) refl c.args.number o.0 o.1

pub take_items-requires-clause-fresh : goal.take_items-requires-clause-fresh
take_items-requires-clause-fresh g c = (c.requires.is_other (graph_of c.args.checked.now) refl).4

pub take_items-requires-clause-none_given : goal.take_items-requires-clause-none_given
take_items-requires-clause-none_given g c = gives_nothing (g.R.React.spec c.args.operator) c.in-Some.op.now.outs c.len.result c.in_ok-given.given c.in_ok-given.ensures

pub take_items-requires-clause-fit : goal.take_items-requires-clause-fit
take_items-requires-clause-fit g c =
    let k = subst Keeps c.checked.view_is c.checked.invariant in
    let there = ap (λ (x : CheckedGraph). slice_get x.graph.ops c.args.number) (sym c.checked.view_is) ∙ sym c.in-Some.ensures.value in
    takes_inputs g.R.React.spec g.R.React.stands c.args.checked.now c.args.order.now c.args.later.now c.args.number c.in-Some.op.now c.args.operator c.args.state.now c.as_slice.result.now
    c.in_ok-lists.lists k c.requires.is_other there c.requires.ready (c.as_slice.ensures ∙ c.in_ok-streams.ensures) c.in_ok-lists.ensures.lists

pub take_items-requires-clause-few : goal.take_items-requires-clause-few
take_items-requires-clause-few g c =
    let k = subst Keeps c.checked.view_is c.checked.invariant in
    let there = ap (λ (x : CheckedGraph). slice_get x.graph.ops c.args.number) (sym c.checked.view_is) ∙ sym c.in-Some.ensures.value in
    few_inputs c.args.checked.now c.args.number c.in-Some.op.now c.as_slice.result.now c.args.state.now.streams c.in_ok-lists.lists k there
    (c.as_slice.ensures ∙ c.in_ok-streams.ensures) c.in_ok-lists.ensures.lists

pub keep-requires-clause-room : goal.keep-requires-clause-room
keep-requires-clause-room g c =
    let k = subst Keeps c.checked.view_is c.checked.invariant in
    let there = ap (λ (x : CheckedGraph). slice_get x.graph.ops c.args.number) (sym c.checked.view_is) ∙ sym c.in-Some.ensures.value in
    has_room c.args.checked.now c.args.number c.in-Some.op.now _ k there
    (streams_taken c.args.checked.now c.args.later.now c.as_slice.result.now c.args.state.now c.streams_for.new.table
    (ready_places c.args.checked.now c.args.order.now c.args.later.now c.args.number c.args.state.now c.requires.ready) c.in_ok-lists.ensures.others)

pub returns-clause-advances : goal.returns-clause-advances
returns-clause-advances g c =
    let k = subst Keeps c.checked.view_is c.checked.invariant in
    let there = ap (λ (x : CheckedGraph). slice_get x.graph.ops c.args.number) (sym c.checked.view_is) ∙ sym c.in-Some.ensures.value in
    other_advances g.R.React.spec g.R.React.stands c.args.checked.now c.args.order.now c.args.later.now c.args.number c.in-Some.op.now c.args.operator c.args.state.now c.keep.new.state c.as_slice.result.now
    c.streams_for.new.table c.in_ok-lists.lists c.in_ok-given.given c.take_items.new.given c.in-Ok.fault k c.requires.is_other there
    (c.as_slice.ensures ∙ c.in_ok-streams.ensures) c.in_ok-lists.ensures.lists c.in_ok-lists.ensures.others
    (subst (λ inputs. GivesNothing c.in-Some.op.now.outs inputs c.in_ok-given.given) c.len.ensures c.in_ok-given.ensures) c.in-Ok.ensures.ran c.keep.ensures

pub returns-in-Err-clause-stops : goal.returns-in-Err-clause-stops
returns-in-Err-clause-stops g c =
    let k = subst Keeps c.checked.view_is c.checked.invariant in
    let there = ap (λ (x : CheckedGraph). slice_get x.graph.ops c.args.number) (sym c.checked.view_is) ∙ sym c.in-Some.ensures.value in
    other_stops g.R.React.spec g.R.React.stands c.args.checked.now c.args.order.now c.args.later.now c.args.number c.in-Some.op.now c.args.operator c.args.state.now c.as_slice.result.now
    c.in_ok-lists.lists c.in-Err.answer k c.requires.is_other there (c.as_slice.ensures ∙ c.in_ok-streams.ensures) c.in_ok-lists.ensures.lists c.in-Err.ensures.stops

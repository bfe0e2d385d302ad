use Rattle.std.proofs.Common.{◌∙◌, ap, Some}
use Rattle.list_engine.proofs.Looping.{fewer_left, none_is_source, number_within, operators_count, some_is_other}
use Rattle.list_engine.proofs.run.run_operator.Goals as goal

pub take_operator-requires : goal.take_operator-requires
take_operator-requires g c =
    operators_count g.R.React.spec g.R.React.stands c.args.checked.now c.args.order.now c.args.later.now c.args.number c.args.operators.now c.args.state.now c.requires.kept c.requires.operators c.requires.ready

pub run_source-requires-clause-number : goal.run_source-requires-clause-number
run_source-requires-clause-number g c = number_within c.args.checked.now c.args.order.now c.args.later.now c.args.number c.args.state.now c.requires.kept c.requires.ready

pub run_source-requires-clause-is_source : goal.run_source-requires-clause-is_source
run_source-requires-clause-is_source g c =
    none_is_source g.R.React.spec g.R.React.stands c.args.checked.now c.args.later.now c.args.number c.args.operators.now c.requires.kept
    (number_within c.args.checked.now c.args.order.now c.args.later.now c.args.number c.args.state.now c.requires.kept c.requires.ready) c.requires.operators
    (c.take_operator.ensures.operator ∙ ap (λ x. Some x) c.in-None.is)

pub run_source-requires-clause-ready : goal.run_source-requires-clause-ready
run_source-requires-clause-ready g c = (c.args.order.now, c.args.later.now, c.requires.ready)

pub run_other-requires-clause-number : goal.run_other-requires-clause-number
run_other-requires-clause-number g c = number_within c.args.checked.now c.args.order.now c.args.later.now c.args.number c.args.state.now c.requires.kept c.requires.ready

pub run_other-requires-clause-is_other : goal.run_other-requires-clause-is_other
run_other-requires-clause-is_other g c =
    some_is_other g.R.React.spec g.R.React.stands c.args.checked.now c.args.later.now c.args.number c.args.operators.now c.in-Some.operator c.requires.kept
    (number_within c.args.checked.now c.args.order.now c.args.later.now c.args.number c.args.state.now c.requires.kept c.requires.ready) c.requires.operators
    (c.take_operator.ensures.operator ∙ ap (λ x. Some x) c.in-Some.is)

pub returns-in_ok-run_source-in-None-clause-operators : goal.returns-in_ok-run_source-in-None-clause-operators
returns-in_ok-run_source-in-None-clause-operators g c = λ x e.
    let st = (c.requires.ready.1 x e).1 in
    fewer_left g.R.React.spec g.R.React.stands c.args.checked.now x c.requires.kept e st.before c.args.later.now c.args.number c.args.operators.now c.take_operator.new.operators st.split
    (c.requires.operators x e) c.take_operator.ensures.others

pub returns-in_err-run_source-in-None-clause-operators : goal.returns-in_err-run_source-in-None-clause-operators
returns-in_err-run_source-in-None-clause-operators g c = λ x e.
    let st = (c.requires.ready.1 x e).1 in
    fewer_left g.R.React.spec g.R.React.stands c.args.checked.now x c.requires.kept e st.before c.args.later.now c.args.number c.args.operators.now c.take_operator.new.operators st.split
    (c.requires.operators x e) c.take_operator.ensures.others

pub returns-in-Some-clause-operators : goal.returns-in-Some-clause-operators
returns-in-Some-clause-operators g c = λ x e.
    let st = (c.requires.ready.1 x e).1 in
    fewer_left g.R.React.spec g.R.React.stands c.args.checked.now x c.requires.kept e st.before c.args.later.now c.args.number c.args.operators.now c.take_operator.new.operators st.split
    (c.requires.operators x e) c.take_operator.ensures.others

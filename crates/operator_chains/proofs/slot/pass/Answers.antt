use Rattle.std.proofs.Common.{◌∙◌, ◌++◌, ap, sym}
use Rattle.std.specs.Option.{option_to_list}
use Rattle.operator_chains.proofs.Entering.{pass_all, pass_ready}
use Rattle.operator_chains.proofs.Passing.{ok_then}
use Rattle.operator_chains.proofs.slot.pass.Goals as goal

pub enter_rest-requires-clause-may : goal.enter_rest-requires-clause-may
enter_rest-requires-clause-may g c =
    let may = c.requires.may in
    pass_ready g.R.React.spec g.R.React.stands c.args.slot.now c.enter_output.new.slot c.args.caused c.into_parts-first.result.1 c.in_ok-given.given c.in-Some.output
    (sym c.into_parts-first.ensures.all ∙ ap (λ o. option_to_list o ++ c.into_parts-first.result.1) c.in-Some.is) c.in_ok-given.ensures.gives may.0 may.1 may.2

pub returns-clause-gives : goal.returns-clause-gives
returns-clause-gives g c =
    ok_then _ _ c.enter_rest.result
    (λ outs others. pass_all g.R.React.spec g.R.React.stands c.args.slot.now c.enter_output.new.slot c.enter_rest.new.slot c.args.caused c.into_parts-first.result.1 c.in_ok-given.given outs c.in-Some.output
    (sym c.into_parts-first.ensures.all ∙ ap (λ o. option_to_list o ++ c.into_parts-first.result.1) c.in-Some.is) c.in_ok-given.ensures.gives others)
    c.enter_rest.ensures.gives

use Rattle.std.proofs.Common.{◌∙◌, [], ◌∷◌, ◌++◌, ap, sym, subst}
use Rattle.std.specs.Option.{option_to_list}
use Rattle.list_engine.specs.steps.Taking.{Adds}
use Rattle.list_engine.proofs.Taking.{adds_more, ok_then}
use Rattle.list_engine.proofs.operator.add_outputs.Goals as goal

pub returns-in_ok-add_output-in-Some : goal.returns-in_ok-add_output-in-Some
returns-in_ok-add_output-in-Some c =
    let rest = c.into_parts-first.result.1 in
    ok_then (Adds rest c.add_output.new.outs c.add_rest-in-Some.new.outs) (Adds c.args.caused c.args.outs.now c.add_rest-in-Some.new.outs) c.add_rest-in-Some.result
    (λ added. subst (λ outputs. Adds outputs c.args.outs.now c.add_rest-in-Some.new.outs) (ap (λ first. option_to_list first ++ rest) (sym c.in-Some.is) ∙ c.into_parts-first.ensures.all)
    (adds_more (c.in-Some.output ∷ []) rest c.args.outs.now c.add_output.new.outs c.add_rest-in-Some.new.outs c.in_ok-add_output-in-Some.ensures added))
    c.add_rest-in-Some.ensures

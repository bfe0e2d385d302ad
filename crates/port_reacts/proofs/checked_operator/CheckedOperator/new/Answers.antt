use Rattle.std.proofs.Common.{rules, subst}
use Rattle.language_model.specs.Keeping.{Keeps}
use Rattle.port_reacts.proofs.Operators.{few_outs, operator_there}
use Rattle.port_reacts.proofs.checked_operator.CheckedOperator.new.Goals as goal

pub invariant_of-result : goal.invariant_of-result
invariant_of-result c = record {
  within = few_outs c.args.checked.now (subst Keeps c.checked.view_is c.checked.invariant) c.args.number c.in-Some.op.now c.in-Some-get.part.now (search rules) (search rules);
}

pub returns-clause-in_graph : goal.returns-clause-in_graph
returns-clause-in_graph c = operator_there c.args.checked.now c.args.number c.in-Some.op.now c.in-Some-get.part.now (search rules) (search rules)

pub returns-clause-fitting : goal.returns-clause-fitting
returns-clause-fitting c =
    c.fits_law.ensures.checked c.args.checked.now c.args.number _ (subst Keeps c.checked.view_is c.checked.invariant)
    (operator_there c.args.checked.now c.args.number c.in-Some.op.now c.in-Some-get.part.now (search rules) (search rules))

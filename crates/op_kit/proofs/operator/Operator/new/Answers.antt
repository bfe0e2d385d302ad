use Rattle.std.proofs.Common.{rules, subst}
use Rattle.language_model.specs.Keeping.{Keeps}
use Rattle.op_kit.proofs.Events.{few_made, stands_first}
use Rattle.op_kit.proofs.operator.Operator.new.Goals as goal

pub returns-clause-begins : goal.returns-clause-begins
returns-clause-begins c =
    stands_first c.args.checked.now c.args.op c.in-Some.ports.now _ _ _ _ _ _ c.fits_law.ensures.checked (subst Keeps c.checked.view_is c.checked.invariant) (search rules)
    c.in_ok-kind.ensures.is c.in_ok-connections.ensures c.len.ensures c.in_ok-kind.ensures.begins

pub new-requires : goal.new-requires
new-requires c = few_made c.args.checked.now c.args.op c.in-Some.ports.now (subst Keeps c.checked.view_is c.checked.invariant) (search rules)

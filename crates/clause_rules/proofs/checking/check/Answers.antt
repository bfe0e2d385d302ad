use Rattle.clause_rules.proofs.Graphs.{are_invoked, checked_is, whole}
use Rattle.clause_rules.proofs.checking.check.Goals as goal

pub found_of-requires : goal.found_of-requires
found_of-requires c = are_invoked c.flat_law.ensures.operators c.args.unit.now c.requires.0 c.args.graph c.requires.1

pub invariant_of-result : goal.invariant_of-result
invariant_of-result c =
    c.keeps_law.ensures.keeps c.args.unit.now c.requires.0 c.args.graph (whole c.args.graph c.in_ok-functions.functions c.in_ok-parts.field-0) c.requires.1
    (checked_is c.args.unit.now c.args.graph c.in_ok-functions.functions c.in_ok-parts.field-0 c.in_ok-functions.ensures c.in_ok-parts.ensures)

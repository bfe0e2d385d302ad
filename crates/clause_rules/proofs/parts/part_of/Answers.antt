use Rattle.std.proofs.Common.{sym, subst}
use Rattle.spl_tree.specs.declared.graph.OpKind.{OpKind}
use Rattle.language_model.specs.Checking.{part_of}
use Rattle.language_model.specs.Finds.{Finds}
use Rattle.clause_rules.specs.steps.Operators.{checks_seen}
use Rattle.clause_rules.proofs.parts.part_of.Goals as goal

pub returns-in-Punctor-clause-part : goal.returns-in-Punctor-clause-part
returns-in-Punctor-clause-part c =
    let x = checks_seen c.args.around.now c.args.scope.now c.args.checks in
    subst (λ (k : OpKind). Finds (part_of x c.args.clauses.now c.args.rows.now k) c.punctor.result) (sym c.in-Punctor.is) (c.punctor.ensures c.args.around.now c.args.scope.now)

pub returns-in-Split-clause-part : goal.returns-in-Split-clause-part
returns-in-Split-clause-part c =
    let x = checks_seen c.args.around.now c.args.scope.now c.args.checks in
    subst (λ (k : OpKind). Finds (part_of x c.args.clauses.now c.args.rows.now k) c.split.result) (sym c.in-Split.is) (c.split.ensures c.args.around.now c.args.scope.now)

use Rattle.std.proofs.Common.{Err, ◌∙◌}
use Rattle.language_model.specs.DollarTargets.{expression_meant}
use Rattle.written_types.specs.TypeScopes.{types_in}
use Rattle.literal_sites.specs.Sites.{followed_in}
use Rattle.body_sites.specs.Bodies.{body_seen}
use Rattle.clause_rules.specs.steps.Programs.{program_unit}
use Rattle.clause_rules.proofs.Invocations.{invocation_is}
use Rattle.clause_rules.proofs.operators.invocation_checked.Goals as goal
use Rattle.language_model.proofs.FoundAnswers.{fails, finds_by}

pub returns-in_err-part-clause-part : goal.returns-in_err-part-clause-part
returns-in_err-part-clause-part c =
    let e = c.in_err-part.field-0.0 in
    let s = c.args.program.now.sites.now in
    fails _ _ e c.from_residual-in_err-part.ensures.1
    (finds_by _ _ (Err e)
    (invocation_is (program_unit c.args.program.now) c.args.program.now.graph.now c.args.scope.now c.args.op.now (body_seen c.args.body.now) c.args.invocation.now
    c.in_ok-types.types c.in_ok-scope.field-0 c.as_slice.result.now (followed_in c.new-follow.result) (types_in c.types.result)
    c.in_ok-ports_checked.ensures c.in_ok-types.ensures c.requires.outs c.in_ok-scope.ensures (c.as_slice.ensures ∙ c.in_ok-outputs.ensures)
    (c.new-follow.ensures ∙ (λ k. expression_meant (s.table_unit k) ((s.table_expansions ∙ c.requires.expansions) k) c.args.body.now.number))
    c.types.ensures)
    c.in_err-part.ensures.part)

pub returns-clause-part : goal.returns-clause-part
returns-clause-part c =
    let s = c.args.program.now.sites.now in
    invocation_is (program_unit c.args.program.now) c.args.program.now.graph.now c.args.scope.now c.args.op.now (body_seen c.args.body.now) c.args.invocation.now
    c.in_ok-types.types c.in_ok-scope.field-0 c.as_slice.result.now (followed_in c.new-follow.result) (types_in c.types.result)
    c.in_ok-ports_checked.ensures c.in_ok-types.ensures c.requires.outs c.in_ok-scope.ensures (c.as_slice.ensures ∙ c.in_ok-outputs.ensures)
    (c.new-follow.ensures ∙ (λ k. expression_meant (s.table_unit k) ((s.table_expansions ∙ c.requires.expansions) k) c.args.body.now.number))
    c.types.ensures
    ∙ c.in_ok-part.ensures.part

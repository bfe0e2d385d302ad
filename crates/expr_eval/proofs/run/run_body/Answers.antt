use Rattle.std.proofs.Common.{[], ◌++◌, refl, sym, subst}
use Rattle.language_model.specs.Functions.{bodies_of, runs}
use Rattle.language_model.specs.Statements.{scoped}
use Rattle.language_model.specs.parts.Statements.{row_acts}
use Rattle.expr_eval.specs.Running.{Leads, RanAs, state}
use Rattle.expr_eval.proofs.Bodies.{ran, ran_otherwise}
use Rattle.expr_eval.proofs.run.run_body.Goals as goal

pub returns-in_default-clause-runs : goal.returns-in_default-clause-runs
returns-in_default-clause-runs c =
    let functions = c.args.functions.now in
    let env = c.args.env.now in
    let turns = c.args.turns.now in
    let after = c.args.submits.now ++ c.run_scoped.new.submits in
    let to = state c.run_scoped.new.env c.run_scoped.new.submits in
    let led = subst (λ row. Leads (scoped (row_acts (bodies_of functions turns) row) (state env []) turns) c.run_scoped.result to c.run_scoped.new.turns) c.as_slice-row.ensures
    (subst (λ before. Leads (scoped (row_acts (bodies_of functions turns) c.as_slice-row.result.now) (state env before) turns) c.run_scoped.result to c.run_scoped.new.turns) c.new-outs.ensures c.run_scoped.ensures.leads) in
    ran_otherwise (runs functions c.args.body.now env turns) c.ran_as-ran.result env c.run_scoped.new.env c.args.submits.now after _ c.run_scoped.new.turns _ c.in_default.not-Done
    (subst (λ answer. RanAs (runs functions c.args.body.now env turns) answer env c.run_scoped.new.env c.args.submits.now after c.run_scoped.new.turns) (sym c.ran_as-ran.ensures)
    (ran functions c.args.body.now env turns c.evaluation_law.ensures.bodies c.requires c.run_scoped.new.env c.run_scoped.new.submits c.args.submits.now after c.run_scoped.new.turns c.run_scoped.ensures.kept refl c.run_scoped.result led))

pub returns-clause-runs : goal.returns-clause-runs
returns-clause-runs c =
    let functions = c.args.functions.now in
    let env = c.args.env.now in
    let turns = c.args.turns.now in
    let to = state c.run_scoped.new.env c.run_scoped.new.submits in
    let led = subst (λ row. Leads (scoped (row_acts (bodies_of functions turns) row) (state env []) turns) c.run_scoped.result to c.run_scoped.new.turns) c.as_slice-row.ensures
    (subst (λ before. Leads (scoped (row_acts (bodies_of functions turns) c.as_slice-row.result.now) (state env before) turns) c.run_scoped.result to c.run_scoped.new.turns) c.new-outs.ensures c.run_scoped.ensures.leads) in
    subst (λ answer. RanAs (runs functions c.args.body.now env turns) answer env c.run_scoped.new.env c.args.submits.now c.append.new.self c.run_scoped.new.turns) (sym c.ran_as-ran.ensures)
    (ran functions c.args.body.now env turns c.evaluation_law.ensures.bodies c.requires c.run_scoped.new.env c.run_scoped.new.submits c.args.submits.now _ c.run_scoped.new.turns c.run_scoped.ensures.kept c.in-Ok.ensures.ok c.run_scoped.result led)

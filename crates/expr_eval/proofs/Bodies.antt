-- What a body leaves, by where its row leads.
use Rattle.std.specs.Prelude.{◌≡◌, ◌≢◌, ◌++◌, ℕ, List, [], Option, None, Some, Result, Ok, Err}
use Rattle.std.proofs.Common.{refl, ap, subst, ◌∙◌}
use Rattle.spl_value.specs.declared.value.Value.{Value}
use Rattle.spl_tree.specs.declared.body.Function.{Function}
use Rattle.spl_tree.specs.declared.body.Statement.{Statement}
use Rattle.language_model.specs.declared.env.Env.{Env}
use Rattle.language_model.specs.declared.flow.Flow.{Flow}
use Rattle.language_model.specs.declared.outs.Output.{Output}
use Rattle.language_model.specs.Functions.{bodies_of, runs}
use Rattle.language_model.specs.Outcomes.{Outcome, Done, followed, need}
use Rattle.language_model.specs.Statements.{State, Bodies, Left, scoped, returned_by}
use Rattle.language_model.specs.parts.Statements.{row_acts}
use Rattle.language_model.proofs.parts.Statements.{left_by}
use Rattle.language_model.specs.ValueLaws.{BodyLeavesLaw}
use Rattle.language_model.specs.WorldFits.{Leaves}
use Rattle.expr_eval.specs.Running.{BodyIsFit, Leads, LeavesBehind, RanAs, ran_as, state}
use Rattle.expr_eval.specs.steps.Keeping.{Keeps}
use Rattle.expr_eval.specs.declared.run.Ran.{Ran}
use Rattle.expr_eval.specs.declared.run.Ran.TheVariants as R
use Rattle.value_operations.specs.declared.stop.Stop.{Stop}
use Rattle.value_operations.specs.declared.stop.Stop.TheVariants as S

abbrev Went : Type 0
Went = Flow × State

module _ (functions : List Function) (row : List Statement) (env : Env) (turns : ℕ) where
  abbrev bodies : Bodies
  bodies = bodies_of functions turns

  -- where the row leads with no submits before it
  abbrev alone : Outcome Went
  alone = scoped (row_acts bodies row) (state env []) turns

  module _ (leaves : BodyLeavesLaw) (h : BodyIsFit functions row env) where
    -- the body isn't stuck
    left_there : (w : Went) (left : ℕ) → alone ≡ Done w left → (v : Option Value) × (returned_by w.0 ≡ Some v)
    left_there w left e = of_returned (returned_by w.0) refl where
      of_returned : (o : Option (Option Value)) → returned_by w.0 ≡ o → (v : Option Value) × (returned_by w.0 ≡ Some v)
      of_returned (Some v) is = (v, is)
      of_returned None is =
          absurd (subst (Leaves h.0 h.1 env) (ap (λ o. followed o left_by) e ∙ ap (λ o. need o (λ (v : Option Value). Done (record { vars = w.1.env.vars; submits = w.1.submits; returned = v }) left)) is)
          (leaves functions row env h.0 h.1 h.2 turns turns))

    module _ (to : Env) (own before after : List Output) (left : ℕ) (k : Keeps env to) (is : after ≡ before ++ own) where
      done : (flow : Flow) → alone ≡ Done (flow, state to own) left → LeavesBehind (runs functions row env turns) env to before after left
      done flow e =
          let there = left_there (flow, state to own) left e in (
            record { vars = to.vars; submits = own; returned = there.0 },
            ap (λ o. followed o left_by) e ∙ ap (λ o. need o (λ (v : Option Value). Done (record { vars = to.vars; submits = own; returned = v }) left)) there.1,
            (λ i. let e : Env = record { inputs = k.inputs i; vars = to.vars; punct = k.punct i } in e),
            is,
          )

      pub ran : (answer : Result Flow Stop) → Leads alone answer (state to own) left → RanAs (runs functions row env turns) (ran_as answer) env to before after left
      ran (Ok flow) e = done flow e
      ran (Err (S.Fault kind)) e = ap (λ o. followed o left_by) e
      ran (Err S.Memory) e = tt

-- of the submits and the turns of a body that isn't done nothing is said
pub ran_otherwise : (o : Outcome Left) (answer : Ran) (old new : Env) (before after other : List Output) (left turns : ℕ) → answer ≢ R.Done
    → RanAs o answer old new before after left → RanAs o answer old new before other turns
ran_otherwise o R.Done old new before after other left turns n h = absurd (n refl)
ran_otherwise o (R.Bad kind) old new before after other left turns n h = h
ran_otherwise o R.Memory old new before after other left turns n h = tt

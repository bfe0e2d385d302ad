-- Where statements lead, as outcomes do.
use Rattle.std.specs.Prelude.{◌≡◌, ℕ, List, length, take, Result, Ok, Err, IsErrAnd}
use Rattle.std.proofs.Common.{ap, sym, subst, ◌∙◌}
use Rattle.spl_value.specs.declared.value.Value.{Value}
use Rattle.language_model.specs.declared.flow.Flow.{Flow}
use Rattle.language_model.specs.Outcomes.{Outcome, Done, followed}
use Rattle.language_model.specs.Statements.{State, Acts, scoped, with_vars}
use Rattle.language_model.proofs.parts.Statements.{ended}
use Rattle.value_operations.specs.Answers.{StopsAs}
use Rattle.value_operations.specs.declared.stop.Stop.{Stop}
use Rattle.value_operations.specs.declared.stop.Stop.TheVariants as S
use Rattle.value_operations.proofs.Following.{exit}
use Rattle.expr_eval.specs.Running.{Leads}

pub leads_by : (o p : Outcome (Flow × State)) (r : Result Flow Stop) (s : State) (turns : ℕ) → o ≡ p → Leads p r s turns → Leads o r s turns
leads_by o p r s turns e h = subst (λ o. Leads o r s turns) (sym e) h

pub stops_leading : (o : Outcome (Flow × State)) (r : Result Flow Stop) (s : State) (turns : ℕ) (stop : Stop) → IsErrAnd r (λ y. y ≡ stop) → StopsAs o stop → Leads o r s turns
stops_leading o r s turns stop h q = exit (λ r. Leads o r s turns) r stop h q

-- where it leads when what was declared since ends
pub scoped_leads : (acts : Acts) (s : State) (turns : ℕ) (r : Result Flow Stop) (to : State) (left : ℕ) (vars : List Value) → Leads (acts s turns) r to left
    → vars ≡ take (length s.env.vars) to.env.vars → Leads (scoped acts s turns) r (with_vars to vars) left
scoped_leads acts s turns (Ok flow) to left vars h is =
    ap (λ o. followed o (λ w turns. Done (w.0, ended s w.1) turns)) h ∙ ap (λ vs. Done (flow, with_vars to vs) left) (sym is)
scoped_leads acts s turns (Err (S.Fault kind)) to left vars h is = ap (λ o. followed o (λ w turns. Done (w.0, ended s w.1) turns)) h
scoped_leads acts s turns (Err S.Memory) to left vars h is = tt

use Rattle.std.proofs.Common.{◌≡◌, ◌-◌, suc, ap, sym, ◌∙◌, arith}
use Rattle.std.proofs.lemmas.Bool.{ne_eqb}
use Rattle.language_model.specs.Leading.{leads}
use Rattle.stream_rules.proofs.StreamLeads.{arrives, ends, goes_on}
use Rattle.stream_rules.proofs.origins.leads_back.Goals as goal

pub returns-in_default : goal.returns-in_default
returns-in_default c = λ f steps.
    sym (c.steps.invariant f steps ∙ ends c.args.next.now f steps.each c.args.stream c.steps.left c.steps.at (sym c.lead_at.ensures ∙ c.in_default.is))

pub returns-then-to-stream : goal.returns-then-to-stream
returns-then-to-stream c = λ f steps.
    let less : c.steps.left ≡ suc (c.steps.left - 1) = omega arith in
    sym (c.steps.invariant f steps ∙ ap (λ n. leads n f c.steps.at c.args.stream) less
    ∙ arrives c.args.next.now f steps.each c.args.stream (c.steps.left - 1) c.steps.at c.in-Some.to (sym c.in-Some.ensures) c.if-to-stream.true)

pub steps-preserved : goal.steps-preserved
steps-preserved c = λ f steps.
    let less : c.steps.left ≡ suc (c.steps.left - 1) = omega arith in
    c.steps.invariant f steps ∙ ap (λ n. leads n f c.steps.at c.args.stream) less
    ∙ goes_on c.args.next.now f steps.each c.args.stream (c.steps.left - 1) c.steps.at c.in-Some.to (sym c.in-Some.ensures) (ne_eqb c.in-Some.to c.args.stream c.if-to-stream.false)

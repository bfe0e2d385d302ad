use Rattle.std.proofs.Common.{◌-◌, ap, sym, ◌∙◌, arith}
use Rattle.stream_rules.specs.Circles.{flag_at}
use Rattle.stream_rules.specs.steps.Origins.{lead_at}
use Rattle.stream_rules.proofs.LastStreams.{ends_last, last_on}
use Rattle.stream_rules.proofs.origins.Leads.last.Goals as goal

pub steps-preserved : goal.steps-preserved
steps-preserved c = λ unit g led.
    last_on unit g c.args.self.now led c.args.stream c.steps.left (c.steps.left - 1) c.steps.at c.in-Some.to (omega arith)
    (c.in-Some.ensures ∙ ap (λ n. lead_at n c.steps.at) c.as_slice.ensures.value)
    (ap (λ b. flag_at b c.in-Some.to) (sym c.as_slice-in-steps.ensures.value) ∙ sym c.flag_at.ensures ∙ c.if-flag_at.false) (c.steps.invariant unit g led)

pub returns : goal.returns
returns c = λ unit g led.
    ends_last unit g c.args.self.now c.args.stream c.steps.left c.steps.at c.last_step.result (omega arith) (c.steps.invariant unit g led) (c.last_step.ensures unit g led)

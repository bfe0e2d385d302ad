use Rattle.std.proofs.Common.{◌++◌, ap, ◌∙◌}
use Rattle.std.specs.Option.{option_copied}
use Rattle.custom_logic.proofs.Running.{ran_bad, ran_done, ran_none}
use Rattle.custom_logic.proofs.custom.running.run_handler.Goals as goal

pub returns-in_default : goal.returns-in_default
returns-in_default c = ran_none c.args.functions.now (option_copied c.args.body) c.args.env.now c.new-submits.result (ap option_copied c.in_default.is) c.new-submits.ensures

pub returns-in-Done : goal.returns-in-Done
returns-in-Done c =
    let l = c.in-Done.ensures.runs in
    ran_done c.args.functions.now (option_copied c.args.body) _ c.args.env.now l.0 c.run_body.new.turns c.run_body.new.submits c.run_body.new.env (ap option_copied c.in-Some.is) l.1 (l.3 ∙ ap (λ s. s ++ l.0.submits) c.new-submits.ensures) l.2

pub returns-in-Bad : goal.returns-in-Bad
returns-in-Bad c = ran_bad c.args.functions.now (option_copied c.args.body) _ c.args.env.now c.in-Bad.kind (ap option_copied c.in-Some.is) c.in-Bad.ensures.runs

use Rattle.std.proofs.Common.{◌<◌, ◌∙◌, arith, length}
use Rattle.literal_sites.proofs.Answering.{fails_by}
use Rattle.window_rules.proofs.Windowing.{windows_on, windows_stop}
use Rattle.window_rules.proofs.windows.each_window.Goals as goal

pub returns-in_err-policy : goal.returns-in_err-policy
returns-in_err-policy c =
    let e = c.in_err-policy.field-0.0 in
    let within : c.loop-port.port < length c.args.ports.now = omega (arith, c.in_ok-count.ensures) in
    fails_by _ _ _ e c.from_residual-in_err-policy.ensures.1 c.loop-port.invariant
    (windows_stop c.args.at c.args.windows.now c.args.ports.now c.loop-port.port c.loop-port.policies within e c.in_err-policy.ensures)

pub loop-port-preserved : goal.loop-port-preserved
loop-port-preserved c =
    let within : c.loop-port.port < length c.args.ports.now = omega (arith, c.in_ok-count.ensures) in
    c.loop-port.invariant
    ∙ windows_on c.args.at c.args.windows.now c.args.ports.now c.loop-port.port c.loop-port.policies within
    c.in_ok-policy.policy c.push.new.self c.in_ok-policy.ensures c.in_ok-push.ensures.ok

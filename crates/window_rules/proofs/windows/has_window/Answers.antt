use Rattle.std.specs.Prelude.{◌==◌}
use Rattle.literal_sites.proofs.Lists.{any_key}
use Rattle.window_rules.proofs.windows.has_window.Goals as goal

pub loop-port-init : goal.loop-port-init
loop-port-init c = any_key (λ n. n == c.args.place) (λ x. x.0) c.args.found.now

use Rattle.std.proofs.Common.{◌∙◌}
use Rattle.net_core.proofs.Numbers.{enabled_many}
use Rattle.net_core.proofs.net.Net.enabled_count.Goals as goal

pub returns : goal.returns
returns g c m k = c.count.ensures ∙ enabled_many m.net m.state c.args.self.now.marks k.marked

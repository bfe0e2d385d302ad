use Rattle.std.proofs.Common.{rules, refl}
use Rattle.feed_pour.proofs.Wholes.{behind_at_start}
use Rattle.feed_pour.proofs.whole.read_all.Goals as goal

pub pieces-init : goal.pieces-init
pieces-init g c = record { behind = behind_at_start _ _ (search rules); count = refl }

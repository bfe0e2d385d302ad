use Rattle.std.proofs.Common.{◌∙◌, ap, None}
use Rattle.type_fits.proofs.Ascending.{rise_all, rise_from}
use Rattle.type_fits.proofs.rising.keys_rise.Goals as goal

pub loop-pair-init : goal.loop-pair-init
loop-pair-init c = ap (rise_from None) c.into_iter-pair-iterator.ensures.into_iter_gives ∙ rise_all c.args.pairs.now

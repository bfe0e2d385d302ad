use Rattle.std.proofs.Common.{◌<◌, [], arith, subst, sym}
use Rattle.channel_heads.specs.Held.{Held}
use Rattle.order_merger.specs.Merging.{NumberStands}
use Rattle.order_merger.proofs.Standing.{number_new}
use Rattle.order_merger.proofs.by_numbers.NumberMerger.new.Goals as goal

pub returns-clause-stands : goal.returns-clause-stands
returns-clause-stands c =
    let positive : 0 < c.args.width = omega arith in
    subst (λ (h : Held). NumberStands c.args.width (record { held = h; next = 0 }) (λ _. []) []) (sym c.in_ok-heads.ensures.new) (number_new c.args.width positive)

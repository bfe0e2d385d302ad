use Rattle.std.proofs.Common.{◌<◌, [], arith, subst, sym}
use Rattle.channel_heads.specs.Held.{Held}
use Rattle.order_merger.specs.Merging.{TurnStands}
use Rattle.order_merger.proofs.Standing.{turn_new}
use Rattle.order_merger.proofs.by_turns.TurnMerger.new.Goals as goal

pub returns-clause-stands : goal.returns-clause-stands
returns-clause-stands c =
    let positive : 0 < c.args.width = omega arith in
    subst (λ (h : Held). TurnStands c.args.width (record { held = h; turn = 0 }) (λ _. []) []) (sym c.in_ok-heads.ensures.new) (turn_new c.args.width positive)

use Rattle.std.proofs.Common.{◌<◌, [], arith, subst, sym}
use Rattle.spl_value.specs.Numbered.{ByPulses}
use Rattle.channel_heads.specs.Held.{Held, MergerHolds, MergerHolds.New}
use Rattle.pulse_rule.proofs.merger.PulseMerger.new.Goals as goal

pub returns-clause-stands : goal.returns-clause-stands
returns-clause-stands c =
    let positive : 0 < c.args.width = omega arith in
    subst (λ (h : Held). MergerHolds ByPulses c.args.width h (λ _. []) []) (sym c.in_ok-heads.ensures.new) (New positive)

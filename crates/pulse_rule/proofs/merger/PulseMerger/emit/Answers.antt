use Rattle.std.proofs.Common.{subst}
use Rattle.channel_heads.specs.Held.{Held}
use Rattle.channel_heads.proofs.Giving.{front_still}
use Rattle.pulse_rule.proofs.Standing.{Gives, pulse_emits, pulse_front, pulse_whole}
use Rattle.pulse_rule.proofs.merger.PulseMerger.emit.Goals as goal

pub returns-in-Some-clause-stands : goal.returns-in-Some-clause-stands
returns-in-Some-clause-stands c w taken given s =
    let next = c.in-Some.ensures in
    pulse_emits w c.in-Some.channel next.1 next.2 c.args.self.now c.give.new.self c.give.result
    (subst (λ (h : Held). Gives h c.give.new.self c.in-Some.channel c.give.result) c.self.view_is c.give.ensures.gives_head)
    (record { within = next.0; head = next.3; least = next.4; calm = next.5 }) taken given s

pub returns-in-Some-clause-front : goal.returns-in-Some-clause-front
returns-in-Some-clause-front c w taken given s a = pulse_front w _ taken _ (returns-in-Some-clause-stands c w taken given s) a

pub returns-in-None-clause-front : goal.returns-in-None-clause-front
returns-in-None-clause-front c w taken given s a = front_still given given _ (pulse_front w _ taken given s a)

pub returns-in-None-clause-whole : goal.returns-in-None-clause-whole
returns-in-None-clause-whole c _ w taken given s a uncut = pulse_whole w _ c.in-None.ensures taken given s a uncut

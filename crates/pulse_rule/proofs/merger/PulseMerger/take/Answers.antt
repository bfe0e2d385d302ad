use Rattle.std.proofs.Common.{◌∙◌, ap}
use Rattle.channel_heads.specs.Held.{Held, takes}
use Rattle.pulse_rule.proofs.Standing.{pulse_took}
use Rattle.pulse_rule.proofs.merger.PulseMerger.take.Goals as goal

pub returns-clause-stands : goal.returns-clause-stands
returns-clause-stands c w = pulse_took w _ _ _ _ (c.take.ensures.takes ∙ ap (λ (h : Held). takes c.args.channel c.args.packet h) c.self.view_is) c.requires.within c.requires.wants

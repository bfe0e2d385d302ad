use Rattle.channel_heads.proofs.Giving.{front_still}
use Rattle.order_merger.proofs.Standing.{number_emits, number_front, number_nothing}
use Rattle.order_merger.proofs.by_numbers.NumberMerger.emit.Goals as goal

pub returns-in-Some-clause-stands : goal.returns-in-Some-clause-stands
returns-in-Some-clause-stands c w taken given s =
    number_emits w _ _ _ _ _ _ _ c.self.view_is c.give-item.ensures.gives_head c.in-Some.ensures.0 c.in-Some.ensures.3 taken given s

pub returns-in-Some-clause-front : goal.returns-in-Some-clause-front
returns-in-Some-clause-front c w taken given s a =
    number_front w _ taken _ (number_emits w _ _ _ _ _ _ _ c.self.view_is c.give-item.ensures.gives_head c.in-Some.ensures.0 c.in-Some.ensures.3 taken given s) a

pub returns-in-None-clause-front : goal.returns-in-None-clause-front
returns-in-None-clause-front c w taken given s a = front_still given given _ (number_front w _ taken given s a)

pub returns-in-None-clause-whole : goal.returns-in-None-clause-whole
returns-in-None-clause-whole c _ w taken given s a uncut = number_nothing w _ _ _ c.self.view_is c.in-None.ensures taken given s a uncut

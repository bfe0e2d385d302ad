use Rattle.order_merger.proofs.Standing.{turn_takes}
use Rattle.order_merger.proofs.by_turns.TurnMerger.take.Goals as goal

pub returns-clause-stands : goal.returns-clause-stands
returns-clause-stands c w = turn_takes w _ _ _ _ _ _ c.self.view_is c.take.ensures.takes c.requires.within c.requires.wants

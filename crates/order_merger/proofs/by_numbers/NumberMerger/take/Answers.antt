use Rattle.order_merger.proofs.Standing.{number_takes}
use Rattle.order_merger.proofs.by_numbers.NumberMerger.take.Goals as goal

pub returns-clause-stands : goal.returns-clause-stands
returns-clause-stands c w = number_takes w _ _ _ _ _ _ c.self.view_is c.take.ensures.takes c.requires.within c.requires.wants

use Rattle.spl_driver.proofs.OneAccepted.{one_accepted, kept}
use Rattle.spl_driver.proofs.SomeAccepted.{some_accepted, too_long}
use Rattle.spl_driver.proofs.laws.accepted_law.Goals as goal

pub returns-clause-one : goal.returns-clause-one
returns-clause-one c = one_accepted c.tokens_law.ensures.lexed c.units_law.ensures.answer c.flat_law.ensures.one

pub returns-clause-some : goal.returns-clause-some
returns-clause-some c = some_accepted c.tokens_law.ensures.lexed c.units_law.ensures.some c.found_law.ensures.some

pub returns-clause-too_long : goal.returns-clause-too_long
returns-clause-too_long c = too_long

pub returns-clause-kept : goal.returns-clause-kept
returns-clause-kept c = kept c.keeps_law.ensures.keeps

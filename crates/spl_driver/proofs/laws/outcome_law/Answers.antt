use Rattle.spl_driver.proofs.Requests.{one_outcome, some_outcome, one_parts, some_parts}
use Rattle.spl_driver.proofs.laws.outcome_law.Goals as goal

pub returns-clause-one : goal.returns-clause-one
returns-clause-one c = one_outcome c.accepted_law.ensures.one c.accepted_law.ensures.kept c.format_law.ensures.one

pub returns-clause-some : goal.returns-clause-some
returns-clause-some c = some_outcome c.accepted_law.ensures.some c.accepted_law.ensures.kept c.format_law.ensures.some

pub returns-clause-one_parts : goal.returns-clause-one_parts
returns-clause-one_parts c = one_parts c.accepted_law.ensures.one

pub returns-clause-some_parts : goal.returns-clause-some_parts
returns-clause-some_parts c = some_parts c.accepted_law.ensures.some

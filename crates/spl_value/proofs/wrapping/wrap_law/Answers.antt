use Rattle.spl_value.proofs.WrapLaws.{wrapped_belongs, wrapped_congruent, one_wrapped, wrapped_kept}
use Rattle.spl_value.proofs.wrapping.wrap_law.Goals as goal

pub returns-clause-belongs : goal.returns-clause-belongs
returns-clause-belongs c = wrapped_belongs

pub returns-clause-congruent : goal.returns-clause-congruent
returns-clause-congruent c = wrapped_congruent

pub returns-clause-one : goal.returns-clause-one
returns-clause-one c = one_wrapped

pub returns-clause-kept : goal.returns-clause-kept
returns-clause-kept c = wrapped_kept

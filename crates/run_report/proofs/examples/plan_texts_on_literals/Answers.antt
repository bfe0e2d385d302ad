use Rattle.std.specs.Fmt.{digits}
use Rattle.std.proofs.Common.{refl}
use Rattle.run_report.proofs.examples.plan_texts_on_literals.Goals as goal

pub returns-clause-one_region : goal.returns-clause-one_region
unfolding digits
returns-clause-one_region c = refl

pub returns-clause-two_attributes : goal.returns-clause-two_attributes
unfolding digits
returns-clause-two_attributes c = refl

pub returns-clause-two_regions : goal.returns-clause-two_regions
unfolding digits
returns-clause-two_regions c = refl

pub returns-clause-apart : goal.returns-clause-apart
unfolding digits
returns-clause-apart c = refl

pub returns-clause-not_there : goal.returns-clause-not_there
unfolding digits
returns-clause-not_there c = refl

use Rattle.std.specs.Fmt.{digits}
use Rattle.std.proofs.Common.{refl}
use Rattle.run_report.proofs.examples.count_texts_on_literals.Goals as goal

pub returns-clause-two_sinks : goal.returns-clause-two_sinks
unfolding digits
returns-clause-two_sinks c = refl

pub returns-clause-two_regions : goal.returns-clause-two_regions
unfolding digits
returns-clause-two_regions c = refl

pub returns-clause-no_channel : goal.returns-clause-no_channel
unfolding digits
returns-clause-no_channel c = refl

pub returns-clause-not_there : goal.returns-clause-not_there
unfolding digits
returns-clause-not_there c = refl

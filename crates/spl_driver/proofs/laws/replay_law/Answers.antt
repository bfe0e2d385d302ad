use Rattle.spl_driver.proofs.ReplayLaw.{replay_law, same_files}
use Rattle.spl_driver.proofs.laws.replay_law.Goals as goal

pub returns-clause-outcome : goal.returns-clause-outcome
returns-clause-outcome c = replay_law c.accepted_law.ensures.kept c.format_law.ensures.whole

pub returns-clause-files : goal.returns-clause-files
returns-clause-files c =
    same_files c.accepted_law.ensures.kept c.format_law.ensures.one c.outcome_law.ensures.one (replay_law c.accepted_law.ensures.kept c.format_law.ensures.whole) c.format_law.ensures.whole

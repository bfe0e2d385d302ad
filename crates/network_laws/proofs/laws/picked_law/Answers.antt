use Rattle.network_laws.proofs.Picking.{chosen_law, enabled_law, event_law, none_law, picked_law, short_law}
use Rattle.network_laws.proofs.laws.picked_law.Goals as goal

pub returns-clause-enabled : goal.returns-clause-enabled
returns-clause-enabled c = enabled_law

pub returns-clause-chosen : goal.returns-clause-chosen
returns-clause-chosen c = chosen_law

pub returns-clause-event : goal.returns-clause-event
returns-clause-event c = event_law

pub returns-clause-none : goal.returns-clause-none
returns-clause-none c = none_law

pub returns-clause-picked : goal.returns-clause-picked
returns-clause-picked c = picked_law

pub returns-clause-short : goal.returns-clause-short
returns-clause-short c = short_law

use Rattle.stream_model.proofs.AggregateFits.{aggregate_fits}
use Rattle.stream_model.proofs.CheckedOperators.{checked_fits}
use Rattle.port_reacts.proofs.CustomFits.{custom_fits}
use Rattle.stream_model.proofs.FittingEvents.{of_kinds, reacts_fit}
use Rattle.stream_model.proofs.JoinFits.{join_fits}
use Rattle.stream_model.proofs.SimpleFits.{simple_fits}
use Rattle.port_reacts.proofs.fit_laws.fits_law.Goals as goal

pub returns-clause-makes : goal.returns-clause-makes
returns-clause-makes c = of_kinds simple_fits custom_fits aggregate_fits join_fits

pub returns-clause-reacts : goal.returns-clause-reacts
returns-clause-reacts c = reacts_fit (of_kinds simple_fits custom_fits aggregate_fits join_fits)

pub returns-clause-checked : goal.returns-clause-checked
returns-clause-checked c = checked_fits

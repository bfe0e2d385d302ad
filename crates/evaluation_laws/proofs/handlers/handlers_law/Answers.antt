use Rattle.evaluation_laws.proofs.FirstValues.{first_values_law}
use Rattle.evaluation_laws.proofs.Handling.{handler_submits, tuple_handler, marker_handler}
use Rattle.evaluation_laws.proofs.handlers.handlers_law.Goals as goal

pub returns : goal.returns
returns c = record { first = first_values_law; submits = handler_submits; tuples = tuple_handler; markers = marker_handler }

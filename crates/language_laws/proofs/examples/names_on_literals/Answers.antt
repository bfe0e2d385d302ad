use Rattle.language_laws.proofs.TwoPorts.{comparison_has_type, comparison_over_names}
use Rattle.language_laws.proofs.examples.names_on_literals.Goals as goal

pub returns-clause-typed : goal.returns-clause-typed
returns-clause-typed c = comparison_has_type

pub returns-clause-over_names : goal.returns-clause-over_names
returns-clause-over_names c = comparison_over_names

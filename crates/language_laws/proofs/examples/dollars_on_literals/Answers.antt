use Rattle.language_laws.proofs.SomeParameters.{five_stands, sum_has_type, other_is_unknown, refused_is_refused, first_counts}
use Rattle.language_laws.proofs.examples.dollars_on_literals.Goals as goal

pub returns : goal.returns
returns c = record { stands = five_stands; sum = sum_has_type; other = other_is_unknown; refused = refused_is_refused; first = first_counts }

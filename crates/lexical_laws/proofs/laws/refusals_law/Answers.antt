use Rattle.lexical_laws.proofs.Before.{before_law}
use Rattle.lexical_laws.proofs.Refusing.{refused_law, refusal_law}
use Rattle.lexical_laws.proofs.laws.refusals_law.Goals as goal

pub returns : goal.returns
returns c = record { shown = refused_law; refused = refusal_law; before = before_law }

use Rattle.language_laws.proofs.Closed.{closed_law, constant_law, no_dollars_fit}
use Rattle.language_laws.proofs.Mentioning.{mentioned_law, unused_law}
use Rattle.language_laws.proofs.typing.dollars_law.Goals as goal

pub returns : goal.returns
returns c = record { closed = closed_law; constant = constant_law; mentioned = mentioned_law; unused = unused_law; none = no_dollars_fit }

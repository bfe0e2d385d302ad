use Rattle.lexical_laws.proofs.Reading.{token_law}
use Rattle.lexical_laws.proofs.Writing.{written_law}
use Rattle.lexical_laws.proofs.laws.written_law.Goals as goal

pub returns : goal.returns
returns c = record { own = written_law; token = token_law }

use Rattle.check_laws.proofs.DollarsMeant as meant
use Rattle.check_laws.proofs.laws.dollar_meant_law.Goals as goal

pub returns : goal.returns
returns c = record { meant = meant.dollar_meant_law }

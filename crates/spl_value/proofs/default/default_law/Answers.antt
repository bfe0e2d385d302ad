use Rattle.spl_value.proofs.FitsLaws.{default_fits}
use Rattle.spl_value.proofs.default.default_law.Goals as goal

pub returns : goal.returns
returns c = default_fits

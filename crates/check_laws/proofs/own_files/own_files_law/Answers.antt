use Rattle.check_laws.proofs.OwnFiles.{law}
use Rattle.check_laws.proofs.own_files.own_files_law.Goals as goal

pub returns : goal.returns
returns c = record { own = law c.keeps_law.ensures.keeps }

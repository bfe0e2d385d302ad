use Rattle.std.proofs.Common.{[]}
use Rattle.program_tables.proofs.names.names_of.Goals as goal

pub returns : goal.returns
returns g c = c.in_ok-add_all.ensures [] c.new-names.ensures

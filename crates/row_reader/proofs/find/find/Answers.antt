use Rattle.row_reader.proofs.Finding.{found}
use Rattle.row_reader.proofs.find.find.Goals as goal

pub returns : goal.returns
returns c = found c.args.byte c.args.bytes.now c.memchr.result c.memchr.ensures

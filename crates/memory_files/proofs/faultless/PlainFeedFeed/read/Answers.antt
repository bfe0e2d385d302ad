use Rattle.std.proofs.Common.{length}
use Rattle.memory_files.proofs.Placing.{took, gave}
use Rattle.memory_files.proofs.faultless.PlainFeedFeed.read.Goals as goal

pub returns-clause-piece : goal.returns-clause-piece
returns-clause-piece c = gave c.args.self.now.bytes _ c.place-n.new.into c.args.self.now.at c.place-n.result (length c.args.into.now) c.as_slice.ensures c.requires c.place-n.ensures.count c.place-n.ensures.bytes

pub returns-clause-taken : goal.returns-clause-taken
returns-clause-taken c = took c.args.self.now.bytes _ c.place-n.new.into c.args.self.now.at c.place-n.result (length c.args.into.now) c.as_slice.ensures c.requires c.place-n.ensures.count c.place-n.ensures.bytes

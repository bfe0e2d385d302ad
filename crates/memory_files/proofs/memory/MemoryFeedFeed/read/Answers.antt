use Rattle.std.proofs.Common.{length}
use Rattle.memory_files.proofs.Placing.{took}
use Rattle.memory_files.proofs.Failing.{gave_script}
use Rattle.memory_files.proofs.memory.MemoryFeedFeed.read.Goals as goal

pub returns-clause-piece : goal.returns-clause-piece
returns-clause-piece c len =
    gave_script c.args.self.now.calls.made c.count.new.self.made c.args.self.now.at c.place-n.result (length c.args.into.now)
    c.args.self.now.calls.failing c.count.new.self.failing c.args.self.now.bytes _ c.place-n.new.into c.if-count.ensures.step c.if-count.ensures.failing
    c.as_slice.ensures len c.place-n.ensures.count c.place-n.ensures.bytes

pub returns-clause-taken : goal.returns-clause-taken
returns-clause-taken c = took c.args.self.now.bytes _ c.place-n.new.into c.args.self.now.at c.place-n.result (length c.args.into.now) c.as_slice.ensures c.requires c.place-n.ensures.count c.place-n.ensures.bytes

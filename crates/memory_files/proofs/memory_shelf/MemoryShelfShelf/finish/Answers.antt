use Rattle.memory_files.proofs.Finishing.{finished_front}
use Rattle.memory_files.proofs.memory_shelf.MemoryShelfShelf.finish.Goals as goal

pub returns-then-count-clause-told : goal.returns-then-count-clause-told
returns-then-count-clause-told c = finished_front c.put.result c.args.self.now.files.items _ c.args.self.now.failing_reads.items c.args.name.now c.args.out.poured.items _
    (c.put.ensures.known c.requires.1) c.put.ensures.ok c.into_bytes.ensures

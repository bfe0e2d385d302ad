use Rattle.memory_files.specs.Memory.{cut_before}
use Rattle.memory_files.specs.Plain.{plain_script}
use Rattle.memory_files.proofs.Cutting.{at_start, cut_script, whole_script}
use Rattle.memory_files.proofs.memory.MemoryFeed.new.Goals as goal

pub returns-clause-whole : goal.returns-clause-whole
returns-clause-whole c behind = at_start c.new.result.made c.args.failing c.new.result.failing c.args.bytes (plain_script c.args.bytes)
    c.new.ensures.made c.new.ensures.failing (whole_script c.args.failing c.args.bytes behind)

pub returns-clause-cut : goal.returns-clause-cut
returns-clause-cut c k first reached = at_start c.new.result.made c.args.failing c.new.result.failing c.args.bytes (cut_before k c.args.bytes)
    c.new.ensures.made c.new.ensures.failing (cut_script c.args.failing c.args.bytes k first reached)

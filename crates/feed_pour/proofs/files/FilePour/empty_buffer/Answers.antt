use Rattle.feed_pour.proofs.Gathered.{kept_behind}
use Rattle.feed_pour.proofs.files.FilePour.empty_buffer.Goals as goal

pub returns-then-self-len-clause-bytes : goal.returns-then-self-len-clause-bytes
returns-then-self-len-clause-bytes g c = kept_behind _ _ _ c.args.self.now.buffer.items c.deref.result.now c.args.self.now.written c.write_front.result
    c.deref.ensures.value c.write_front.ensures.bytes c.fault.ensures.bytes

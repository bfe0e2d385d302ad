use Rattle.std.proofs.Common.{rules}
use Rattle.op_kit.proofs.Events.{not_held}
use Rattle.op_kit.proofs.kind.Kind.new.Goals as goal

pub unreachable-requires-in-FileSource : goal.unreachable-requires-in-FileSource
unreachable-requires-in-FileSource c = not_held c.in-Some.part.now _ _ c.in-FileSource.is (c.requires.kind c.in-Some.part.now (search rules))

use Rattle.std.proofs.Common.{◌≡◌, drop}
use Rattle.stream_model.specs.CheckedMeaning.{graph_of}
use Rattle.stream_model.specs.Ends.{is_read}
use Rattle.stream_model.specs.Meaning.{Graph}
use Rattle.list_engine.proofs.readers.is_read.Given as goal

abbrev pub invariant-loop-number : goal.invariant-loop-number
invariant-loop-number l = (g : Graph) → graph_of l.checked ≡ g → is_read (drop l.number g.ops) l.stream ≡ is_read g.ops l.stream

use Rattle.std.proofs.Common.{◌≡◌, take}
use Rattle.std.specs.Prelude.{filter_map}
use Rattle.stream_numbering.specs.steps.StreamTable.{stream_in}
use Rattle.stream_numbering.proofs.operators.streams_taken.Given as goal

abbrev pub invariant-loop-source : goal.invariant-loop-source
invariant-loop-source l = l.ids ≡ filter_map (stream_in l.table) (take l.source-index l.sources)

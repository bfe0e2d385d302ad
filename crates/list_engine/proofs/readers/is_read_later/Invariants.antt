use Rattle.std.proofs.Common.{◌≡◌, drop}
use Rattle.stream_model.specs.CheckedMeaning.{graph_of}
use Rattle.stream_model.specs.Ends.{is_read}
use Rattle.stream_model.specs.Meaning.{Graph}
use Rattle.list_engine.specs.steps.Reading.{ops_at}
use Rattle.list_engine.proofs.readers.is_read_later.Given as goal

abbrev pub invariant-loop-number : goal.invariant-loop-number
invariant-loop-number l = (g : Graph) → graph_of l.checked ≡ g
    → is_read (ops_at g (drop l.number-index l.later)) l.stream ≡ is_read (ops_at g l.later) l.stream

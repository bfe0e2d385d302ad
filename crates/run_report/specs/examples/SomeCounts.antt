-- What runs counted, for worked cases of its text.
use Rattle.std.specs.Prelude.{ℕ, List}
use Rattle.stream_model.specs.declared.record.ChannelCount.{ChannelCount}
use Rattle.stream_model.specs.declared.record.Counts.{Counts}
use Rattle.stream_model.specs.declared.record.SinkCount.{SinkCount}

abbrev pub channel : (region channel events : ℕ) → ChannelCount
channel r c n = record { region = r; channel = c; events = n }

abbrev pub sink : (op tuples : ℕ) → SinkCount
sink op n = record { op = op; tuples = n }

abbrev pub counts_with : List ChannelCount → List SinkCount → Counts
counts_with channels sinks = record { channels = channels; sinks = sinks }

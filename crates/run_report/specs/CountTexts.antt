-- The text of what a run counted: a line for each channel of a region, and then one for each sink.
use Rattle.std.specs.Prelude.{ℕ, List, ◌++◌, flat_map, codes, Some}
use Rattle.std.specs.Fmt.{decimal}
use Rattle.language_model.specs.CheckedGraph.{CheckedGraph}
use Rattle.stream_model.specs.declared.record.ChannelCount.{ChannelCount}
use Rattle.stream_model.specs.declared.record.Counts.{Counts}
use Rattle.stream_model.specs.declared.record.SinkCount.{SinkCount}
use Rattle.run_report.specs.Texts.{operator_name}

-- the line of a channel: how many items the splitter of its region sent to it
abbrev pub channel_text : ChannelCount → List ℕ
channel_text n =
    codes "region " ++ decimal n.region ++ codes " channel " ++ decimal n.channel
    ++ codes " events " ++ decimal n.events ++ codes "\n"

-- the line of a sink: how many tuples it wrote
abbrev pub sink_line : CheckedGraph → SinkCount → List ℕ
sink_line c n = codes "sink " ++ operator_name (Some c) n.op ++ codes " tuples " ++ decimal n.tuples ++ codes "\n"

-- the channels and then the sinks, each in the order in which they were counted
abbrev pub counts_text : CheckedGraph → Counts → List ℕ
counts_text c counts = flat_map channel_text counts.channels ++ flat_map (sink_line c) counts.sinks

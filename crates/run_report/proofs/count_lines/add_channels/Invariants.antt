use Rattle.std.proofs.Common.{◌≡◌, ◌++◌, drop}
use Rattle.std.specs.Prelude.{flat_map}
use Rattle.run_report.specs.CountTexts.{channel_text}
use Rattle.run_report.proofs.count_lines.add_channels.Given as goal

abbrev pub invariant-loop-count : goal.invariant-loop-count
invariant-loop-count l = l.text.items ++ flat_map channel_text (drop l.count-index l.counts) ≡ l.fn.text.items ++ flat_map channel_text l.counts

use Rattle.std.proofs.Common.{◌≡◌, ◌++◌, drop}
use Rattle.std.specs.Prelude.{flat_map}
use Rattle.run_report.specs.CountTexts.{sink_line}
use Rattle.run_report.proofs.count_lines.add_sinks.Given as goal

abbrev pub invariant-loop-count : goal.invariant-loop-count
invariant-loop-count l = l.text.items ++ flat_map (sink_line l.checked) (drop l.count-index l.counts) ≡ l.fn.text.items ++ flat_map (sink_line l.checked) l.counts

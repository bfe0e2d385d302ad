use Rattle.std.proofs.Common.{◌≡◌, ◌-◌}
use Rattle.language_model.specs.parts.Checking.{each_stream}
use Rattle.language_model.specs.Numbering.{numbers_from}
use Rattle.language_model.specs.Finds.{with_front}
use Rattle.clause_rules.proofs.checking.each_stream.Given as goal

abbrev pub invariant-loop-stream : goal.invariant-loop-stream
invariant-loop-stream l =
    each_stream l.sites.unit.now l.graph (numbers_from 0 l.count)
    ≡ with_front l.schemas (each_stream l.sites.unit.now l.graph (numbers_from l.stream (l.count - l.stream)))

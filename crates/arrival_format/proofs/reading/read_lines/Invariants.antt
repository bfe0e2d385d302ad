use Rattle.arrival_format.specs.steps.Steps.{AreReadUpTo}
use Rattle.arrival_format.proofs.reading.read_lines.Given as goal

abbrev pub invariant-loop-number : goal.invariant-loop-number
invariant-loop-number l = AreReadUpTo l.checked l.number l.bytes l.lists l.rest

use Rattle.std.proofs.Common.{◌≡◌}
use Rattle.language_model.specs.parts.OutputTyping.{collected}
use Rattle.output_rules.proofs.outputs.groups.collected.Given as goal

abbrev pub invariant-loop-attribute : goal.invariant-loop-attribute
invariant-loop-attribute l = l.made ≡ collected l.yielded

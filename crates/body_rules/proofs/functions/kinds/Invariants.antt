use Rattle.std.proofs.Common.{◌≡◌}
use Rattle.language_model.specs.parts.FunctionTyping.{kinds}
use Rattle.body_rules.proofs.functions.kinds.Given as goal

abbrev pub invariant-loop-attribute : goal.invariant-loop-attribute
invariant-loop-attribute l = l.made ≡ kinds l.yielded

use Rattle.std.proofs.Common.{◌≡◌, take}
use Rattle.language_model.specs.Recursion.{function_callers}
use Rattle.cycle_rules.specs.steps.Named.{callers_seen}
use Rattle.cycle_rules.proofs.recursion.function_callers.Given as goal

abbrev pub invariant-loop-definition : goal.invariant-loop-definition
invariant-loop-definition l = callers_seen l.callers.items ≡ function_callers (take l.definition-index l.unit)

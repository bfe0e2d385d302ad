use Rattle.std.proofs.Common.{◌≡◌, take}
use Rattle.language_model.specs.Recursion.{composite_callers}
use Rattle.cycle_rules.specs.steps.Named.{callers_seen}
use Rattle.cycle_rules.proofs.recursion.composite_callers.Given as goal

abbrev pub invariant-loop-definition : goal.invariant-loop-definition
invariant-loop-definition l = callers_seen l.callers.items ≡ composite_callers (take l.definition-index l.unit)

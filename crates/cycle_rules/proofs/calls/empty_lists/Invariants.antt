use Rattle.cycle_rules.specs.steps.Callers.{AreEmpty}
use Rattle.cycle_rules.proofs.calls.empty_lists.Given as goal

abbrev pub invariant-loop : goal.invariant-loop
invariant-loop l = AreEmpty l.counter l.lists.items

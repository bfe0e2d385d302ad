use Rattle.std.proofs.Common.{◌≡◌, ◌++◌, drop}
use Rattle.language_model.specs.Parameters.{has_meaning}
use Rattle.dollar_rules.specs.steps.Heads.{passes_from}
use Rattle.dollar_rules.proofs.heads.meanings.Given as goal

abbrev pub invariant-loop-at : goal.invariant-loop-at
invariant-loop-at l =
    passes_from (has_meaning l.parameters l.arguments) 0 l.parameters
    ≡ l.meanings.items ++ passes_from (has_meaning l.parameters l.arguments) l.at (drop l.at l.parameters)

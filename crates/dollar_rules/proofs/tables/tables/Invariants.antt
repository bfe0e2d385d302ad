use Rattle.std.proofs.Common.{◌≡◌}
use Rattle.dollar_rules.specs.steps.Tables.{tables_of}
use Rattle.dollar_rules.proofs.tables.tables.Given as goal

abbrev pub invariant-loop-scope : goal.invariant-loop-scope
invariant-loop-scope l = l.tables ≡ tables_of l.yielded

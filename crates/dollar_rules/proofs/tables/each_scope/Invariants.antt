use Rattle.std.proofs.Common.{◌≡◌, ◌++◌, drop}
use Rattle.language_model.specs.Parameters.{dollar_tables, tables_from}
use Rattle.dollar_rules.specs.steps.Tables.{AreConstants, tables_of}
use Rattle.dollar_rules.proofs.tables.each_scope.Given as goal

abbrev pub invariant-loop-expansion : goal.invariant-loop-expansion
invariant-loop-expansion l = record {
  constants : AreConstants l.scopes.items;
  tables : dollar_tables l.sites.unit.now l.expansions
      ≡ tables_of l.scopes.items ++ tables_from l.sites.unit.now l.expansions (tables_of l.scopes.items) (drop l.expansion-index l.expansions);
}

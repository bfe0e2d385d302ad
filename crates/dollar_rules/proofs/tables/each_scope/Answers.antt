use Rattle.std.proofs.Common.{◌≡◌, ◌∙◌}
use Rattle.language_model.specs.Parameters.{constant_scope, dollar_tables, expansion_dollars}
use Rattle.dollar_rules.specs.steps.Tables.{tables_of}
use Rattle.dollar_rules.proofs.TablesGrown.{constants_more, tables_all, tables_more}
use Rattle.dollar_rules.proofs.tables.each_scope.Goals as goal

pub loop-expansion-preserved : goal.loop-expansion-preserved
loop-expansion-preserved c =
    let unit = c.args.sites.now.unit.now in
    let expansions = c.args.expansions.now in
    let xs = c.loop-expansion.scopes.items in
    let x = c.expansion-item.result in
    let inv = c.loop-expansion.invariant in
    let own : c.in_ok-own.own ≡ constant_scope (expansion_dollars unit expansions (tables_of xs) x) =
    c.in_ok-own.ensures
    ∙ (λ i. constant_scope (expansion_dollars unit (c.requires i) (tables_of (c.as_slice.ensures.value i)) x)) in record {
      constants = constants_more xs _ c.in_ok-own.own _ c.in_ok-push.ensures.items own inv.constants;
      tables = tables_more unit expansions (dollar_tables unit expansions) xs _ c.in_ok-own.own c.loop-expansion.expansion-index x c.loop-expansion-test.true c.expansion-item.is
          c.in_ok-push.ensures.items own inv.tables;
    }

pub returns : goal.returns
returns c = tables_all c.args.sites.now.unit.now c.args.expansions.now _ _ c.loop-expansion.expansion-index c.loop-expansion-test.false c.loop-expansion.invariant.tables

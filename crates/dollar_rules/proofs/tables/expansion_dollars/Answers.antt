use Rattle.std.proofs.Common.{◌≡◌, [], Some, Bor, ap, sym, ◌∙◌}
use Rattle.std.specs.Option.{option_map_or}
use Rattle.spl_tree.specs.declared.graph.Site.{Site}
use Rattle.language_model.specs.declared.scope.Scope.{Scope}
use Rattle.language_model.specs.Parameters.{table_at}
use Rattle.language_model.specs.DollarTargets.{composite_of}
use Rattle.written_types.specs.TypeScopes.{types_in}
use Rattle.dollar_rules.specs.steps.Tables.{tables_of}
use Rattle.dollar_rules.proofs.ExpansionDollars.{dollars_there, means_there, outer_dollars, settled_for}
use Rattle.dollar_rules.proofs.tables.expansion_dollars.Goals.{in-Some-site, in-None}
use Rattle.dollar_rules.proofs.tables.expansion_dollars.Goals as goal

pub returns : goal.returns
returns c =
    let x = c.args.expansion.now in
    let before = c.args.before.now in
    let unit = c.args.sites.now.unit.now in
    let there : Some c.in-Some.composite.now ≡ composite_of unit x = c.in-Some.ensures in
    let outer : c.match-expansion.outer.now.dollars ≡ option_map_or (λ s. table_at (tables_of before) s.expansion) x.site [] =
    elim c.match-expansion.branch [
      | in-Some-site w ↦
          ap (λ (b : Bor Scope). b.now.dollars) (w.outer-is ∙ w.unwrap_or-outer.ensures)
          ∙ outer_dollars before w.in-Some-site.site.expansion _ w.get.result w.get.ensures.lookup c.no_names-nothing.ensures
          ∙ ap (λ o. option_map_or (λ (s : Site). table_at (tables_of before) s.expansion) o []) (sym w.in-Some-site.is)
      | in-None w ↦
          ap (λ (b : Bor Scope). b.now.dollars) w.outer-is ∙ ap (λ (s : Scope). s.dollars) c.no_names-nothing.ensures
          ∙ ap (λ o. option_map_or (λ (s : Site). table_at (tables_of before) s.expansion) o []) (sym w.in-None.is)
    ] in
    settled_for _ _ _ c.settle_all.ensures
    (dollars_there unit c.args.sites.now.expansions.now (tables_of before) x c.in-Some.composite.now _ _ _ _ there
    (ap types_in c.in_ok-head.ensures.types ∙ means_there unit (composite_of unit x) c.in-Some.composite.now c.in-Some-types.types there c.in-Some-types.ensures)
    (ap (λ (s : Scope). s.dollars) c.in_ok-head.ensures.outer ∙ outer) (c.in_ok-head.ensures.arguments ∙ c.arguments-arguments.ensures) (c.in_ok-head.ensures.parameters ∙ c.as_slice.ensures))

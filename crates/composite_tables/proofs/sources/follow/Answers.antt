use Rattle.std.proofs.Common.{◌∙◌, ◌≤◌, ap, flat_map, sym, subst, length}
use Rattle.language_model.specs.Expansion.{sources_of}
use Rattle.composite_tables.specs.steps.Reading.{most_names}
use Rattle.composite_tables.specs.Inputs.{list_taken}
use Rattle.composite_tables.proofs.Following.{few_names, names_shown, names_smaller, one_smaller}
use Rattle.composite_tables.proofs.sources.follow.Goals as goal

pub returns-in_default-clause-size : goal.returns-in_default-clause-size
returns-in_default-clause-size c = one_smaller c.args.composites.now.unit.now c.args.number

pub returns-in-One-clause-size : goal.returns-in-One-clause-size
returns-in-One-clause-size c = one_smaller c.args.composites.now.unit.now c.args.number

pub returns-in-Port-clause-list : goal.returns-in-Port-clause-list
returns-in-Port-clause-list c = λ xs kept.
    let unit = c.args.composites.now.unit.now in
    let site = c.in-Port.site in
    ap (flat_map (λ n. sources_of xs site.expansion n.what)) (c.names_at.ensures ∙ names_shown unit c.args.bodies.now xs kept.shows site c.in-Port.port)
    ∙ ap (list_taken xs) (sym c.in-Port.is) ∙ (c.in-Some.ensures xs kept).taken

pub returns-in-Port-clause-size : goal.returns-in-Port-clause-size
returns-in-Port-clause-size c =
    let unit = c.args.composites.now.unit.now in
    let few : length c.names_at.result.now ≤ most_names unit =
    subst (λ ns. length ns ≤ most_names unit) (sym c.names_at.ensures) (few_names unit c.args.bodies.now c.in-Port.site c.in-Port.port)
    in
    names_smaller unit (record { number = c.in-Port.site.expansion; names = c.names_at.result }) c.args.number few c.if-site-number.true

pub returns-in-Port-2-clause-size : goal.returns-in-Port-2-clause-size
returns-in-Port-2-clause-size c = one_smaller c.args.composites.now.unit.now c.args.number

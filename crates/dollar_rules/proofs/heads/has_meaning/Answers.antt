use Rattle.std.proofs.Common.{◌≡◌, ℕ, List, Some, ap, sym, subst, ◌∙◌}
use Rattle.language_model.specs.Parameters.{parameter_place}
use Rattle.written_types.specs.Stepping.{LeadsWithin}
use Rattle.dollar_rules.proofs.Leading.{meaning_of_first, rows_within}
use Rattle.dollar_rules.proofs.heads.has_meaning.Goals as goal

pub leads_back-requires : goal.leads_back-requires
leads_back-requires c =
    let P : List (List ℕ) → Type 0 = λ rows. LeadsWithin rows in
    record { below = subst P (sym c.requires) (rows_within c.args.parameters.now c.args.arguments.now) }

pub returns-in_ok-leads_back-in-Some : goal.returns-in_ok-leads_back-in-Some
returns-in_ok-leads_back-in-Some c =
    let ps = c.args.parameters.now in
    let first : parameter_place ps c.args.parameter.now.name.what ≡ Some c.args.place =
    ap (parameter_place ps) (sym c.as_slice.ensures) ∙ sym c.in_ok-first.ensures ∙ c.in-Some.is ∙ ap Some c.if-first-place.true in
    meaning_of_first ps c.args.arguments.now c.args.leads.now c.args.place c.args.parameter.now _ c.requires first c.in_ok-leads_back-in-Some.ensures

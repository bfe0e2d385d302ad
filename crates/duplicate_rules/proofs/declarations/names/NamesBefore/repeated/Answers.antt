use Rattle.std.proofs.Common.{◌∷◌, ap, sym, ◌∙◌}
use Rattle.std.specs.List.{cons_option}
use Rattle.std.specs.Option.{option_copied}
use Rattle.duplicate_rules.specs.steps.NamesBefore.{Has, again}
use Rattle.duplicate_rules.proofs.NameRows.{passed_new, passed_old}
use Rattle.duplicate_rules.proofs.declarations.names.NamesBefore.repeated.Goals.{then-added, else-added}
use Rattle.duplicate_rules.proofs.declarations.names.NamesBefore.repeated.Goals as goal

pub returns-in_default : goal.returns-in_default
returns-in_default g c = λ before hold.
    (before, hold, λ rest. ap (λ o. again before (cons_option o rest)) (sym c.own_name.ensures ∙ ap option_copied c.in_default.is))

pub returns : goal.returns
returns g c = λ before hold.
    let adds = c.in_ok-added.ensures before hold in
    let own = sym c.own_name.ensures ∙ ap option_copied c.in-Some.is in
    let name = c.in-Some.name.now in (
      name ∷ before,
      adds.1,
      λ rest.
          elim c.if-added.branch [
            | then-added w ↦
                ap (λ o. again before (cons_option o rest)) own ∙ passed_new (λ before n. Has n before) before name rest c.in_ok-added.added adds.0 w.if-added.true
                ∙ ap (λ o. cons_option (option_copied o) (again (name ∷ before) rest)) (sym w.result-is)
            | else-added w ↦
                ap (λ o. again before (cons_option o rest)) own ∙ passed_old (λ before n. Has n before) before name rest c.in_ok-added.added adds.0 w.if-added.false
                ∙ ap (λ o. cons_option (option_copied o) (again (name ∷ before) rest)) (sym w.result-is)
          ],
    )

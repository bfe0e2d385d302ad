use Rattle.std.proofs.Common.{ap, sym, ◌∙◌}
use Rattle.spl_value.specs.declared.types.SplType.TheViews.{out-SplType}
use Rattle.spl_tree.specs.declared.code.Code.TheViews.{out-Code}
use Rattle.spl_tree.specs.declared.code.Slot.{Slot}
use Rattle.language_model.specs.Typing.{changed_typed, level_changed}
use Rattle.language_model.specs.TypingLaws.{parted, parts}
use Rattle.language_model.specs.StatementTyping.{change_made, level_place, place_given}
use Rattle.type_rules.proofs.statements.changing.Goals as goal
use Rattle.language_model.proofs.FoundAnswers.{finds_by, goes}
use Rattle.type_rules.proofs.CallLaws.{changing_law}
use Rattle.type_rules.proofs.PlacesFound.{behind_place}

pub returns : goal.returns
returns c =
    let at = c.args.at in
    let scope = c.args.scope.now in
    let call = c.args.call in
    let first = c.in_ok-first.first.now in
    let rest = parts c.in_ok-first.rest.now in
    let x = c.in_ok-typed.typed in
    finds_by _ _ _ (changing_law at scope call (parts c.args.all.now))
    (goes _ _ (parted first, rest) _ c.in_ok-first.ensures.found
    (goes _ _ x _ c.in_ok-typed.ensures
    (goes _ _ c.in_ok-others.others _
    (ap (λ k. changed_typed at scope (parted first) rest (level_changed call (out-SplType k))) (sym c.get.ensures) ∙ c.in_ok-others.ensures)
    (finds_by _ _ _ (behind_place (place_given first.at x.kind (level_place (out-Code Slot x.code))) (λ p. change_made at call p.place c.in_ok-others.others))
    (goes _ _ (c.in_ok-place.place, c.in_ok-place.field-0-1) _ c.in_ok-place.ensures c.change_made.ensures)))))

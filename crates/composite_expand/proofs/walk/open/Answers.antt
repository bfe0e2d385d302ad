use Rattle.std.proofs.Common.{◌≡◌, ◌∙◌, ◌++◌, ◌∷◌, [], List, length, refl, sym, ap}
use Rattle.composite_expand.specs.declared.walk.Opened.{Opened}
use Rattle.composite_expand.proofs.Steps.{body_opened}
use Rattle.composite_expand.proofs.walk.open.Goals as goal

pub returns : goal.returns
returns c = λ unit main d none is known target fits place.
    let q : Opened = record { composite = c.args.place; number = c.in-Ok.number; next = 0; prefix = length c.as_slice.result.now; ops = c.len-2.result } in
    let first : c.push-3.new.self ≡ c.args.walk.now.opened ++ c.in_ok-on.on ∷ [] = c.in_ok-push-3.ensures.ok in
    let second : c.push-4.new.self ≡ c.push-3.new.self ++ q ∷ [] = c.in_ok-push-4.ensures.ok in
    body_opened unit main c.args.walk.now c.args.top c.args.scope.now.composite.now c.args.invocation.now is _ c.in_ok-on.on q d _ c.in_ok-row.row none known target fits
    c.in_ok-on.ensures (sym place) (c.in-Ok.ensures.1 ∙ c.len.ensures) refl (ap length c.as_slice.ensures.value) c.len-2.ensures
    (second ∙ ap (λ (xs : List Opened). xs ++ q ∷ []) first) c.in_ok-enter.ensures refl refl (sym place) refl c.in_ok-push.ensures.ok
    c.in_ok-push-2.ensures.ok (c.in_ok-row.ensures unit main d is fits) refl

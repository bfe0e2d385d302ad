use Rattle.std.proofs.Common.{◌≡◌, ◌∙◌, length, cond, ap, sym, is_some, Some, arith}
use Rattle.std.specs.Str.{bytes_eq}
use Rattle.language_model.specs.steps.Signatures.{placed_from}
use Rattle.language_model.proofs.Placing.{gets_place, keeps_place, ok_holds}
use Rattle.language_model.proofs.signatures.Signatures.push.Goals as goal

pub invariant_of-self-then-contains_key : goal.invariant_of-self-then-contains_key
invariant_of-self-then-contains_key c = λ name.
    let list = c.self.inside.list in
    let f = c.args.signature in
    let is = c.in_ok-name.ensures ∙ c.as_slice.ensures in
    let has = ap (λ n. is_some (placed_from n 0 list)) (sym is) ∙ ap is_some (sym (c.self.invariant c.in_ok-name.name)) ∙ sym c.contains_key.ensures ∙ c.if-contains_key.true in
    c.self.invariant name ∙ keeps_place list f has name ∙ ap (placed_from name 0) (sym c.in_ok-push.ensures.ok)

pub invariant_of-self-else-is_err : goal.invariant_of-self-else-is_err
invariant_of-self-else-is_err c = λ name.
    let list = c.self.inside.list in
    let f = c.args.signature in
    let is = c.in_ok-name.ensures ∙ c.as_slice.ensures in
    let has = ap (λ n. is_some (placed_from n 0 list)) (sym is) ∙ ap is_some (sym (c.self.invariant c.in_ok-name.name)) ∙ sym c.contains_key.ensures ∙ c.if-contains_key.false in
    let place : c.in-Ok.place ≡ length list = grind arith in
    let updates = ok_holds c.insert.result (sym c.is_err.ensures.value ∙ c.if-is_err.false) c.insert.ensures.updates in
    updates.0 name
    ∙ (λ i. cond (bytes_eq (is i) name) (Some (place i)) (c.self.invariant name i))
    ∙ gets_place list f has name
    ∙ ap (placed_from name 0) (sym c.in_ok-push.ensures.ok)

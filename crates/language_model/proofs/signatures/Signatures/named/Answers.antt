use Rattle.std.proofs.Common.{◌≡◌, ap, sym, subst, ◌∙◌, None}
use Rattle.std.specs.Option.{option_copied}
use Rattle.std.specs.Str.{bytes_eq}
use Rattle.language_model.specs.Finds.{Points}
use Rattle.language_model.specs.Scopes.{first_from}
use Rattle.language_model.proofs.Placing.{placed_here, placed_there, unplaced}
use Rattle.language_model.proofs.signatures.Signatures.named.Goals as goal

pub returns-in_err-place : goal.returns-in_err-place
returns-in_err-place c =
    let name = c.args.name.now in
    let list = c.self.inside.list in
    let none = sym (c.self.invariant name) ∙ sym c.get.ensures.value ∙ ap option_copied c.in_err-place.was in
    let o = first_from (λ f. bytes_eq f.name name) 0 c.args.self.now in
    let absent : o ≡ None = ap (first_from (λ f. bytes_eq f.name name) 0) (sym c.self.view_is) ∙ unplaced name list none in
    subst (λ r. Points o r) (sym c.from_residual.ensures) absent

pub returns-in_err-found : goal.returns-in_err-found
returns-in_err-found c =
    let name = c.args.name.now in
    let list = c.self.inside.list in
    let place = c.in_ok-place.field-0.now in
    let placed = sym (c.self.invariant name) ∙ sym c.get.ensures.value ∙ ap option_copied c.in_ok-place.was in
    placed_there name place list placed (sym c.get-2.ensures.value ∙ ap option_copied c.in_err-found.was)

pub returns : goal.returns
returns c =
    let name = c.args.name.now in
    let list = c.self.inside.list in
    let place = c.in_ok-place.field-0.now in
    let placed = sym (c.self.invariant name) ∙ sym c.get.ensures.value ∙ ap option_copied c.in_ok-place.was in
    ap (first_from (λ f. bytes_eq f.name name) 0) (sym c.self.view_is)
    ∙ placed_here name place list c.in_ok-found.found.now placed (sym c.get-2.ensures.value ∙ ap option_copied c.in_ok-found.was)

use Rattle.std.proofs.Common.{ap, sym, ◌∙◌}
use Rattle.std.specs.Option.{option_map}
use Rattle.language_model.specs.Scopes.{at_place}
use Rattle.composite_tables.specs.Names.{composite_names}
use Rattle.composite_tables.proofs.Naming.{unnamed, is_named, is_there}
use Rattle.composite_tables.proofs.tables.Composites.named.Goals as goal

pub returns-in_err-place : goal.returns-in_err-place
returns-in_err-place c =
    let unit = c.args.self.now.unit.now in
    let name = c.args.name.now in
    let placed = sym (c.place.ensures (composite_names unit) c.args.self.now.names_stand) in
    ap (option_map (λ p. at_place p.0 p.1.now.composite.now)) c.from_residual.ensures ∙ sym (unnamed unit name (placed ∙ c.in_err-place.was))

pub returns-in_err-scope : goal.returns-in_err-scope
returns-in_err-scope c =
    let unit = c.args.self.now.unit.now in
    let name = c.args.name.now in
    let placed = sym (c.place.ensures (composite_names unit) c.args.self.now.names_stand) in
    let place = c.in_ok-place.place in
    absurd (is_there unit name place (placed ∙ c.in_ok-place.was) (sym c.scope_at.ensures ∙ ap (option_map (λ s. s.now.composite.now)) c.in_err-scope.was))

pub returns : goal.returns
returns c =
    let unit = c.args.self.now.unit.now in
    let name = c.args.name.now in
    let placed = sym (c.place.ensures (composite_names unit) c.args.self.now.names_stand) in
    let place = c.in_ok-place.place in
    is_named unit name place c.in_ok-scope.scope.now.composite.now (placed ∙ c.in_ok-place.was) (sym c.scope_at.ensures ∙ ap (option_map (λ s. s.now.composite.now)) c.in_ok-scope.was)

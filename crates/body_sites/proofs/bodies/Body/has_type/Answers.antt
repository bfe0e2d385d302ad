use Rattle.std.proofs.Common.{◌≡◌, ap, ◌∙◌, is_some}
use Rattle.language_model.specs.Names.{is_named}
use Rattle.language_model.specs.TypeNames.{definition_of, type_definitions}
use Rattle.body_sites.specs.Names.{type_names_of}
use Rattle.body_sites.proofs.BodyTypes.{defined_among, type_here, type_outside}
use Rattle.body_sites.proofs.bodies.Body.has_type.Goals as goal

pub returns-then-has_type : goal.returns-then-has_type
returns-then-has_type c =
    let body = c.args.self.now in
    let name = c.args.name.now in
    let own : c.has_type.result ≡ is_some (definition_of body.composite.now.types name) =
    c.has_type.ensures ∙ ap (λ k. is_named (type_names_of k.types) name) body.named ∙ defined_among name body.composite.now.types in
    type_here _ _ c.has_type.result own c.if-has_type.true

pub returns-else-has_type : goal.returns-else-has_type
returns-else-has_type c =
    let body = c.args.self.now in
    let name = c.args.name.now in
    let own : c.has_type.result ≡ is_some (definition_of body.composite.now.types name) =
    c.has_type.ensures ∙ ap (λ k. is_named (type_names_of k.types) name) body.named ∙ defined_among name body.composite.now.types in
    type_outside _ _ c.has_type.result c.has_type-else-has_type.result own c.if-has_type.false
    (c.has_type-else-has_type.ensures ∙ defined_among name (type_definitions c.args.sites.now.unit.now))

use Rattle.std.proofs.Common.{ap, ◌∙◌}
use Rattle.std.specs.Option.{option_map}
use Rattle.stream_numbering.proofs.InvokedSites.{composite_there, no_composite_there}
use Rattle.stream_numbering.proofs.standing.Standing.scope.Goals as goal

pub returns-in_err-body : goal.returns-in_err-body
returns-in_err-body c = λ parts described.
    ap (option_map (λ s. s.now.composite.now)) c.from_residual.ensures
    ∙ no_composite_there parts c.args.number c.args.self.now.bodies.now described.bodies c.in_err-body.ensures.lookup.3

pub returns : goal.returns
returns c = λ parts described.
    c.scope_at.ensures
    ∙ composite_there parts c.args.number c.args.self.now.bodies.now described.bodies _ c.in_ok-body.body.now described.composites
    c.in_ok-body.ensures.lookup.3.0 c.in_ok-body.ensures.lookup.1

use Rattle.std.proofs.Common.{refl, ◌∙◌}
use Rattle.composite_expand.proofs.Begin.{begin}
use Rattle.composite_expand.proofs.walk.begun.Goals as goal

pub returns : goal.returns
returns c = λ m starts.
    begin c.args.composites.now.unit.now c.args.main m starts _
    c.in_ok-opened.ensures
    c.new.ensures.items c.new-2.ensures
    c.in_ok-bodies.ensures
    c.in_ok-inputs.ensures
    refl (c.in_ok-idle.ensures.0 ∙ c.count.ensures) c.in_ok-idle.ensures.1

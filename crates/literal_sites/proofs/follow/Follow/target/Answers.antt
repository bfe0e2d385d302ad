use Rattle.std.specs.Prelude.{◌-◌}
use Rattle.std.proofs.Common.{ap, ◌∙◌}
use Rattle.language_model.specs.DollarTargets.{Outside}
use Rattle.literal_sites.proofs.Following.{follow_step, outside}
use Rattle.literal_sites.proofs.follow.Follow.target.Goals as goal

pub expansions-preserved : goal.expansions-preserved
expansions-preserved c =
    let f = c.args.self.now in
    c.expansions.invariant
    ∙ follow_step f.sites.now.unit.now f.sites.now.expansions.now c.expansions.left c.expansions.number c.expansions.expr.now c.in_ok-expansion.expansion.now
    (Outside c.in-Outside.argument.now) c.expansions-test.true c.in_ok-expansion.ensures c.in-Outside.ensures
    ∙ ap (λ site. outside f.sites.now.unit.now f.sites.now.expansions.now (c.expansions.left - 1) site c.in-Outside.argument.now) c.in_ok-site.was

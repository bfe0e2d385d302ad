use Rattle.std.proofs.Common.{◌≡◌, length}
use Rattle.language_model.specs.DollarTargets.{expression_within}
use Rattle.literal_sites.proofs.follow.Follow.target.Given as goal

abbrev pub invariant-expansions : goal.invariant-expansions
invariant-expansions l =
    expression_within (length l.self.sites.now.expansions.now) l.self.sites.now.unit.now l.self.sites.now.expansions.now l.initial.number l.initial.expr
    ≡ expression_within l.left l.self.sites.now.unit.now l.self.sites.now.expansions.now l.number l.expr

abbrev pub decreases-expansions : goal.decreases-expansions
decreases-expansions l = l.left

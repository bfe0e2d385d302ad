use Rattle.std.proofs.Common.{◌≡◌, length}
use Rattle.language_model.specs.DollarTargets.{parameter_target}
use Rattle.literal_sites.proofs.follow.parameter_target.Given as goal

abbrev pub invariant-defaults : goal.invariant-defaults
invariant-defaults l = parameter_target (length l.heads) l.heads l.arguments l.initial.name ≡ parameter_target l.left l.heads l.arguments l.name

abbrev pub decreases-defaults : goal.decreases-defaults
decreases-defaults l = l.left

-- What calls answer on the values of `$` parameters, as the definitions see it.
use Rattle.language_model.specs.DollarTargets as D
use Rattle.literal_sites.specs.declared.follow.Target.{Target}
use Rattle.literal_sites.specs.declared.follow.Target.TheVariants as B

abbrev pub target_seen : Target → D.Target
target_seen (B.Here e) = D.Here e.now
target_seen (B.Outside e) = D.Outside e.now
target_seen B.Nowhere = D.Nowhere

use Rattle.std.proofs.Common.{◌∙◌}
use Rattle.spl_value.specs.declared.types.SplType.TheVariants as T
use Rattle.speed.proofs.Fitting.{both_fit, fits_as}
use Rattle.speed.proofs.evaluations.both.Goals as goal

pub truths-requires : goal.truths-requires
truths-requires c = fits_as T.Bool _ _ _ _ c.requires.none (c.get.ensures ∙ c.in_ok-code.ensures) c.requires.row both_fit

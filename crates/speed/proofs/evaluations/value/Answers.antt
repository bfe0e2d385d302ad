use Rattle.std.proofs.Common.{◌∙◌}
use Rattle.spl_value.specs.declared.types.SplType.TheVariants as T
use Rattle.speed.proofs.Fitting.{above_fits, fits_as}
use Rattle.speed.proofs.evaluations.value.Goals as goal

pub values-requires : goal.values-requires
values-requires c = fits_as T.Bool _ _ _ _ c.requires.none (c.get.ensures ∙ c.in_ok-code.ensures) c.requires.row above_fits

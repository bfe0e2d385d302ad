use Rattle.std.proofs.Common.{◌∙◌}
use Rattle.spl_value.specs.declared.types.SplType.TheVariants as T
use Rattle.speed.specs.Samples.{pair}
use Rattle.speed.proofs.Fitting.{swapped_fits, fits_as}
use Rattle.speed.proofs.evaluations.tuple_reused.Goals as goal

pub reused-requires : goal.reused-requires
reused-requires c = fits_as (T.Tuple pair) _ _ _ _ c.requires.none (c.get.ensures ∙ c.in_ok-code.ensures) c.requires.row swapped_fits

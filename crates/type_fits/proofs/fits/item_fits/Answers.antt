use Rattle.std.proofs.Common.{◌∙◌, ap, sym}
use Rattle.spl_value.specs.Numbered.{item_fits}
use Rattle.spl_value.specs.Values.{tuple_fits}
use Rattle.spl_value.proofs.FitsLaws.{fits_tuple}
use Rattle.type_fits.proofs.fits.item_fits.Goals as goal

pub returns-in-Tuple : goal.returns-in-Tuple
returns-in-Tuple c =
    c.tuple_fits.ensures ∙ ap (tuple_fits c.args.schema.now) c.as_slice.ensures ∙ sym (fits_tuple c.args.schema.now c.in-Tuple.values)
    ∙ ap (item_fits c.args.schema.now) (sym c.in-Tuple.is)

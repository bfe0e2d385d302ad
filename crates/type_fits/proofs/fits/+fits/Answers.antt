use Rattle.std.proofs.Common.{◌∙◌, ap, sym}
use Rattle.spl_value.specs.declared.value.Value.TheVariants as V
use Rattle.spl_value.specs.Values.{fits, tuple_fits}
use Rattle.spl_value.proofs.FitsLaws.{fits_tuple}
use Rattle.std.specs.List.{list_all}
use Rattle.type_fits.proofs.Maps.{held_so, keys_not}
use Rattle.type_fits.proofs.fits.+fits.Goals as goal

pub value_fits-returns-in-Tuple-value : goal.value_fits-returns-in-Tuple-value
value_fits-returns-in-Tuple-value t c =
    c.tuple_fits.ensures ∙ ap (λ schema. tuple_fits schema c.as_slice-in-Tuple-value-2.result.now) c.as_slice-in-Tuple-value.ensures
    ∙ ap (tuple_fits c.in-Tuple.schema) c.as_slice-in-Tuple-value-2.ensures
    ∙ sym (fits_tuple c.in-Tuple.schema c.in-Tuple-value.values)
    ∙ ap (λ k. fits k (V.Tuple c.in-Tuple-value.values)) (sym c.in-Tuple.is) ∙ ap (λ v. fits c.args.kind.now v) (sym c.in-Tuple-value.is)

pub value_fits-returns-then-not-keys_fit : goal.value_fits-returns-then-not-keys_fit
value_fits-returns-then-not-keys_fit t c =
    keys_not c.in-Map.key c.in-Map.kind c.in-Map-value.pairs (sym c.keys_rise.ensures ∙ c.if-not-keys_rise.false)
    (ap (λ k. list_all (λ p. fits k p.0) c.in-Map-value.pairs) (sym c.get-in-Map-value.ensures) ∙ sym c.keys_fit.ensures ∙ c.if-not-keys_fit.true)
    ∙ ap (λ k. fits k (V.Map c.in-Map-value.pairs)) (sym c.in-Map.is) ∙ ap (fits c.args.kind.now) (sym c.in-Map-value.is)

pub value_fits-returns-else-not-keys_fit : goal.value_fits-returns-else-not-keys_fit
value_fits-returns-else-not-keys_fit t c =
    c.held_fit.ensures ∙ ap (λ k. list_all (λ p. fits k p.1) c.in-Map-value.pairs) c.get-in-Map-value-2.ensures
    ∙ held_so c.in-Map.key c.in-Map.kind c.in-Map-value.pairs (sym c.keys_rise.ensures ∙ c.if-not-keys_rise.false)
    (ap (λ k. list_all (λ p. fits k p.0) c.in-Map-value.pairs) (sym c.get-in-Map-value.ensures) ∙ sym c.keys_fit.ensures ∙ c.if-not-keys_fit.false)
    ∙ ap (λ k. fits k (V.Map c.in-Map-value.pairs)) (sym c.in-Map.is) ∙ ap (fits c.args.kind.now) (sym c.in-Map-value.is)

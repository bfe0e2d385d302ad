use Rattle.std.proofs.Common.{◌≡◌, drop}
use Rattle.std.specs.List.{list_all}
use Rattle.std.specs.Cmp.Lexicographic.{pointwise}
use Rattle.spl_value.specs.Values.{fits}
use Rattle.type_fits.proofs.fits.+fits.Given as goal

abbrev pub invariant-all_fit-loop-value : goal.invariant-all_fit-loop-value
invariant-all_fit-loop-value l = list_all (fits l.fn.kind) (drop l.value-index l.fn.values) ≡ list_all (fits l.fn.kind) l.fn.values

abbrev pub invariant-keys_fit-loop-pair : goal.invariant-keys_fit-loop-pair
invariant-keys_fit-loop-pair l = list_all (λ p. fits l.fn.kind p.0) l.pair-iterator ≡ list_all (λ p. fits l.fn.kind p.0) l.fn.pairs

abbrev pub invariant-held_fit-loop-pair : goal.invariant-held_fit-loop-pair
invariant-held_fit-loop-pair l = list_all (λ p. fits l.fn.kind p.1) l.pair-iterator ≡ list_all (λ p. fits l.fn.kind p.1) l.fn.pairs

abbrev pub invariant-tuple_fits-loop-value : goal.invariant-tuple_fits-loop-value
invariant-tuple_fits-loop-value l = (pointwise (λ a v. fits a.kind v) (drop l.at l.fn.schema) (drop l.at l.fn.values) ≡ pointwise (λ a v. fits a.kind v) l.fn.schema l.fn.values) × (l.at ≡ l.value-index)

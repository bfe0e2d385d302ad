use Rattle.std.proofs.Common.{rules, ◌≡◌, ◌∷◌, []}
use Rattle.element_tests.proofs.Numbers.{number_fits, number_key}
use Rattle.element_tests.proofs.spoken.tuple_of.Goals as goal

pub returns-clause-fits : goal.returns-clause-fits
returns-clause-fits c =
    let is : c.from_vec.result ≡ c.integer-value.result ∷ [] = search rules in
    number_fits c.integer-value.result c.from_vec.result is c.integer-value.ensures.fits

pub returns-clause-key : goal.returns-clause-key
returns-clause-key c =
    let is : c.from_vec.result ≡ c.integer-value.result ∷ [] = search rules in
    number_key c.integer-value.result c.from_vec.result is c.integer-value.ensures.key

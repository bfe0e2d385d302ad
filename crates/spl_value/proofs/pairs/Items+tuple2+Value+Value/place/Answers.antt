use Rattle.std.proofs.Common.{rules}
use Rattle.std.proofs.lemmas.Fn.{always_returns_same}
use Rattle.spl_value.specs.Order.{value_cmp}
use Rattle.spl_value.proofs.PairsLaws.{place_of_key}
use Rattle.spl_value.proofs.pairs.Items+tuple2+Value+Value.place.Goals as goal

pub returns : goal.returns
returns c =
    let found = c.binary_search_by.ensures.position (λ p. value_cmp p.0 c.args.key.now) (always_returns_same _ _ _ (λ a r f' k. search rules)) in
    place_of_key c.args.key.now c.args.self.now c.binary_search_by.result c.requires
    (rw (← c.as_slice.ensures) c.binary_search_by.ensures.bound)
    (rw (← c.as_slice.ensures) found)

use Rattle.spl_value.proofs.PairsLaws.{keys_rise, pairs_from_rise, get_from_Contains, Contains_from_get, same_pairs, get-put, get-put_other, put_are_pairs, get-without, get-without_other, without_are_pairs}
use Rattle.spl_value.proofs.pairs.pairs_law.Goals as goal

pub returns-clause-rise : goal.returns-clause-rise
returns-clause-rise c = λ ps. (keys_rise ps, pairs_from_rise ps)

pub returns-clause-get : goal.returns-clause-get
returns-clause-get c = λ ps k v s. (Contains_from_get ps k v, get_from_Contains ps k v s)

pub returns-clause-same : goal.returns-clause-same
returns-clause-same c = same_pairs

pub returns-clause-put : goal.returns-clause-put
returns-clause-put c = get-put

pub returns-clause-put_others : goal.returns-clause-put_others
returns-clause-put_others c = get-put_other

pub returns-clause-put_sorted : goal.returns-clause-put_sorted
returns-clause-put_sorted c = put_are_pairs

pub returns-clause-without : goal.returns-clause-without
returns-clause-without c = get-without

pub returns-clause-without_others : goal.returns-clause-without_others
returns-clause-without_others c = get-without_other

pub returns-clause-without_sorted : goal.returns-clause-without_sorted
returns-clause-without_sorted c = without_are_pairs

use Rattle.spl_value.proofs.KeyLaws.{key_places, key_types, same_bytes, same_places, one_key}
use Rattle.spl_value.proofs.key.key_law.Goals as goal

pub returns-clause-places : goal.returns-clause-places
returns-clause-places c = key_places

pub returns-clause-types : goal.returns-clause-types
returns-clause-types c = key_types

pub returns-clause-same : goal.returns-clause-same
returns-clause-same c = same_bytes

pub returns-clause-one : goal.returns-clause-one
returns-clause-one c = one_key

pub returns-clause-places_as_a_set : goal.returns-clause-places_as_a_set
returns-clause-places_as_a_set c = same_places

use Rattle.std.proofs.Common.{◌≡◌, take, true}
use Rattle.spl_value.specs.Key.{fnv, are_key_places, enc}
use Rattle.spl_value.proofs.key.hash_key.Given as goal

abbrev pub invariant-loop-place : goal.invariant-loop-place
invariant-loop-place l = record {
  places : are_key_places l.values l.places ≡ true;
  hash : l.state ≡ fnv (enc (take l.place l.values) l.places);
}

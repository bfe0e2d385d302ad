use Rattle.std.proofs.Common.{◌≡◌, map, take}
use Rattle.std.specs.Prelude.{filter_map}
use Rattle.std.specs.HashMap as hash
use Rattle.std.specs.Str.{bytes_eq}
use Rattle.cycle_rules.specs.steps.Named.{name_seen, found_place}
use Rattle.cycle_rules.proofs.recursion.call_places.Given as goal

abbrev pub invariant-loop-name : goal.invariant-loop-name
invariant-loop-name l = l.list ≡ filter_map (found_place (λ q. hash.get_by (λ k. bytes_eq q k.now) l.places)) (map name_seen (take l.name-index l.caller.called.items))

use Rattle.std.proofs.Common.{◌≡◌, map, take}
use Rattle.std.specs.Prelude.{filter_map}
use Rattle.std.specs.HashMap as hash
use Rattle.std.specs.Str.{bytes_eq}
use Rattle.cycle_rules.specs.steps.Named.{callers_seen, found_place}
use Rattle.cycle_rules.proofs.recursion.add_calls.Given as goal

abbrev pub invariant-loop-caller : goal.invariant-loop-caller
invariant-loop-caller l = l.calls.items ≡ map (λ c. filter_map (found_place (λ q. hash.get_by (λ k. bytes_eq q k.now) l.places)) c.called) (callers_seen (take l.caller-index l.callers))

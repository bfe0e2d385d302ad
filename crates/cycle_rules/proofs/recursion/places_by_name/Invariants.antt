use Rattle.std.proofs.Common.{◌≡◌, ℕ, List, drop}
use Rattle.std.specs.HashMap as hash
use Rattle.std.specs.Str.{bytes_eq}
use Rattle.cycle_rules.specs.steps.Named.{callers_seen, place_from}
use Rattle.cycle_rules.proofs.recursion.places_by_name.Given as goal

abbrev pub invariant-loop-place : goal.invariant-loop-place
invariant-loop-place l = (q : List ℕ) → hash.get_by (λ k. bytes_eq q k.now) l.places ≡ place_from l.place (callers_seen (drop l.place l.callers)) q

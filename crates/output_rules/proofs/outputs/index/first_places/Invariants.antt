use Rattle.std.proofs.Common.{◌≡◌, ◌≤◌, ℕ, List, drop, length}
use Rattle.std.specs.Borrow.{Bor}
use Rattle.std.specs.HashMap.{get}
use Rattle.output_rules.specs.steps.Indexed.{place_from, same_bytes}
use Rattle.output_rules.proofs.outputs.index.first_places.Given as goal

abbrev pub invariant-attributes : goal.invariant-attributes
invariant-attributes l =
    (l.left ≤ length l.schema)
    × ((name : Bor (List ℕ)) → get same_bytes l.places name ≡ place_from l.left (drop l.left l.schema) name.now)

abbrev pub decreases-attributes : goal.decreases-attributes
decreases-attributes l = l.left

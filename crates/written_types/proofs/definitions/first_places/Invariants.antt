use Rattle.std.proofs.Common.{◌≡◌, ◌≤◌, ℕ, List, drop, length, map}
use Rattle.std.specs.Borrow.{Bor}
use Rattle.std.specs.HashMap.{get}
use Rattle.written_types.specs.steps.Definitions.{place_from, same_bytes}
use Rattle.written_types.proofs.definitions.first_places.Given as goal

abbrev pub invariant-definitions : goal.invariant-definitions
invariant-definitions l =
    (l.left ≤ length l.definitions)
    × ((name : Bor (List ℕ)) → get same_bytes l.places name ≡ place_from l.left (map (λ t. t.now) (drop l.left l.definitions)) name.now)

abbrev pub decreases-definitions : goal.decreases-definitions
decreases-definitions l = l.left

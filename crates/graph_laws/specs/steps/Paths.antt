-- Ways on which composites lead to one another.
use Rattle.std.specs.Prelude.{ℕ, List, [], ◌∷◌}
use Rattle.language_model.specs.Recursion.{Calls, IsCall}

-- these composites lead to the one at the place, the innermost first: the first invokes it, and each other one invokes the one before it
abbrev pub IsPath : Calls → ℕ → List ℕ → Type 0
IsPath calls place [] = Unit {0}
IsPath calls place (p ∷ outer) = IsCall calls p place × IsPath calls p outer

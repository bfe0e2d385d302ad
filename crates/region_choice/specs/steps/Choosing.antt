-- How regions are chosen, over what that asks of a graph: each operator in topological order joins the region that takes it, or begins one.
use Rattle.std.specs.Prelude.{ℕ, ◌&&◌, Bool, false, if◌then◌else◌, List, [], ◌∷◌, ◌++◌}

-- The operators in topological order. `eligible` says which may stand in regions, `links` which may directly follow another one, and `safe`
-- which chains have a key, or need none
pub record Chains : Type 0 where
  pub topo : List ℕ
  pub eligible : ℕ → Bool
  pub links : ℕ → ℕ → Bool
  pub safe : List ℕ → Bool

abbrev pub last_of : ℕ → List ℕ → ℕ
last_of a [] = a
last_of a (b ∷ rest) = last_of b rest

-- the operator may follow the last one of the region, which stays safe with it
abbrev pub takes : Chains → List ℕ → ℕ → Bool
takes c [] x = false
takes c (a ∷ rest) x = c.links (last_of a rest) x && c.safe (a ∷ rest ++ x ∷ [])

-- an operator joins a region that takes it, and begins one where none does
abbrev pub placed : Chains → List (List ℕ) → ℕ → List (List ℕ)
placed c [] x = (x ∷ []) ∷ []
placed c (region ∷ regions) x = if takes c region x then (region ++ x ∷ []) ∷ regions else region ∷ placed c regions x

abbrev pub placed_if : Bool → Chains → List (List ℕ) → ℕ → List (List ℕ)
placed_if eligible c regions x = if eligible then placed c regions x else regions

abbrev pub chosen_from : Chains → List (List ℕ) → List ℕ → List (List ℕ)
chosen_from c regions [] = regions
chosen_from c regions (x ∷ xs) = chosen_from c (placed_if (c.eligible x) c regions x) xs

-- one pass over the operators
abbrev pub chosen : Chains → List (List ℕ)
chosen c = chosen_from c [] c.topo

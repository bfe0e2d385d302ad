-- The places of functions by their names.
use Rattle.std.specs.Prelude.{◌≡◌, ℕ, suc, List, [], ◌∷◌, if◌then◌else◌, Option, Some, None}
use Rattle.std.specs.HashMap.{HashMap, get}
use Rattle.std.specs.Str.{bytes_eq}
use Rattle.language_model.specs.declared.scope.Signature.{Signature}

-- the place of the first function of the name, in a list that begins at a place
abbrev pub placed_from : List ℕ → ℕ → List Signature → Option ℕ
placed_from name i [] = None
placed_from name i (f ∷ fs) = if bytes_eq f.name name then Some i else placed_from name (suc i) fs

-- the map has the first place of each name, and no other name
abbrev pub HasPlaces : {S : Type 0} → HashMap (List ℕ) ℕ S → List Signature → Type 0
HasPlaces places list = (name : List ℕ) → get bytes_eq places name ≡ placed_from name 0 list

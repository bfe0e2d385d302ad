-- What is known of each parameter of a composite before any is settled.
use Rattle.std.specs.Prelude.{ℕ, suc, Bool, false, List, [], ◌∷◌, map, slice_get}
use Rattle.std.specs.Option.{option_map_or}
use Rattle.spl_tree.specs.declared.unit.CompositeParameter.{CompositeParameter}
use Rattle.spl_tree.specs.declared.unit.Parameter.{Parameter}
use Rattle.language_model.specs.parts.Parameters.{default_leads}

-- the places that its default leads to
abbrev pub rows_of : List CompositeParameter → List Parameter → List (List ℕ)
rows_of parameters arguments = map (default_leads parameters arguments) parameters

-- whether it passes, by its place
abbrev pub passes_from : (ℕ → CompositeParameter → Bool) → ℕ → List CompositeParameter → List Bool
passes_from passes place [] = []
passes_from passes place (p ∷ ps) = passes place p ∷ passes_from passes (suc place) ps

abbrev pub passes_at : (ℕ → CompositeParameter → Bool) → List CompositeParameter → ℕ → Bool
passes_at passes parameters place = option_map_or (passes place) (slice_get parameters place) false

-- The names of the composites of a unit.
use Rattle.std.specs.Prelude.{ℕ, List, map}
use Rattle.spl_tree.specs.declared.unit.Definition.{Definition}
use Rattle.language_model.specs.Composites.{composites}

abbrev pub composite_names : List Definition → List (List ℕ)
composite_names unit = map (λ c. c.name.what) (composites unit)

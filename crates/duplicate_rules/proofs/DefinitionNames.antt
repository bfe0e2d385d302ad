-- The definitions that come before one, by their names.
use Rattle.std.specs.Prelude.{◌≡◌, ◌||◌, List, [], ◌∷◌, map}
use Rattle.std.specs.List.{list_any}
use Rattle.std.proofs.Common.{refl, ap}
use Rattle.spl_tree.specs.declared.unit.Definition.{Definition}
use Rattle.language_model.specs.Declarations.{Name, definition_name, is_same}
use Rattle.duplicate_rules.specs.steps.NamesBefore.{Has}

pub same_names : (n : Name) (before : List Definition) → list_any (λ e. is_same (definition_name e) n) before ≡ Has n (map definition_name before)
same_names n [] = refl
same_names n (d ∷ ds) = ap (λ r. is_same (definition_name d) n || r) (same_names n ds)

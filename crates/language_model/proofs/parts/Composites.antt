-- Words for parts of the rule that says which composite is the main one.
use Rattle.std.specs.Prelude.{ℕ, List, drop, filter_map, if◌then◌else◌, Option, Some, None}
use Rattle.std.specs.Option.{option_and_then, option_map_or}
use Rattle.spl_tree.specs.declared.unit.Composite.{Composite}
use Rattle.spl_tree.specs.declared.unit.Definition.{Definition}
use Rattle.language_model.specs.Composites.{composites, has_no_ports, if_main, is_empty}
use Rattle.language_model.specs.Scopes.{At, first_from}

-- the first composite without ports, where there are no others after it
abbrev pub only_one : Option (At Composite) → List Composite → Option ℕ
only_one first others = option_and_then (λ c. if is_empty others then if_main c else None) first

abbrev pub portless : List Composite → List Composite
portless cs = filter_map (λ c. if has_no_ports c then Some c else None) cs

abbrev pub behind_first : {A : Type 0} → List A → List A
behind_first xs = drop 1 xs

abbrev pub named_or_only : List Definition → Option (At Composite) → Option ℕ
named_or_only unit named = option_map_or if_main named (only_one (first_from has_no_ports 0 (composites unit)) (behind_first (portless (composites unit))))

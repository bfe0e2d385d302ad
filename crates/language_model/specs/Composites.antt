-- The composites and functions of a unit, and which composite is the main one.
use Rattle.std.specs.Prelude.{ℕ, Bool, true, false, ◌&&◌, List, [], ◌∷◌, drop, filter_map, if◌then◌else◌, codes, Option, Some, None, is_some}
use Rattle.std.specs.List.{list_all}
use Rattle.std.specs.Option.{option_and_then, option_map_or}
use Rattle.std.specs.Str.{bytes_eq}
use Rattle.spl_tree.specs.declared.unit.Composite.{Composite}
use Rattle.spl_tree.specs.declared.unit.Definition.{Definition}
use Rattle.spl_tree.specs.declared.unit.Definition.TheVariants as D
use Rattle.spl_tree.specs.declared.unit.FunctionDefinition.{FunctionDefinition}
use Rattle.language_model.specs.Scopes.{At, first_from}

abbrev pub as_composite : Definition → Option Composite
as_composite (D.Composite c) = Some c
as_composite d = None

abbrev pub as_function : Definition → Option FunctionDefinition
as_function (D.Function f) = Some f
as_function d = None

-- in the order of the text; a composite's place is that in this list, and a function's likewise
abbrev pub composites : List Definition → List Composite
composites unit = filter_map as_composite unit

abbrev pub functions : List Definition → List FunctionDefinition
functions unit = filter_map as_function unit

abbrev pub composite_named : List Definition → List ℕ → Option (At Composite)
composite_named unit name = first_from (λ c. bytes_eq c.name.what name) 0 (composites unit)

abbrev pub is_empty : {A : Type 0} → List A → Bool
is_empty [] = true
is_empty (x ∷ xs) = false

abbrev pub has_no_ports : Composite → Bool
has_no_ports c = is_empty c.outputs && is_empty c.inputs

-- a main composite has no ports, and each of its parameters has a default
abbrev pub if_main : At Composite → Option ℕ
if_main c = if has_no_ports c.what && list_all (λ p. is_some p.default) c.what.parameters then Some c.place else None

-- the place of the main composite: the one named `Main`, or, where none has this name, the only one without ports
abbrev pub main_of : List Definition → Option ℕ
main_of unit =
    let portless : List Composite = filter_map (λ c. if has_no_ports c then Some c else None) (composites unit) in
    let sole : Option ℕ = option_and_then (λ c. if is_empty (drop 1 portless) then if_main c else None)
    (first_from has_no_ports 0 (composites unit)) in
    option_map_or if_main (composite_named unit (codes "Main")) sole

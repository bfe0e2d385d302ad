-- What an invocation gives to the parameters of a head, as the code has it.
use Rattle.std.specs.Prelude.{◌≡◌, ℕ, Bool, true, false, ◌&&◌, List, map}
use Rattle.std.specs.List.{list_all}
use Rattle.spl_tree.specs.declared.unit.Composite.{Composite}
use Rattle.spl_tree.specs.declared.unit.Parameter.{Parameter}
use Rattle.language_model.specs.Composites.{is_empty}
use Rattle.language_model.specs.Declarations.{repeated_names}
use Rattle.language_model.specs.parts.Invoking.{is_argument}
use Rattle.program_tables.specs.declared.names.Names.{Names}
use Rattle.program_tables.specs.Names.{HoldsNames}

abbrev pub argument_names : List Parameter → List (List ℕ)
argument_names arguments = map (λ a. a.name.what) arguments

-- each argument fits, and none is given twice
abbrev pub fit_once : Composite → List Parameter → Bool
fit_once c arguments = list_all (is_argument c) arguments && is_empty (repeated_names (map (λ a. a.name) arguments))

-- the names of the arguments are given, where they fit and none is given twice
abbrev pub FitArguments : Composite → List Parameter → Bool → Names → Type 0
FitArguments c arguments false given = fit_once c arguments ≡ false
FitArguments c arguments true given = (fit_once c arguments ≡ true) × HoldsNames given (argument_names arguments)

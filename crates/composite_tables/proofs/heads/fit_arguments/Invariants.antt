use Rattle.std.proofs.Common.{◌≡◌, List, take, drop}
use Rattle.language_model.specs.Declarations.{Name}
use Rattle.program_tables.specs.Names.{HoldsNames}
use Rattle.composite_tables.specs.steps.Arguments.{argument_names, fit_once}
use Rattle.composite_tables.proofs.Fitting.{Stand, fit_behind}
use Rattle.composite_tables.proofs.heads.fit_arguments.Given as goal

abbrev pub invariant-loop-argument : goal.invariant-loop-argument
invariant-loop-argument l =
    (before : List Name) × Stand before (argument_names (take l.argument-index l.arguments))
    × HoldsNames l.given (argument_names (take l.argument-index l.arguments))
    × (fit_once l.head.composite.now l.arguments ≡ fit_behind l.head.composite.now before (drop l.argument-index l.arguments))

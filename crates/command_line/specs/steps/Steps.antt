-- What is read of arguments before all of them are.
use Rattle.std.specs.Prelude.{ℕ, List, drop, ◌++◌, Option}
use Rattle.std.specs.Option.{option_map}
use Rattle.command_line.specs.declared.arguments.Argument.{Argument}
use Rattle.command_line.specs.Arguments.{onto, arguments}

-- what the first words are, in front of the others from this place on
abbrev pub begun : List (List ℕ) → Option Argument × ℕ → Option (List Argument)
begun words found = onto found.0 (arguments (drop found.1 words))

-- arguments that were read, in front of others
abbrev pub with_front : List Argument → Option (List Argument) → Option (List Argument)
with_front read others = option_map (λ arguments. read ++ arguments) others

-- What the words of the command line ask for. The first word is the command. After it come one file name and the
-- options of the command, in any order, each option at most once and some of them always. Other words are no request.
use Rattle.std.specs.Prelude.{ℕ, Bool, List, [], ◌∷◌, unwrap_or, codes, Option, Some, None, option_and_then, if◌then◌else◌}
use Rattle.std.specs.List.{list_all}
use Rattle.std.specs.Option.{option_map, option_to_list}
use Rattle.std.specs.Str.{bytes_eq}
use Rattle.std.specs.declared.string.String.{String}
use Rattle.std.specs.declared.alloc.Global.{Global}
use Rattle.command_line.specs.Arguments.{arguments, texts}
use Rattle.command_line.specs.Commands.{command_of, is_of}
use Rattle.command_line.specs.Options.{only_file, counts, optional, required, number_within}
use Rattle.command_line.specs.declared.arguments.Argument.{Argument}
use Rattle.command_line.specs.declared.commands.Command.{Command}
use Rattle.command_line.specs.declared.commands.Command.TheVariants as C
use Rattle.command_line.specs.declared.request.Request.{Request}
use Rattle.command_line.specs.declared.request.Request.TheVariants.{Check, Plan, Run, Replay, Simulate, Make}

-- the name of the arrivals file, which isn't that of the program
abbrev pub other_than : List ℕ → List ℕ → Option (List ℕ)
other_than program name = if bytes_eq name program then None else Some name

-- `run FILE [--width N] [--workers N] [--capacity N] [--arrivals NAME] [--counts]`
abbrev pub run_of : List ℕ → Option (Option ℕ) → Option (Option ℕ) → Option (Option ℕ) → Option (Option (List ℕ))
    → Option Bool → Option Request
run_of program (Some width) (Some workers) (Some capacity) (Some arrivals) (Some counts) =
    Some (Run program (record {
      width = width;
      workers = workers;
      capacity = capacity;
      arrivals = arrivals;
      counts = counts;
    }))
run_of program _ _ _ _ _ = None

-- `simulate FILE --width N --schedule N [--steps N]`
abbrev pub simulate_of : List ℕ → Option ℕ → Option ℕ → Option (Option ℕ) → Option Request
simulate_of program (Some width) (Some schedule) (Some steps) =
    Some (Simulate program width schedule (unwrap_or steps 10000000))
simulate_of program _ _ _ = None

-- `make NAME --rows N --start N`
abbrev pub make_of : List ℕ → Option ℕ → Option ℕ → Option Request
make_of name (Some rows) (Some start) = Some (Make name rows start)
make_of name _ _ = None

-- the request of a command, its arguments and the file name among them, with the limits of each number
abbrev pub request_with : Command → List Argument → List ℕ → Option Request
request_with C.Check given program = Some (Check program)
request_with C.Plan given program = Some (Plan program)
request_with C.Run given program =
    run_of
    program
    (optional (number_within 1 16) (codes "width") given)
    (optional (number_within 1 64) (codes "workers") given)
    (optional (number_within 18 4096) (codes "capacity") given)
    (optional (other_than program) (codes "arrivals") given)
    (counts given)
request_with C.Replay given program =
    option_map (Replay program) (required (other_than program) (codes "arrivals") given)
request_with C.Simulate given program =
    simulate_of program
    (required (number_within 1 16) (codes "width") given)
    (required (number_within 0 2147483647) (codes "schedule") given)
    (optional (number_within 1 1000000000) (codes "steps") given)
request_with C.Make given name =
    make_of name
    (required (number_within 0 10000000) (codes "rows") given)
    (required (number_within 0 2147483647) (codes "start") given)

-- each argument is the one file name or an option of the command
abbrev pub request_given : Command → List Argument → Option Request
request_given command given =
    if list_all (λ argument. is_of command argument) given
    then option_and_then (request_with command given) (only_file given) else None

-- the first word is the command, and the others are its arguments
abbrev pub requested : List (List ℕ) → Option Request
requested [] = None
requested (word ∷ words) =
    option_and_then (λ command. option_and_then (request_given command) (arguments words)) (command_of word)

-- the request that words are, if they are one
abbrev pub request_of : List (String Global) → Option Request
request_of words = requested (texts words)

-- the file names of the command line that no sink of the program may have: the program, and the arrivals file
abbrev pub file_names : Request → List (List ℕ)
file_names (Check program) = program ∷ []
file_names (Plan program) = program ∷ []
file_names (Run program options) = program ∷ option_to_list options.arrivals
file_names (Replay program arrivals) = program ∷ arrivals ∷ []
file_names (Simulate program width schedule steps) = program ∷ []
file_names (Make name rows start) = []

-- The commands, and the options that each has.
use Rattle.std.specs.Prelude.{ℕ, Bool, true, false, List, [], ◌∷◌, codes, Option, Some, None, if◌then◌else◌}
use Rattle.std.specs.List.{list_any}
use Rattle.std.specs.Str.{bytes_eq}
use Rattle.command_line.specs.declared.arguments.Argument.{Argument}
use Rattle.command_line.specs.declared.arguments.Argument.TheVariants.{File, Valued, Counts}
use Rattle.command_line.specs.declared.commands.Command.{Command}
use Rattle.command_line.specs.declared.commands.Command.TheVariants.{Check, Plan, Run, Replay, Simulate, Make}

abbrev pub command_of : List ℕ → Option Command
command_of word =
    if bytes_eq word (codes "check") then Some Check else
    if bytes_eq word (codes "plan") then Some Plan else
    if bytes_eq word (codes "run") then Some Run else
    if bytes_eq word (codes "replay") then Some Replay else
    if bytes_eq word (codes "simulate") then Some Simulate else
    if bytes_eq word (codes "make") then Some Make else None

-- the options with a value, which `check` and `plan` have none of
abbrev pub options_of : Command → List (List ℕ)
options_of Run = codes "width" ∷ codes "workers" ∷ codes "capacity" ∷ codes "arrivals" ∷ []
options_of Replay = codes "arrivals" ∷ []
options_of Simulate = codes "width" ∷ codes "schedule" ∷ codes "steps" ∷ []
options_of Make = codes "rows" ∷ codes "start" ∷ []
options_of _ = []

-- `--counts` is an option of `run` alone
abbrev pub has_counts : Command → Bool
has_counts Run = true
has_counts _ = false

-- a file name, or one of the command's options
abbrev pub is_of : Command → Argument → Bool
is_of command (File name) = true
is_of command (Valued name value) = list_any (λ option. bytes_eq name option) (options_of command)
is_of command Counts = has_counts command

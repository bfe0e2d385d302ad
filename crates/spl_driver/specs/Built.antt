-- Which requests are carried out today.
use Rattle.std.specs.Prelude.{Bool, true, false, ◌&&◌, is_none}
use Rattle.command_line.specs.declared.request.Request.{Request}
use Rattle.command_line.specs.declared.request.Request.TheVariants as R
use Rattle.command_line.specs.declared.request.RunOptions.{RunOptions}

-- no width, workers or capacity are given
abbrev pub is_plain : RunOptions → Bool
is_plain options = is_none options.width && (is_none options.workers && is_none options.capacity)

-- `check`, `plan`, `replay`, and `run` with no options but `--arrivals` and `--counts`
abbrev pub is_built : Request → Bool
is_built (R.Check program) = true
is_built (R.Plan program) = true
is_built (R.Run program options) = is_plain options
is_built (R.Replay program file) = true
is_built _ = false

use Rattle.std.proofs.Common.{◌≡◌, drop}
use Rattle.std.specs.List.{cons_option, filter_map}
use Rattle.std.specs.Option.{option_copied}
use Rattle.command_line.specs.Options.{file_of}
use Rattle.command_line.proofs.options.only_file.Given as goal

abbrev pub invariant-loop-argument : goal.invariant-loop-argument
invariant-loop-argument l =
    cons_option (option_copied l.file) (filter_map file_of (drop l.argument-index l.argument-items)) ≡ filter_map file_of l.argument-items

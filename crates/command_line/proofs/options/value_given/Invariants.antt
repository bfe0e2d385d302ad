use Rattle.std.proofs.Common.{◌≡◌, drop}
use Rattle.std.specs.List.{cons_option, filter_map}
use Rattle.std.specs.Option.{option_copied}
use Rattle.command_line.specs.Options.{value_of}
use Rattle.command_line.proofs.options.value_given.Given as goal

abbrev pub invariant-loop-argument : goal.invariant-loop-argument
invariant-loop-argument l =
    cons_option (option_copied l.found) (filter_map (value_of l.option) (drop l.argument-index l.argument-items))
    ≡ filter_map (value_of l.option) l.argument-items

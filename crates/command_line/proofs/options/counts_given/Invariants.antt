use Rattle.std.proofs.Common.{◌≡◌, drop, filter, Some, None}
use Rattle.std.specs.Prelude.{if◌then◌else◌}
use Rattle.std.specs.List.{cons_option}
use Rattle.command_line.specs.Options.{is_counts}
use Rattle.command_line.specs.declared.arguments.Argument.TheVariants.{Counts}
use Rattle.command_line.proofs.options.counts_given.Given as goal

abbrev pub invariant-loop-argument : goal.invariant-loop-argument
invariant-loop-argument l =
    cons_option (if l.found then Some Counts else None) (filter is_counts (drop l.argument-index l.argument-items)) ≡ filter is_counts l.argument-items

use Rattle.std.proofs.Common.{◌≡◌, ◌++◌, List, Some, drop, map}
use Rattle.std.specs.Option.{option_map}
use Rattle.language_model.specs.declared.outs.Output.{Output}
use Rattle.tuple_groups.specs.Seen.{entry_of}
use Rattle.aggregate_op.specs.steps.Giving.{groups_given}
use Rattle.aggregate_op.proofs.contents.give_groups.Given as goal

-- what is given so far and what the groups that are left give are all
abbrev pub invariant-loop-group : goal.invariant-loop-group
invariant-loop-group l = (given : List Output) → groups_given l.clauses (map entry_of l.groups) ≡ Some given
    → option_map (λ more. l.outs ++ more) (groups_given l.clauses (map entry_of (drop l.group-index l.groups))) ≡ Some (l.fn.outs ++ given)

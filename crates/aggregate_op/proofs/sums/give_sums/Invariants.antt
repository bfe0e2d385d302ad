use Rattle.std.proofs.Common.{◌≡◌, ◌++◌, List, Some, drop, map}
use Rattle.std.specs.Option.{option_map}
use Rattle.language_model.specs.declared.outs.Output.{Output}
use Rattle.aggregate_op.specs.steps.Summing.{made_by, sums_given}
use Rattle.aggregate_op.proofs.sums.give_sums.Given as goal

-- what is given so far and what the contents that are left give are all
abbrev pub invariant-loop-content : goal.invariant-loop-content
invariant-loop-content l = (given : List Output) → sums_given l.clauses (map made_by l.list) ≡ Some given
    → option_map (λ more. l.outs ++ more) (sums_given l.clauses (map made_by (drop l.content-index l.list))) ≡ Some (l.fn.outs ++ given)

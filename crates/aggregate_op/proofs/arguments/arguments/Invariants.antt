use Rattle.std.proofs.Common.{◌≡◌, ◌++◌, List, drop, map}
use Rattle.std.specs.Prelude.{Option}
use Rattle.spl_value.specs.declared.value.Value.{Value}
use Rattle.language_model.specs.Outcomes.{Done, followed}
use Rattle.stream_model.specs.Aggregates.{arguments}
use Rattle.stream_model.specs.Bodies.{most_turns}
use Rattle.aggregate_op.specs.Arguments.{blank}
use Rattle.aggregate_op.proofs.arguments.arguments.Given as goal

-- the values so far and those of what is left are all
abbrev pub invariant-loop-assignment : goal.invariant-loop-assignment
invariant-loop-assignment l =
    (args : List (Option Value)) × (l.values ≡ map blank args)
    × (followed (arguments l.functions (drop l.assignment-index l.output) l.env l.turns) (λ more turns. Done (args ++ more) turns)
    ≡ arguments l.functions l.output l.env most_turns)

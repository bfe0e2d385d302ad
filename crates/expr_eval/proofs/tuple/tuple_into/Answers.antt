use Rattle.std.proofs.Common.{subst}
use Rattle.spl_value.specs.declared.value.Value.TheViews.{out-Value}
use Rattle.language_model.specs.Evaluation.{code_value, world_of}
use Rattle.language_model.specs.parts.Functions.{calls_of}
use Rattle.language_model.specs.Outcomes.{Done, followed, need}
use Rattle.language_model.specs.Statements.{level_tuple}
use Rattle.value_operations.specs.Answers.{IsMadeAs}
use Rattle.expr_eval.proofs.tuple.tuple_into.Goals as goal

pub returns : goal.returns
returns c =
    subst (λ o. IsMadeAs o c.made.result c.tuple_at.new.turns)
    (λ i. followed (code_value (calls_of (c.new-context.ensures.functions i) (c.new-context.ensures.depth i)) c.args.code.now (world_of (c.new-context.ensures.env i)) c.args.turns.now) (λ v turns. need (level_tuple (out-Value v)) (λ vs. Done vs turns)))
    (c.made.ensures _ _ c.tuple_at.ensures)

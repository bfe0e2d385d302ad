use Rattle.std.proofs.Common.{subst}
use Rattle.language_model.specs.Evaluation.{world_of}
use Rattle.language_model.specs.EvaluationLaws.{truth_value}
use Rattle.language_model.specs.parts.Functions.{calls_of}
use Rattle.value_operations.specs.Answers.{IsSo}
use Rattle.expr_eval.proofs.truth.holds.Goals as goal

pub returns : goal.returns
returns c =
    subst (λ o. IsSo o c.truth.result c.truth_at.new.turns)
    (λ i. truth_value (calls_of (c.new-context.ensures.functions i) (c.new-context.ensures.depth i)) c.args.code.now (world_of (c.new-context.ensures.env i)) c.args.turns.now)
    (c.truth.ensures _ _ c.truth_at.ensures)

use Rattle.std.proofs.Common.{subst}
use Rattle.language_model.specs.Evaluation.{code_value, world_of}
use Rattle.language_model.specs.parts.Functions.{calls_of}
use Rattle.value_operations.specs.Answers.{Evaluates}
use Rattle.expr_eval.proofs.evaluate.eval.Goals as goal

pub returns : goal.returns
returns c =
    subst (λ o. Evaluates o c.evaluated.result c.eval_at.new.turns)
    (λ i. code_value (calls_of (c.new-context.ensures.functions i) (c.new-context.ensures.depth i)) c.args.code.now (world_of (c.new-context.ensures.env i)) c.args.turns.now)
    (c.evaluated.ensures _ _ c.eval_at.ensures)

use Rattle.std.proofs.Common.{subst}
use Rattle.spl_value.specs.declared.types.SplType.TheVariants as T
use Rattle.language_model.specs.Evaluation.{code_value, world_of}
use Rattle.language_model.specs.parts.Functions.{calls_of}
use Rattle.value_operations.specs.Answers.{AnswersHeld}
use Rattle.value_operations.proofs.Following.{answers_by, stops}
use Rattle.expr_eval.proofs.Binary.{left_is_fit, right_is_fit}
use Rattle.expr_eval.proofs.Truths.{relation_of_operands, relation_on, relation_stops}
use Rattle.expr_eval.proofs.truth.evaluated_relation.Goals as goal

pub eval_at-requires : goal.eval_at-requires
eval_at-requires c = left_is_fit c.args.context.now.functions.now c.args.context.now.env.now c.args.operator c.args.left.now c.args.right.now (T.Bool, c.requires.fits)

pub eval_at-right-requires : goal.eval_at-right-requires
eval_at-right-requires c = right_is_fit c.args.context.now.functions.now c.args.context.now.env.now c.args.operator c.args.left.now c.args.right.now (T.Bool, c.requires.fits)

pub related_with-requires : goal.related_with-requires
related_with-requires c = λ h is.
    relation_of_operands c.args.context.now.functions.now c.args.context.now.env.now c.args.operator c.args.left.now c.args.right.now c.requires.fits c.evaluation_law.ensures.never_stuck c.args.context.now.depth c.args.turns.now _ _ _ _ c.in_ok-left.ensures
    (subst (λ r. AnswersHeld (code_value (calls_of c.args.context.now.functions.now c.args.context.now.depth) c.args.right.now (world_of c.args.context.now.env.now) c.eval_at.new.turns) r c.eval_at-right.new.turns) is c.eval_at-right.ensures) c.requires.no_and c.requires.no_or

pub returns-in_err-left : goal.returns-in_err-left
returns-in_err-left c =
    stops _ _ _ _ c.from_residual.ensures.1
    (relation_stops (calls_of c.args.context.now.functions.now c.args.context.now.depth) (world_of c.args.context.now.env.now) c.args.operator c.args.left.now c.args.right.now c.args.turns.now c.requires.no_and c.requires.no_or _ c.in_err-left.ensures)

pub returns : goal.returns
returns c =
    answers_by _ _ _ _ (relation_on (calls_of c.args.context.now.functions.now c.args.context.now.depth) (world_of c.args.context.now.env.now) c.args.operator c.args.left.now c.args.right.now c.args.turns.now c.requires.no_and c.requires.no_or _ _ c.in_ok-left.ensures)
    (c.related_with.ensures _ _ c.eval_at-right.ensures)

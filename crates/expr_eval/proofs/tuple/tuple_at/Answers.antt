use Rattle.std.proofs.Common.{subst, sym, ◌∙◌}
use Rattle.spl_value.specs.declared.types.SplType.TheVariants as T
use Rattle.spl_tree.specs.declared.code.Code.TheVariants as C
use Rattle.language_model.specs.Evaluation.{world_of}
use Rattle.language_model.specs.parts.Functions.{calls_of}
use Rattle.value_operations.proofs.Following.{answers_by}
use Rattle.expr_eval.specs.Fitting.{IsFit}
use Rattle.expr_eval.proofs.Forms.{tuple_values_are}
use Rattle.expr_eval.proofs.tuple.tuple_at.Goals as goal

pub eval_fields-requires : goal.eval_fields-requires
eval_fields-requires c = subst (λ x. IsFit c.args.context.now.functions.now x c.args.context.now.env.now) (c.in-Tuple.is ∙ (λ i. C.Tuple (sym c.as_slice.ensures i))) (T.Tuple c.requires.0, c.requires.1)

pub returns-in-Tuple : goal.returns-in-Tuple
returns-in-Tuple c = answers_by _ _ _ _ (tuple_values_are (calls_of c.args.context.now.functions.now c.args.context.now.depth) (world_of c.args.context.now.env.now) c.args.code.now c.args.turns.now c.as_slice.result.now (c.in-Tuple.is ∙ (λ i. C.Tuple (sym c.as_slice.ensures i)))) c.eval_fields.ensures

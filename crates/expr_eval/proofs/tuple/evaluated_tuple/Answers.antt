use Rattle.std.proofs.Common.{subst}
use Rattle.spl_value.specs.declared.types.SplType.TheVariants as T
use Rattle.language_model.specs.Evaluation.{code_value, world_of}
use Rattle.language_model.specs.parts.Functions.{calls_of}
use Rattle.value_operations.specs.Answers.{Answers}
use Rattle.expr_eval.proofs.ValueTypes.{gives_tuple}
use Rattle.expr_eval.proofs.tuple.evaluated_tuple.Goals as goal

pub own_value-requires : goal.own_value-requires
own_value-requires c = (T.Tuple c.requires.0, c.requires.1)

pub values_of_tuple-requires : goal.values_of_tuple-requires
values_of_tuple-requires c = λ v is.
    gives_tuple c.evaluation_law.ensures.never_stuck c.args.context.now.functions.now c.args.context.now.env.now c.args.context.now.depth c.args.code.now c.requires.0 c.requires.1 c.args.turns.now _ v
    (subst (λ r. Answers (code_value (calls_of c.args.context.now.functions.now c.args.context.now.depth) c.args.code.now (world_of c.args.context.now.env.now) c.args.turns.now) r c.own_value.new.turns) is c.own_value.ensures)

pub returns : goal.returns
returns c = c.values_of_tuple.ensures _ _ c.own_value.ensures

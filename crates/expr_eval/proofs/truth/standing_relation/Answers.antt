use Rattle.spl_value.specs.declared.types.SplType.TheVariants as T
use Rattle.language_model.specs.Evaluation.{world_of}
use Rattle.language_model.specs.parts.Functions.{calls_of}
use Rattle.expr_eval.proofs.Binary.{left_is_fit, right_is_fit}
use Rattle.expr_eval.proofs.Truths.{relation_done, relation_of_operands}
use Rattle.expr_eval.proofs.truth.standing_relation.Goals as goal

pub standing-requires : goal.standing-requires
standing-requires c = left_is_fit c.args.context.now.functions.now c.args.context.now.env.now c.args.operator c.args.left.now c.args.right.now (T.Bool, c.requires.fits)

pub standing-requires-2 : goal.standing-requires-2
standing-requires-2 c = right_is_fit c.args.context.now.functions.now c.args.context.now.env.now c.args.operator c.args.left.now c.args.right.now (T.Bool, c.requires.fits)

pub are_related-requires : goal.are_related-requires
are_related-requires c =
    relation_of_operands c.args.context.now.functions.now c.args.context.now.env.now c.args.operator c.args.left.now c.args.right.now c.requires.fits c.evaluation_law.ensures.never_stuck c.args.context.now.depth 0 0 0 _ _
    (c.in_ok-first.ensures 0) (c.in_ok-second.ensures 0) c.requires.no_and c.requires.no_or

pub returns : goal.returns
returns c = λ turns.
    relation_done (calls_of c.args.context.now.functions.now c.args.context.now.depth) (world_of c.args.context.now.env.now) c.args.operator c.args.left.now c.args.right.now turns c.requires.no_and c.requires.no_or _ _ turns turns _
    (c.in_ok-first.ensures turns) (c.in_ok-second.ensures turns) c.are_related.ensures

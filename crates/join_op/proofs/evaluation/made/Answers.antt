use Rattle.std.proofs.Common.{◌≡◌, Some, ap, ◌∙◌}
use Rattle.spl_value.specs.declared.types.SplType.TheVariants as T
use Rattle.spl_value.specs.declared.value.Value.TheViews.{out-Value}
use Rattle.spl_value.specs.declared.value.Value.TheVariants as V
use Rattle.spl_value.proofs.FitsLaws.{tuple_from_fits}
use Rattle.language_model.specs.Statements.{level_tuple}
use Rattle.join_op.proofs.Comings.{comes_to}
use Rattle.join_op.proofs.evaluation.made.Goals as goal

pub tuple_values-requires : goal.tuple_values-requires
tuple_values-requires c none =
    let schema = c.requires.0 in
    let v = c.in-Value.value in
    let vs = tuple_from_fits schema v (comes_to (T.Tuple schema) _ v _ c.in-Value.ensures
    (c.evaluation_law.ensures.never_stuck c.args.functions.now c.args.code.now c.args.env.now (T.Tuple schema) c.requires.1 c.args.turns.now c.args.turns.now)) in
    let is : level_tuple (out-Value v) ≡ Some vs.0 = ap level_tuple (ap out-Value vs.1 ∙ V.outs-Tuple vs.0) in
    cc

use Rattle.std.proofs.Common.{sym, ap, subst, ◌∙◌}
use Rattle.spl_value.specs.declared.types.SplType.TheVariants as T
use Rattle.spl_tree.specs.declared.code.Code.TheVariants as C
use Rattle.language_model.specs.Evaluation.{world_of}
use Rattle.language_model.specs.parts.Functions.{calls_of}
use Rattle.language_model.specs.Outcomes.{Done}
use Rattle.value_operations.proofs.Following.{stops_by}
use Rattle.expr_eval.specs.Fitting.{IsFit}
use Rattle.expr_eval.proofs.Forms.{tuple_values_are}
use Rattle.expr_eval.proofs.MovedFields.{goes_to}
use Rattle.expr_eval.proofs.moving.tuple_moving.Goals as goal

pub with_moved-requires-clause-there : goal.with_moved-requires-clause-there
with_moved-requires-clause-there c =
    let fs = c.as_slice-fields.result.now in
    let is = c.in-Tuple.is ∙ (λ i. C.Tuple (sym c.as_slice-fields.ensures i)) in
    let fit = subst (λ x. IsFit c.args.functions.now x c.args.env.now) is (T.Tuple c.requires.fits.0, c.requires.fits.1) in
    let tuple = c.in-Ok.ensures in (
      tuple.0,
      tuple.2,
      goes_to c.args.functions.now c.args.env.now c.args.turns.now fs fit c.args.moves.now (c.requires.moves fs is) c.item_mut-came.result.now c.item_mut-came.ensures.item
          c.evaluation_law.ensures.never_stuck c.args.turns.now c.fields_but_moved.new.turns tuple.0 tuple.1,
    )

pub returns-in-Ok-clause-made : goal.returns-in-Ok-clause-made
returns-in-Ok-clause-made c =
    let fs = c.as_slice-fields.result.now in
    let is = c.in-Tuple.is ∙ (λ i. C.Tuple (sym c.as_slice-fields.ensures i)) in
    let fit = subst (λ x. IsFit c.args.functions.now x c.args.env.now) is (T.Tuple c.requires.fits.0, c.requires.fits.1) in
    let tuple = c.in-Ok.ensures in
    let goes =
    goes_to c.args.functions.now c.args.env.now c.args.turns.now fs fit c.args.moves.now (c.requires.moves fs is) c.item_mut-came.result.now c.item_mut-came.ensures.item
    c.evaluation_law.ensures.never_stuck c.args.turns.now c.fields_but_moved.new.turns tuple.0 tuple.1 in
    tuple_values_are (calls_of c.args.functions.now c.args.turns.now) (world_of c.args.env.now) c.args.code.now c.args.turns.now fs is
    ∙ tuple.1 ∙ ap (λ vs. Done vs c.fields_but_moved.new.turns) (sym (c.with_moved.ensures tuple.0 tuple.2 goes))

pub returns-in-Err-clause-made : goal.returns-in-Err-clause-made
returns-in-Err-clause-made c =
    let fs = c.as_slice-fields.result.now in
    let is = c.in-Tuple.is ∙ (λ i. C.Tuple (sym c.as_slice-fields.ensures i)) in
    c.made.ensures _ _
    (stops_by _ _ c.in-Err.stop (tuple_values_are (calls_of c.args.functions.now c.args.turns.now) (world_of c.args.env.now) c.args.code.now c.args.turns.now fs is) c.in-Err.ensures)

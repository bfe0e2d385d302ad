use Rattle.std.proofs.Common.{◌≡◌, ◌<◌, ℕ, [], Some, length, get_or, refl, sym, ap, subst, ◌∙◌}
use Rattle.std.proofs.lemmas.List.{length-set}
use Rattle.std.proofs.lemmas.Option.{slice_get-get_or, slice_get_read}
use Rattle.spl_tree.specs.declared.code.Code.TheVariants as C
use Rattle.language_model.specs.Evaluation.{code_value, tuple_of, world_of}
use Rattle.language_model.specs.EvaluationLaws.{field_values}
use Rattle.language_model.specs.parts.Functions.{calls_of}
use Rattle.language_model.specs.Outcomes.{Done, followed, need}
use Rattle.value_operations.proofs.Following.{exit, stops_by}
use Rattle.expr_eval.specs.Fitting.{IsFit}
use Rattle.expr_eval.specs.steps.MovedFields.{AnswersBut}
use Rattle.expr_eval.proofs.CodeParts.{field_places, tuple_is_fit}
use Rattle.expr_eval.proofs.MovedFields.{so_far_moved, so_far_on, so_far_start, told}
use Rattle.expr_eval.proofs.PlacedFields.{placed_done, placed_stops}
use Rattle.expr_eval.proofs.ValueTypes.{as_long, places_of_fields}
use Rattle.expr_eval.proofs.moving.fields_but_moved.Goals as goal

pub loop-i-init : goal.loop-i-init
loop-i-init c = record {
  made = so_far_start c.args.functions.now c.args.env.now c.args.turns.now c.args.fields.now c.requires.fit c.args.moves.now c.requires.moves
      (get_or c.args.env.now.inputs 0 []) (slice_get-get_or c.args.env.now.inputs 0 [] c.requires.came) c.evaluation_law.ensures.never_stuck c.in_ok-values.values c.args.turns.now;
  long = c.in_ok-values.ensures;
}

pub own_value-requires : goal.own_value-requires
own_value-requires c =
    let fs = c.args.fields.now in
    subst (λ env. IsFit c.new-context.result.functions.now c.index-fields-i.result.1 env) (sym c.new-context.ensures.env)
    (subst (λ functions. IsFit functions c.index-fields-i.result.1 c.args.env.now) (sym c.new-context.ensures.functions)
    (tuple_is_fit c.args.functions.now c.args.env.now (C.Tuple fs) c.requires.fit fs refl c.loop-i.i c.index-fields-i.result
    (slice_get_read fs (length fs) c.loop-i.i c.index-fields-i.result refl c.loop-i-test.true c.index-fields-i.is)))

pub set-requires : goal.set-requires
set-requires c =
    let fs = c.args.fields.now in
    subst (λ (n : ℕ). c.index-fields-i.result.0 < n) (sym c.loop-i.invariant.long)
    (field_places c.args.functions.now c.args.env.now (C.Tuple fs) c.requires.fit fs refl c.loop-i.i c.index-fields-i.result
    (slice_get_read fs (length fs) c.loop-i.i c.index-fields-i.result refl c.loop-i-test.true c.index-fields-i.is))

pub loop-i-preserved-in-Some : goal.loop-i-preserved-in-Some
loop-i-preserved-in-Some c =
    let fs = c.args.fields.now in
    let ms = c.args.moves.now in
    record {
      made = so_far_moved c.args.functions.now c.args.env.now c.args.turns.now fs c.requires.fit ms c.requires.moves
          (get_or c.args.env.now.inputs 0 []) (slice_get-get_or c.args.env.now.inputs 0 [] c.requires.came) c.evaluation_law.ensures.never_stuck c.in_ok-values.values c.args.turns.now
          c.loop-i.i c.loop-i.values c.loop-i.turns c.loop-i.invariant.made c.index-fields-i.result c.loop-i-test.true c.index-fields-i.is _
          (told fs ms c.requires.moves.each c.loop-i.i c.loop-i-test.true (Some _) c.in-Some.is);
      long = c.loop-i.invariant.long;
    }

pub loop-i-preserved : goal.loop-i-preserved
loop-i-preserved c =
    let fs = c.args.fields.now in
    let same : code_value (calls_of c.args.functions.now c.args.turns.now) c.index-fields-i.result.1 (world_of c.args.env.now) c.loop-i.turns
    ≡ code_value (calls_of c.new-context.result.functions.now c.new-context.result.depth) c.index-fields-i.result.1 (world_of c.new-context.result.env.now) c.loop-i.turns =
    λ i. code_value (calls_of (sym c.new-context.ensures.functions i) (sym c.new-context.ensures.depth i)) c.index-fields-i.result.1 (world_of (sym c.new-context.ensures.env i)) c.loop-i.turns in
    record {
      made = so_far_on c.args.functions.now c.args.env.now c.args.turns.now fs c.requires.fit c.args.moves.now c.requires.moves
          (get_or c.args.env.now.inputs 0 []) (slice_get-get_or c.args.env.now.inputs 0 [] c.requires.came) c.evaluation_law.ensures.never_stuck c.in_ok-values.values c.args.turns.now
          c.loop-i.i c.loop-i.values c.loop-i.turns c.loop-i.invariant.made c.index-fields-i.result c.loop-i-test.true c.index-fields-i.is _ _ _ (same ∙ c.in_ok-value.ensures) c.set.ensures;
      long = ap length c.set.ensures ∙ length-set c.loop-i.values c.index-fields-i.result.0 _ ∙ c.loop-i.invariant.long;
    }

pub returns-in_err-value : goal.returns-in_err-value
returns-in_err-value c =
    let fs = c.args.fields.now in
    exit
    (λ r. AnswersBut fs c.args.moves.now (followed (field_values (calls_of c.args.functions.now c.args.turns.now) fs (world_of c.args.env.now) c.args.turns.now) (λ gs left. need (tuple_of gs) (λ vs. Done vs left))) r c.own_value.new.turns)
    _ _ c.from_residual-in_err-value.ensures.1
    (placed_stops (calls_of c.args.functions.now c.args.turns.now) (world_of c.args.env.now) fs c.in_ok-values.values c.args.turns.now c.loop-i.i c.loop-i.invariant.made.0 c.loop-i.turns c.loop-i.invariant.made.1
    c.index-fields-i.result c.loop-i-test.true c.index-fields-i.is _
    (stops_by _ _ _ (λ i. code_value (calls_of (sym c.new-context.ensures.functions i) (sym c.new-context.ensures.depth i)) c.index-fields-i.result.1 (world_of (sym c.new-context.ensures.env i)) c.loop-i.turns) c.in_err-value.ensures))

pub returns : goal.returns
returns c =
    let fs = c.args.fields.now in
    let made = c.loop-i.invariant.made in (
      made.0,
      placed_done (calls_of c.args.functions.now c.args.turns.now) (world_of c.args.env.now) fs c.in_ok-values.values c.args.turns.now c.loop-i.i made.0 c.loop-i.turns made.1
          c.loop-i-test.false c.in_ok-values.ensures
          (λ gs left d. as_long c.evaluation_law.ensures.never_stuck c.args.functions.now c.args.env.now c.args.turns.now fs c.args.turns.now left gs d)
          (λ gs left d. places_of_fields c.evaluation_law.ensures.never_stuck c.args.functions.now c.args.env.now c.args.turns.now (C.Tuple fs) c.requires.fit fs refl c.args.turns.now left gs d),
      made.2,
    )

use Rattle.expr_eval.proofs.Binary.{and_left, left_is_fit, on_left, or_left, right_is_fit}
use Rattle.expr_eval.proofs.BuiltIns.{are_three, are_two, called_stopped, called_stops, first_of_three_stops, first_of_two_stops, is_one, one_to_three, one_value, second_of_three_stops, three_values, two_values, with_one, with_three, with_two}
use Rattle.expr_eval.proofs.CodeParts.{built_in_is_fit, call_is_fit, conditional_parts, has_marker, has_other_marker, has_slot, list_is_fit, map_is_fit, select_parts, tuple_is_fit, unary_parts, field_places}
use Rattle.value_operations.proofs.Following.{answers_by, answers_held_by, followed_stops, stops, stops_by, stops_held}
use Rattle.expr_eval.proofs.PlacedFields.{placed_done, placed_on, placed_start, placed_stops}
use Rattle.std.proofs.lemmas.List.{length-set}
use Rattle.std.proofs.Common.{ℕ, [], ap, arith, length, refl, subst, sym, ◌≡◌, ◌<◌, ◌∙◌}
use Rattle.expr_eval.specs.Running.{StatementIsFit, Leads, OverIsFit, RowIsFit, state}
use Rattle.language_model.specs.parts.Statements.{statement_acts, row_acts, step_values}
use Rattle.expr_eval.proofs.ValueTypes.{as_long, binary_of_operands, built_in_of_arguments, call_of_arguments, of_type, places_of_fields, takings_of_base, unaries_of_operand}
use Rattle.expr_eval.proofs.Keeping.{keeps_all, keeps_declared, keeps_ended, keeps_then, vars_ended}
use Rattle.expr_eval.proofs.Leading.{leads_by, scoped_leads, stops_leading}
use Rattle.expr_eval.proofs.Forms.{arguments_stop, binary_answers, built_in_answers, call_answers, conditional_stops, first_answers, list_answers, literal_done, map_answers, marker_done, name_answers, other_marker_done, second_answers, select_comes, select_stops, tuple_answers, unary_answers, unary_stops}
use Rattle.expr_eval.proofs.LoopParts.{arm_passed, arm_taken, arms_stop, led_to, over_ended, over_on, row_ended, row_on, while_ended, while_no_turns, while_on, while_stops}
use Rattle.expr_eval.proofs.RowParts.{condition_of_arm, loop_after_turn, other_arms, other_turns, rest_of_row, row_of_arm, row_of_turn, statement_is_fit, turn_is_fit}
use Rattle.expr_eval.proofs.Rows.{pairs_on, pairs_past, pairs_start, pairs_stop_at_key, pairs_stop_at_value, takings_on, takings_past, takings_stop, values_on, values_past, values_start, values_stop}
use Rattle.expr_eval.proofs.StepParts.{first_is_fit, has_elements, has_keys, has_member, index_is_fit, key_is_fit, others_are_fit}
use Rattle.value_operations.specs.Answers.{Answers, AnswersHeld, held}
use Rattle.expr_eval.specs.Fitting.{IsFit}
use Rattle.spl_value.specs.Pairs.{are_pairs}
use Rattle.std.proofs.lemmas.Option.{slice_get_read}
use Rattle.std.specs.Prelude.{None, Ok, take}
use Rattle.value_operations.specs.declared.held.Held.TheVariants as O
use Rattle.language_model.specs.StatementLaws.{block_is, break_is, continue_is, return_is}
use Rattle.language_model.specs.declared.env.Env.{Env}
use Rattle.expr_eval.specs.steps.Keeping.{Keeps}
use Rattle.language_model.specs.Evaluation.{code_value, taken, world_of}
use Rattle.language_model.specs.EvaluationLaws.{taking_meaning}
use Rattle.language_model.specs.Functions.{bodies_of}
use Rattle.language_model.specs.parts.Functions.{calls_of}
use Rattle.language_model.specs.Outcomes.{Done, enter, followed}
use Rattle.spl_value.specs.declared.value.Value.TheVariants as V
use Rattle.language_model.specs.Statements.{Acts, declared, scoped, turns_over, change_values, step_value}
use Rattle.spl_tree.specs.declared.code.Code.TheVariants as C
use Rattle.spl_tree.specs.declared.body.Statement.TheVariants as S
use Rattle.expr_eval.proofs.StatementForms.{arguments_stopped, change_leads, declare_leads, evaluate_leads, function_leads, if_leads, return_leads, submit_leads, submit_window_leads, while_leads}
use Rattle.expr_eval.proofs.StatementParts.{arguments_are_fit, function_is_fit, has_loop_values, over_is_fit, result_is_fit, has_tuple}
use Rattle.spl_value.specs.declared.types.SplType.TheVariants as T
use Rattle.expr_eval.proofs.Calling.{answer_returns, call_body_is_fit, call_returns, called_is_fit, result_there, value_called}
use Rattle.expr_eval.proofs.Answering.{no_call, no_turn_begins}
use Rattle.expr_eval.proofs.PlaceChanges.{append_answers, append_stops, can_change, clear_answers, leads_next_by, place_changes, put_answers, put_stops, remove_answers, remove_stops, steps_begin, taken_begins, variable_holds}
use Rattle.expr_eval.proofs.StepValues.{first_step_is_fit, later_steps_are_fit, next_step_is_fit, others_fit, step_fits, steps_on, steps_past, steps_start, steps_stop, taken_on, taken_past, taken_stop}
use Rattle.expr_eval.proofs.+eval.Goals as goal

pub evaluate::eval_at-slot_value-requires : goal.evaluate::eval_at-slot_value-requires
evaluate::eval_at-slot_value-requires t c =
    has_slot c.args.context.now.functions.now c.args.context.now.env.now c.args.code.now c.requires c.in-Name.slot c.in-Name.is

pub evaluate::eval_at-returns-in-Literal : goal.evaluate::eval_at-returns-in-Literal
evaluate::eval_at-returns-in-Literal t c =
    literal_done (calls_of c.args.context.now.functions.now c.args.context.now.depth) (world_of c.args.context.now.env.now) c.args.code.now c.args.turns.now c.in-Literal.value c.in-Literal.is

pub evaluate::eval_at-returns-in-Name : goal.evaluate::eval_at-returns-in-Name
evaluate::eval_at-returns-in-Name t c =
    name_answers (calls_of c.args.context.now.functions.now c.args.context.now.depth) (world_of c.args.context.now.env.now) c.args.code.now c.args.turns.now c.in-Name.slot c.in-Name.is c.slot_value.result c.slot_value.ensures

pub evaluate::eval_at-select-requires : goal.evaluate::eval_at-select-requires
evaluate::eval_at-select-requires t c = (omega (arith, c.in-Some.ensures.0, c.in-Some.ensures.1), subst (λ x. IsFit c.args.context.now.functions.now x c.args.context.now.env.now) (c.in-Select.is ∙ (λ i. C.Select (sym c.get.ensures i) (sym c.as_slice.ensures i))) c.requires)

pub evaluate::eval_at-returns-in-Select : goal.evaluate::eval_at-returns-in-Select
evaluate::eval_at-returns-in-Select t c = answers_held_by _ _ _ _ (ap (λ x. code_value (calls_of c.args.context.now.functions.now c.args.context.now.depth) x (world_of c.args.context.now.env.now) c.args.turns.now) (c.in-Select.is ∙ (λ i. C.Select (sym c.get.ensures i) (sym c.as_slice.ensures i)))) c.select.ensures

pub evaluate::eval_at-unary-requires : goal.evaluate::eval_at-unary-requires
evaluate::eval_at-unary-requires t c = (omega (arith, c.in-Some.ensures.0, c.in-Some.ensures.1), subst (λ x. IsFit c.args.context.now.functions.now x c.args.context.now.env.now) (c.in-Unary.is ∙ (λ i. C.Unary (sym c.as_slice-in-Unary.ensures i) (sym c.get-in-Unary.ensures i))) c.requires)

pub evaluate::eval_at-returns-in-Unary : goal.evaluate::eval_at-returns-in-Unary
evaluate::eval_at-returns-in-Unary t c = answers_held_by _ _ _ _ (ap (λ x. code_value (calls_of c.args.context.now.functions.now c.args.context.now.depth) x (world_of c.args.context.now.env.now) c.args.turns.now) (c.in-Unary.is ∙ (λ i. C.Unary (sym c.as_slice-in-Unary.ensures i) (sym c.get-in-Unary.ensures i)))) c.unary.ensures

pub evaluate::eval_at-binary-requires : goal.evaluate::eval_at-binary-requires
evaluate::eval_at-binary-requires t c =
    (omega (arith, c.in-Some.ensures.0, c.in-Some.ensures.1), subst (λ x. IsFit c.args.context.now.functions.now x c.args.context.now.env.now) (c.in-Binary.is ∙ (λ i. C.Binary c.in-Binary.operator (sym c.get-in-Binary.ensures i) (sym c.get-in-Binary-2.ensures i))) c.requires)

pub evaluate::eval_at-returns-in-Binary : goal.evaluate::eval_at-returns-in-Binary
evaluate::eval_at-returns-in-Binary t c =
    binary_answers (calls_of c.args.context.now.functions.now c.args.context.now.depth) (world_of c.args.context.now.env.now) c.args.code.now c.args.turns.now c.in-Binary.operator c.get-in-Binary.result.now c.get-in-Binary-2.result.now (c.in-Binary.is ∙ (λ i. C.Binary c.in-Binary.operator (sym c.get-in-Binary.ensures i) (sym c.get-in-Binary-2.ensures i))) _ _ c.binary.ensures

pub evaluate::eval_at-conditional-requires : goal.evaluate::eval_at-conditional-requires
evaluate::eval_at-conditional-requires t c = (omega (arith, c.in-Some.ensures.0, c.in-Some.ensures.1), subst (λ x. IsFit c.args.context.now.functions.now x c.args.context.now.env.now) (c.in-Conditional.is ∙ (λ i. C.Conditional (sym c.get-in-Conditional.ensures i) (sym c.get-in-Conditional-2.ensures i) (sym c.get-in-Conditional-3.ensures i))) c.requires)

pub evaluate::eval_at-returns-in-Conditional : goal.evaluate::eval_at-returns-in-Conditional
evaluate::eval_at-returns-in-Conditional t c = answers_held_by _ _ _ _ (ap (λ x. code_value (calls_of c.args.context.now.functions.now c.args.context.now.depth) x (world_of c.args.context.now.env.now) c.args.turns.now) (c.in-Conditional.is ∙ (λ i. C.Conditional (sym c.get-in-Conditional.ensures i) (sym c.get-in-Conditional-2.ensures i) (sym c.get-in-Conditional-3.ensures i)))) c.conditional.ensures

pub evaluate::eval_at-list-requires : goal.evaluate::eval_at-list-requires
evaluate::eval_at-list-requires t c = (omega (arith, c.in-Some.ensures.0, c.in-Some.ensures.1), subst (λ x. IsFit c.args.context.now.functions.now x c.args.context.now.env.now) (c.in-List.is ∙ (λ i. C.List (sym c.as_slice-in-List.ensures i))) c.requires)

pub evaluate::eval_at-returns-in-List : goal.evaluate::eval_at-returns-in-List
evaluate::eval_at-returns-in-List t c = answers_held_by _ _ _ _ (ap (λ x. code_value (calls_of c.args.context.now.functions.now c.args.context.now.depth) x (world_of c.args.context.now.env.now) c.args.turns.now) (c.in-List.is ∙ (λ i. C.List (sym c.as_slice-in-List.ensures i)))) c.list.ensures

pub evaluate::eval_at-map-requires : goal.evaluate::eval_at-map-requires
evaluate::eval_at-map-requires t c = (omega (arith, c.in-Some.ensures.0, c.in-Some.ensures.1), subst (λ x. IsFit c.args.context.now.functions.now x c.args.context.now.env.now) (c.in-Map.is ∙ (λ i. C.Map (sym c.as_slice-in-Map.ensures i))) c.requires)

pub evaluate::eval_at-returns-in-Map : goal.evaluate::eval_at-returns-in-Map
evaluate::eval_at-returns-in-Map t c = answers_held_by _ _ _ _ (ap (λ x. code_value (calls_of c.args.context.now.functions.now c.args.context.now.depth) x (world_of c.args.context.now.env.now) c.args.turns.now) (c.in-Map.is ∙ (λ i. C.Map (sym c.as_slice-in-Map.ensures i)))) c.map.ensures

pub evaluate::eval_at-tuple-requires : goal.evaluate::eval_at-tuple-requires
evaluate::eval_at-tuple-requires t c = (omega (arith, c.in-Some.ensures.0, c.in-Some.ensures.1), subst (λ x. IsFit c.args.context.now.functions.now x c.args.context.now.env.now) (c.in-Tuple.is ∙ (λ i. C.Tuple (sym c.as_slice-in-Tuple.ensures i))) c.requires)

pub evaluate::eval_at-returns-in-Tuple : goal.evaluate::eval_at-returns-in-Tuple
evaluate::eval_at-returns-in-Tuple t c = answers_held_by _ _ _ _ (ap (λ x. code_value (calls_of c.args.context.now.functions.now c.args.context.now.depth) x (world_of c.args.context.now.env.now) c.args.turns.now) (c.in-Tuple.is ∙ (λ i. C.Tuple (sym c.as_slice-in-Tuple.ensures i)))) c.tuple.ensures

pub evaluate::eval_at-built_in-requires : goal.evaluate::eval_at-built_in-requires
evaluate::eval_at-built_in-requires t c = (omega (arith, c.in-Some.ensures.0, c.in-Some.ensures.1), subst (λ x. IsFit c.args.context.now.functions.now x c.args.context.now.env.now) (c.in-BuiltIn.is ∙ (λ i. C.BuiltIn c.in-BuiltIn.call (sym c.as_slice-in-BuiltIn.ensures i))) c.requires)

pub evaluate::eval_at-returns-in-BuiltIn : goal.evaluate::eval_at-returns-in-BuiltIn
evaluate::eval_at-returns-in-BuiltIn t c = answers_held_by _ _ _ _ (ap (λ x. code_value (calls_of c.args.context.now.functions.now c.args.context.now.depth) x (world_of c.args.context.now.env.now) c.args.turns.now) (c.in-BuiltIn.is ∙ (λ i. C.BuiltIn c.in-BuiltIn.call (sym c.as_slice-in-BuiltIn.ensures i)))) c.built_in.ensures

pub evaluate::eval_at-call-requires : goal.evaluate::eval_at-call-requires
evaluate::eval_at-call-requires t c = (omega (arith, c.in-Some.ensures.0, c.in-Some.ensures.1), subst (λ x. IsFit c.args.context.now.functions.now x c.args.context.now.env.now) (c.in-Call.is ∙ (λ i. C.Call c.in-Call.place (sym c.as_slice-in-Call.ensures i))) c.requires)

pub evaluate::eval_at-returns-in-Call : goal.evaluate::eval_at-returns-in-Call
evaluate::eval_at-returns-in-Call t c = answers_held_by _ _ _ _ (ap (λ x. code_value (calls_of c.args.context.now.functions.now c.args.context.now.depth) x (world_of c.args.context.now.env.now) c.args.turns.now) (c.in-Call.is ∙ (λ i. C.Call c.in-Call.place (sym c.as_slice-in-Call.ensures i)))) c.call.ensures

pub evaluate::select-eval_at-requires : goal.evaluate::select-eval_at-requires
evaluate::select-eval_at-requires t c =
    (omega arith, (let p = select_parts c.args.context.now.functions.now c.args.context.now.env.now (C.Select c.args.base.now c.args.takings.now) c.requires c.args.base.now c.args.takings.now refl in (p.0, p.1)))

pub evaluate::select-returns-in_err-first : goal.evaluate::select-returns-in_err-first
evaluate::select-returns-in_err-first t c =
    select_stops (calls_of c.args.context.now.functions.now c.args.context.now.depth) (world_of c.args.context.now.env.now) (C.Select c.args.base.now c.args.takings.now) c.args.turns.now c.args.base.now c.args.takings.now refl _ _ _ c.from_residual.ensures.1 c.in_err-first.ensures

pub evaluate::unary-eval_at-requires : goal.evaluate::unary-eval_at-requires
evaluate::unary-eval_at-requires t c =
    (omega arith, (let p = unary_parts c.args.context.now.functions.now c.args.context.now.env.now (C.Unary c.args.operators.now c.args.operand.now) c.requires c.args.operators.now c.args.operand.now refl in (p.0, p.1)))

pub evaluate::unary-returns-in_err-operand : goal.evaluate::unary-returns-in_err-operand
evaluate::unary-returns-in_err-operand t c =
    unary_stops (calls_of c.args.context.now.functions.now c.args.context.now.depth) (world_of c.args.context.now.env.now) (C.Unary c.args.operators.now c.args.operand.now) c.args.turns.now c.args.operators.now c.args.operand.now refl _ _ _ c.from_residual.ensures.1 c.in_err-operand.ensures

pub evaluate::unary-unaries_of-requires : goal.evaluate::unary-unaries_of-requires
evaluate::unary-unaries_of-requires t c =
    unaries_of_operand c.evaluation_law.ensures.never_stuck c.args.context.now.functions.now c.args.context.now.env.now c.args.context.now.depth (C.Unary c.args.operators.now c.args.operand.now) c.requires c.args.operators.now c.args.operand.now refl c.args.turns.now _ _ c.in_ok-operand.ensures

pub evaluate::unary-returns : goal.evaluate::unary-returns
evaluate::unary-returns t c =
    unary_answers (calls_of c.args.context.now.functions.now c.args.context.now.depth) (world_of c.args.context.now.env.now) (C.Unary c.args.operators.now c.args.operand.now) c.args.turns.now c.args.operators.now c.args.operand.now refl _ _ c.in_ok-operand.ensures _ (c.unaries_of.ensures _)

pub evaluate::conditional-is_true-requires : goal.evaluate::conditional-is_true-requires
evaluate::conditional-is_true-requires t c =
    (omega arith, (conditional_parts c.args.context.now.functions.now c.args.context.now.env.now (C.Conditional c.args.condition.now c.args.first.now c.args.second.now) c.requires c.args.condition.now c.args.first.now c.args.second.now refl).0)

pub evaluate::conditional-returns-in_err-is_true : goal.evaluate::conditional-returns-in_err-is_true
evaluate::conditional-returns-in_err-is_true t c =
    conditional_stops (calls_of c.args.context.now.functions.now c.args.context.now.depth) (world_of c.args.context.now.env.now) (C.Conditional c.args.condition.now c.args.first.now c.args.second.now) c.args.turns.now c.args.condition.now c.args.first.now c.args.second.now refl _ _ _ c.from_residual.ensures.1 c.in_err-is_true.ensures

pub evaluate::conditional-eval_at-requires : goal.evaluate::conditional-eval_at-requires
evaluate::conditional-eval_at-requires t c =
    (omega arith, (conditional_parts c.args.context.now.functions.now c.args.context.now.env.now (C.Conditional c.args.condition.now c.args.first.now c.args.second.now) c.requires c.args.condition.now c.args.first.now c.args.second.now refl).1)

pub evaluate::conditional-eval_at-requires-else-branch : goal.evaluate::conditional-eval_at-requires-else-branch
evaluate::conditional-eval_at-requires-else-branch t c =
    (omega arith, (conditional_parts c.args.context.now.functions.now c.args.context.now.env.now (C.Conditional c.args.condition.now c.args.first.now c.args.second.now) c.requires c.args.condition.now c.args.first.now c.args.second.now refl).2)

pub evaluate::conditional-returns-then-branch : goal.evaluate::conditional-returns-then-branch
evaluate::conditional-returns-then-branch t c =
    first_answers (calls_of c.args.context.now.functions.now c.args.context.now.depth) (world_of c.args.context.now.env.now) (C.Conditional c.args.condition.now c.args.first.now c.args.second.now) c.args.turns.now c.args.condition.now c.args.first.now c.args.second.now refl _ _ c.in_ok-is_true.ensures c.if-branch.true _ _ c.eval_at.ensures

pub evaluate::conditional-returns-else-branch : goal.evaluate::conditional-returns-else-branch
evaluate::conditional-returns-else-branch t c =
    second_answers (calls_of c.args.context.now.functions.now c.args.context.now.depth) (world_of c.args.context.now.env.now) (C.Conditional c.args.condition.now c.args.first.now c.args.second.now) c.args.turns.now c.args.condition.now c.args.first.now c.args.second.now refl _ _ c.in_ok-is_true.ensures c.if-branch.false _ _ c.eval_at-else-branch.ensures

pub evaluate::list-eval_all-requires : goal.evaluate::list-eval_all-requires
evaluate::list-eval_all-requires t c =
    (omega arith, list_is_fit c.args.context.now.functions.now c.args.context.now.env.now (C.List c.args.codes.now) c.requires c.args.codes.now refl)

pub evaluate::list-returns : goal.evaluate::list-returns
evaluate::list-returns t c =
    list_answers (calls_of c.args.context.now.functions.now c.args.context.now.depth) (world_of c.args.context.now.env.now) (C.List c.args.codes.now) c.args.turns.now c.args.codes.now refl _ _ (c.list_value.ensures _ _ c.eval_all.ensures)

pub evaluate::tuple-returns : goal.evaluate::tuple-returns
evaluate::tuple-returns t c =
    tuple_answers (calls_of c.args.context.now.functions.now c.args.context.now.depth) (world_of c.args.context.now.env.now) (C.Tuple c.args.fields.now) c.args.turns.now c.args.fields.now refl _ _ (c.tuple_value.ensures _ _ c.eval_fields.ensures)

pub evaluate::call-eval_all-requires : goal.evaluate::call-eval_all-requires
evaluate::call-eval_all-requires t c =
    (omega arith, call_is_fit c.args.context.now.functions.now c.args.context.now.env.now (C.Call c.args.place c.args.codes.now) c.requires c.args.place c.args.codes.now refl)

pub evaluate::call-returns-in_err-values : goal.evaluate::call-returns-in_err-values
evaluate::call-returns-in_err-values t c =
    arguments_stop (calls_of c.args.context.now.functions.now c.args.context.now.depth) (world_of c.args.context.now.env.now) (C.Call c.args.place c.args.codes.now) c.args.turns.now c.args.place c.args.codes.now refl _ _ _ c.from_residual.ensures.1 c.in_err-values.ensures

pub evaluate::eval_at-is_marker-requires : goal.evaluate::eval_at-is_marker-requires
evaluate::eval_at-is_marker-requires t c =
    has_marker c.args.context.now.functions.now c.args.context.now.env.now c.args.code.now c.requires c.in-IsMarker.marker c.in-IsMarker.is

pub evaluate::eval_at-is_marker-requires-in-IsNotMarker : goal.evaluate::eval_at-is_marker-requires-in-IsNotMarker
evaluate::eval_at-is_marker-requires-in-IsNotMarker t c =
    has_other_marker c.args.context.now.functions.now c.args.context.now.env.now c.args.code.now c.requires c.in-IsNotMarker.marker c.in-IsNotMarker.is

pub evaluate::eval_at-returns-in-IsMarker : goal.evaluate::eval_at-returns-in-IsMarker
evaluate::eval_at-returns-in-IsMarker t c =
    (let came = has_marker c.args.context.now.functions.now c.args.context.now.env.now c.args.code.now c.requires c.in-IsMarker.marker c.in-IsMarker.is in marker_done (calls_of c.args.context.now.functions.now c.args.context.now.depth) (world_of c.args.context.now.env.now) c.args.code.now c.args.turns.now came.0 came.1 c.in-IsMarker.marker c.in-IsMarker.is _ (c.is_marker.ensures came.0 came.1))

pub evaluate::eval_at-returns-in-IsNotMarker : goal.evaluate::eval_at-returns-in-IsNotMarker
evaluate::eval_at-returns-in-IsNotMarker t c =
    (let came = has_other_marker c.args.context.now.functions.now c.args.context.now.env.now c.args.code.now c.requires c.in-IsNotMarker.marker c.in-IsNotMarker.is in other_marker_done (calls_of c.args.context.now.functions.now c.args.context.now.depth) (world_of c.args.context.now.env.now) c.args.code.now c.args.turns.now came.0 came.1 c.in-IsNotMarker.marker c.in-IsNotMarker.is _ (c.is_marker-in-IsNotMarker.ensures came.0 came.1))

pub evaluate::eval_all-loop-code-init : goal.evaluate::eval_all-loop-code-init
evaluate::eval_all-loop-code-init t c = values_start (calls_of c.args.context.now.functions.now c.args.context.now.depth) (world_of c.args.context.now.env.now) c.args.codes.now c.new-values.result c.args.turns.now c.new-values.ensures

pub evaluate::eval_all-returns : goal.evaluate::eval_all-returns
evaluate::eval_all-returns t c =
    c.loop-code.invariant
    ∙ values_past (calls_of c.args.context.now.functions.now c.args.context.now.depth) (world_of c.args.context.now.env.now) c.args.codes.now c.loop-code.code-index c.loop-code.values c.loop-code.turns c.loop-code-test.false

pub evaluate::eval_fields-loop-field-init : goal.evaluate::eval_fields-loop-field-init
evaluate::eval_fields-loop-field-init t c =
    record { made = placed_start (calls_of c.args.context.now.functions.now c.args.context.now.depth) (world_of c.args.context.now.env.now) c.args.fields.now c.in_ok-values.values c.args.turns.now; long = c.in_ok-values.ensures }

pub evaluate::eval_fields-own_value-requires : goal.evaluate::eval_fields-own_value-requires
evaluate::eval_fields-own_value-requires t c =
    (omega arith, tuple_is_fit c.args.context.now.functions.now c.args.context.now.env.now (C.Tuple c.args.fields.now) c.requires c.args.fields.now refl c.loop-field.field-index c.field-item.result (slice_get_read c.args.fields.now (length c.args.fields.now) c.loop-field.field-index c.field-item.result refl c.loop-field-test.true c.field-item.is))

pub evaluate::eval_fields-set-requires : goal.evaluate::eval_fields-set-requires
evaluate::eval_fields-set-requires t c =
    let at : c.field-item.result.0 < length c.args.fields.now = field_places c.args.context.now.functions.now c.args.context.now.env.now (C.Tuple c.args.fields.now) c.requires c.args.fields.now refl c.loop-field.field-index c.field-item.result (slice_get_read c.args.fields.now (length c.args.fields.now) c.loop-field.field-index c.field-item.result refl c.loop-field-test.true c.field-item.is) in
    subst (λ (n : ℕ). c.field-item.result.0 < n) (sym c.loop-field.invariant.long) at

pub evaluate::eval_fields-loop-field-preserved : goal.evaluate::eval_fields-loop-field-preserved
evaluate::eval_fields-loop-field-preserved t c =
    record {
      made = placed_on (calls_of c.args.context.now.functions.now c.args.context.now.depth) (world_of c.args.context.now.env.now) c.args.fields.now c.in_ok-values.values c.args.turns.now c.loop-field.field-index c.loop-field.values c.loop-field.turns c.loop-field.invariant.made
          c.field-item.result c.loop-field-test.true c.field-item.is _ _ _ c.in_ok-value.ensures c.set.ensures;
      long = ap length c.set.ensures ∙ length-set c.loop-field.values c.field-item.result.0 _ ∙ c.loop-field.invariant.long;
    }

pub evaluate::eval_fields-returns-in_err-value : goal.evaluate::eval_fields-returns-in_err-value
evaluate::eval_fields-returns-in_err-value t c =
    stops _ _ _ _ c.from_residual-in_err-value.ensures.1
    (placed_stops (calls_of c.args.context.now.functions.now c.args.context.now.depth) (world_of c.args.context.now.env.now) c.args.fields.now c.in_ok-values.values c.args.turns.now c.loop-field.field-index c.loop-field.values c.loop-field.turns c.loop-field.invariant.made
    c.field-item.result c.loop-field-test.true c.field-item.is _ c.in_err-value.ensures)

pub evaluate::eval_fields-returns : goal.evaluate::eval_fields-returns
evaluate::eval_fields-returns t c =
    placed_done (calls_of c.args.context.now.functions.now c.args.context.now.depth) (world_of c.args.context.now.env.now) c.args.fields.now c.in_ok-values.values c.args.turns.now c.loop-field.field-index c.loop-field.values c.loop-field.turns c.loop-field.invariant.made
    c.loop-field-test.false c.in_ok-values.ensures
    (λ gs left d. as_long c.evaluation_law.ensures.never_stuck c.args.context.now.functions.now c.args.context.now.env.now c.args.context.now.depth c.args.fields.now c.args.turns.now left gs d)
    (λ gs left d. places_of_fields c.evaluation_law.ensures.never_stuck c.args.context.now.functions.now c.args.context.now.env.now c.args.context.now.depth (C.Tuple c.args.fields.now) c.requires c.args.fields.now refl c.args.turns.now left gs d)

pub evaluate::taken-member-requires : goal.evaluate::taken-member-requires
evaluate::taken-member-requires t c = has_member c.args.context.now.functions.now c.args.context.now.env.now c.args.taking.now (held c.args.value) c.requires c.in-Member.place c.in-Member.is

pub evaluate::taken-eval_at-index-requires : goal.evaluate::taken-eval_at-index-requires
evaluate::taken-eval_at-index-requires t c =
    (omega arith, index_is_fit c.args.context.now.functions.now c.args.context.now.env.now c.args.taking.now (held c.args.value) c.requires c.in-Element.index c.in-Element.is)

pub evaluate::taken-eval_at-key-requires : goal.evaluate::taken-eval_at-key-requires
evaluate::taken-eval_at-key-requires t c =
    (omega arith, key_is_fit c.args.context.now.functions.now c.args.context.now.env.now c.args.taking.now (held c.args.value) c.requires c.in-AtKey.key c.in-AtKey.is)

pub evaluate::taken-element_at-requires : goal.evaluate::taken-element_at-requires
evaluate::taken-element_at-requires t c = λ h is.
    has_elements c.args.context.now.functions.now c.args.context.now.env.now c.args.taking.now (held c.args.value) c.requires c.evaluation_law.ensures.never_stuck c.args.context.now.depth c.args.turns.now _
    c.in-Element.index _ (subst (λ r. AnswersHeld (code_value (calls_of c.args.context.now.functions.now c.args.context.now.depth) c.in-Element.index (world_of c.args.context.now.env.now) c.args.turns.now) r c.eval_at-index.new.turns) is c.eval_at-index.ensures) c.in-Element.is

pub evaluate::taken-value_at-requires : goal.evaluate::taken-value_at-requires
evaluate::taken-value_at-requires t c = λ h is.
    has_keys c.args.context.now.functions.now c.args.context.now.env.now c.args.taking.now (held c.args.value) c.requires c.evaluation_law.ensures.never_stuck c.args.context.now.depth c.args.turns.now _
    c.in-AtKey.key _ (subst (λ r. AnswersHeld (code_value (calls_of c.args.context.now.functions.now c.args.context.now.depth) c.in-AtKey.key (world_of c.args.context.now.env.now) c.args.turns.now) r c.eval_at-key.new.turns) is c.eval_at-key.ensures) c.in-AtKey.is

pub evaluate::taken-returns-in-Element : goal.evaluate::taken-returns-in-Element
evaluate::taken-returns-in-Element t c =
    subst (λ t. AnswersHeld (taken (taking_meaning (calls_of c.args.context.now.functions.now c.args.context.now.depth) t) (held c.args.value) (world_of c.args.context.now.env.now) c.args.turns.now) c.element_at.result c.eval_at-index.new.turns) (sym c.in-Element.is)
    (c.element_at.ensures _ _ c.eval_at-index.ensures)

pub evaluate::taken-returns-in-AtKey : goal.evaluate::taken-returns-in-AtKey
evaluate::taken-returns-in-AtKey t c =
    subst (λ t. AnswersHeld (taken (taking_meaning (calls_of c.args.context.now.functions.now c.args.context.now.depth) t) (held c.args.value) (world_of c.args.context.now.env.now) c.args.turns.now) c.value_at.result c.eval_at-key.new.turns) (sym c.in-AtKey.is)
    (c.value_at.ensures _ _ c.eval_at-key.ensures)

pub evaluate::binary-is_true-requires : goal.evaluate::binary-is_true-requires
evaluate::binary-is_true-requires t c =
    (omega arith, and_left c.args.context.now.functions.now c.args.context.now.env.now c.args.operator c.args.left.now c.args.right.now c.requires c.in-And.is)

pub evaluate::binary-eval_at-requires : goal.evaluate::binary-eval_at-requires
evaluate::binary-eval_at-requires t c =
    (omega arith, right_is_fit c.args.context.now.functions.now c.args.context.now.env.now c.args.operator c.args.left.now c.args.right.now c.requires)

pub evaluate::binary-is_true-requires-in-Or : goal.evaluate::binary-is_true-requires-in-Or
evaluate::binary-is_true-requires-in-Or t c =
    (omega arith, or_left c.args.context.now.functions.now c.args.context.now.env.now c.args.operator c.args.left.now c.args.right.now c.requires c.in-Or.is)

pub evaluate::binary-eval_at-requires-in-Or : goal.evaluate::binary-eval_at-requires-in-Or
evaluate::binary-eval_at-requires-in-Or t c =
    (omega arith, right_is_fit c.args.context.now.functions.now c.args.context.now.env.now c.args.operator c.args.left.now c.args.right.now c.requires)

pub evaluate::binary-eval_at-requires-in_default : goal.evaluate::binary-eval_at-requires-in_default
evaluate::binary-eval_at-requires-in_default t c =
    (omega arith, left_is_fit c.args.context.now.functions.now c.args.context.now.env.now c.args.operator c.args.left.now c.args.right.now c.requires)

pub evaluate::binary-eval_at-right-requires : goal.evaluate::binary-eval_at-right-requires
evaluate::binary-eval_at-right-requires t c =
    (omega arith, right_is_fit c.args.context.now.functions.now c.args.context.now.env.now c.args.operator c.args.left.now c.args.right.now c.requires)

pub evaluate::binary-operator_with-requires : goal.evaluate::binary-operator_with-requires
evaluate::binary-operator_with-requires t c = λ h is.
    binary_of_operands c.evaluation_law.ensures.never_stuck c.args.context.now.functions.now c.args.context.now.env.now c.args.context.now.depth (C.Binary c.args.operator c.args.left.now c.args.right.now) c.requires
    c.args.operator c.args.left.now c.args.right.now refl c.args.turns.now _ _ _ _ c.in_ok-left-in_default.ensures
    (subst (λ r. AnswersHeld (code_value (calls_of c.args.context.now.functions.now c.args.context.now.depth) c.args.right.now (world_of c.args.context.now.env.now) c.eval_at-in_default.new.turns) r c.eval_at-right.new.turns) is c.eval_at-right.ensures) c.in_default.not-And c.in_default.not-Or

pub evaluate::binary-returns-in_ok-left-in_default : goal.evaluate::binary-returns-in_ok-left-in_default
evaluate::binary-returns-in_ok-left-in_default t c =
    answers_held_by _ _ _ _
    (on_left c.args.operator (code_value (calls_of c.args.context.now.functions.now c.args.context.now.depth) c.args.left.now) (code_value (calls_of c.args.context.now.functions.now c.args.context.now.depth) c.args.right.now)
    (world_of c.args.context.now.env.now) c.args.turns.now c.in_default.not-And c.in_default.not-Or _ _ c.in_ok-left-in_default.ensures)
    (c.operator_with.ensures _ _ c.eval_at-right.ensures)

-- ---- places

pub run::step_values-loop-taking-init : goal.run::step_values-loop-taking-init
run::step_values-loop-taking-init t c = record {
  comes = steps_start (bodies_of c.args.context.now.functions.now c.args.context.now.depth) (state c.args.context.now.env.now []) c.args.takings.now c.new-steps.result c.args.turns.now c.new-steps.ensures;
  others = c.requires;
}

pub run::step_values-step_value-requires : goal.run::step_values-step_value-requires
run::step_values-step_value-requires t c = (omega arith, next_step_is_fit c.args.context.now.functions.now c.args.context.now.env.now c.args.takings.now c.loop-taking.taking-index c.loop-taking.invariant.others c.taking-item.result c.loop-taking-test.true c.taking-item.is)

pub run::step_values-returns : goal.run::step_values-returns
run::step_values-returns t c = c.loop-taking.invariant.comes ∙ steps_past (bodies_of c.args.context.now.functions.now c.args.context.now.depth) (state c.args.context.now.env.now []) c.args.takings.now c.loop-taking.taking-index c.loop-taking.steps c.loop-taking.turns c.loop-taking-test.false

pub run::steps_taken-loop-taking-init : goal.run::steps_taken-loop-taking-init
run::steps_taken-loop-taking-init t c = record {
  comes = taken_begins c.args.context.now.functions.now c.args.place.now c.args.context.now.env.now c.requires c.as_slice.result.now c.as_slice.ensures
      c.index-as_slice-place.result c.index-as_slice-place.is c.as_slice-taking-items.result.now c.as_slice-taking-items.ensures
      (bodies_of c.args.context.now.functions.now c.args.context.now.depth) c.new-steps.result c.new-steps.ensures c.args.turns.now;
  others = steps_begin c.args.context.now.functions.now c.args.place.now c.args.context.now.env.now c.requires c.as_slice.result.now c.as_slice.ensures
      c.index-as_slice-place.result c.index-as_slice-place.is c.as_slice-taking-items.result.now c.as_slice-taking-items.ensures;
}

pub run::steps_taken-returns : goal.run::steps_taken-returns
run::steps_taken-returns t c = λ v at. c.loop-taking.invariant.comes v at ∙ taken_past (bodies_of c.args.context.now.functions.now c.args.context.now.depth) (state c.args.context.now.env.now []) c.as_slice-taking-items.result.now c.loop-taking.taking-index (held c.loop-taking.value) c.loop-taking.steps c.loop-taking.turns c.loop-taking-test.false

-- ---- functions

pub run::run_statement-run_call-requires : goal.run::run_statement-run_call-requires
run::run_statement-run_call-requires t c =
    (omega (arith, c.in-Some.ensures.0, c.in-Some.ensures.1), subst (λ x. StatementIsFit c.args.program.now.functions.now x c.args.env.now) (c.in-Call.is ∙ (λ i. S.Call c.in-Call.place (sym c.as_slice-in-Call.ensures i))) c.requires)

pub run::run_statement-returns-in-Call-clause-leads : goal.run::run_statement-returns-in-Call-clause-leads
run::run_statement-returns-in-Call-clause-leads t c =
    leads_by _ _ _ _ _ (ap (λ x. statement_acts (bodies_of c.args.program.now.functions.now c.args.program.now.depth) x (state c.args.env.now c.args.submits.now) c.args.turns.now) (c.in-Call.is ∙ (λ i. S.Call c.in-Call.place (sym c.as_slice-in-Call.ensures i)))) (c.run_call.ensures c.args.submits.now)

pub run::run_statement-run_for-requires : goal.run::run_statement-run_for-requires
run::run_statement-run_for-requires t c =
    (omega (arith, c.in-Some.ensures.0, c.in-Some.ensures.1), subst (λ x. StatementIsFit c.args.program.now.functions.now x c.args.env.now) (c.in-For.is ∙ (λ i. S.For c.in-For.code (sym c.as_slice-in-For.ensures i))) c.requires)

pub run::run_statement-returns-in-For-clause-leads : goal.run::run_statement-returns-in-For-clause-leads
run::run_statement-returns-in-For-clause-leads t c =
    leads_by _ _ _ _ _ (ap (λ x. statement_acts (bodies_of c.args.program.now.functions.now c.args.program.now.depth) x (state c.args.env.now c.args.submits.now) c.args.turns.now) (c.in-For.is ∙ (λ i. S.For c.in-For.code (sym c.as_slice-in-For.ensures i)))) c.run_for.ensures.leads

pub run::run_call-eval_all-requires : goal.run::run_call-eval_all-requires
run::run_call-eval_all-requires t c =
    (omega arith, arguments_are_fit c.args.program.now.functions.now (S.Call c.args.place c.args.codes.now) c.args.env.now c.requires c.args.place c.args.codes.now refl)

pub run::run_call-returns-in_err-values : goal.run::run_call-returns-in_err-values
run::run_call-returns-in_err-values t c =
    λ submits. arguments_stopped (bodies_of c.args.program.now.functions.now c.args.program.now.depth) (S.Call c.args.place c.args.codes.now) (state c.args.env.now submits) c.args.turns.now c.args.place c.args.codes.now refl _ _ _ _ c.from_residual.ensures.1 c.in_err-values.ensures

pub run::run_call-run_function-requires : goal.run::run_call-run_function-requires
run::run_call-run_function-requires t c =
    (omega arith, function_is_fit c.args.program.now.functions.now (S.Call c.args.place c.args.codes.now) c.args.env.now c.requires c.args.place c.args.codes.now refl c.evaluation_law.ensures.never_stuck c.args.program.now.depth c.args.turns.now _ _ c.in_ok-values.ensures)

pub run::run_call-returns : goal.run::run_call-returns
run::run_call-returns t c =
    λ submits. function_leads (bodies_of c.args.program.now.functions.now c.args.program.now.depth) (S.Call c.args.place c.args.codes.now) (state c.args.env.now submits) c.args.turns.now c.args.place c.args.codes.now refl _ _ c.in_ok-values.ensures _ _ _ (c.next_follows_call.ensures _ (state c.args.env.now submits) _ c.run_function.ensures)

pub run::run_for-elements-requires : goal.run::run_for-elements-requires
run::run_for-elements-requires t c =
    has_loop_values c.args.program.now.functions.now (S.For c.args.code.now c.args.row.now) c.args.env.now c.requires c.args.code.now c.args.row.now refl c.evaluation_law.ensures.never_stuck c.args.program.now.depth c.args.turns.now _ _ c.in_ok-held.ensures

pub run::run_for-run_over-requires : goal.run::run_for-run_over-requires
run::run_for-run_over-requires t c =
    (omega arith, over_is_fit c.args.program.now.functions.now (S.For c.args.code.now c.args.row.now) c.args.env.now c.requires c.args.code.now c.args.row.now refl c.evaluation_law.ensures.never_stuck c.args.program.now.depth c.args.turns.now _ _ c.in_ok-held.ensures _ c.in_ok-values.ensures)

pub run::run_statement-returns-in-If-clause-leads : goal.run::run_statement-returns-in-If-clause-leads
run::run_statement-returns-in-If-clause-leads t c =
    if_leads (bodies_of c.args.program.now.functions.now c.args.program.now.depth) c.args.statement.now (state c.args.env.now c.args.submits.now) c.args.turns.now c.as_slice-in-If.result.now c.as_slice-in-If-2.result.now (c.in-If.is ∙ (λ i. S.If (sym c.as_slice-in-If.ensures i) (sym c.as_slice-in-If-2.ensures i))) _ _ _ c.run_if.ensures.leads

pub run::run_statement-returns-in-While-clause-leads : goal.run::run_statement-returns-in-While-clause-leads
run::run_statement-returns-in-While-clause-leads t c =
    while_leads (bodies_of c.args.program.now.functions.now c.args.program.now.depth) c.args.statement.now (state c.args.env.now c.args.submits.now) c.args.turns.now c.in-While.code c.as_slice-in-While.result.now (c.in-While.is ∙ (λ i. S.While c.in-While.code (sym c.as_slice-in-While.ensures i))) _ _ _ c.run_while.ensures.leads

pub run::run_statement-own_value-requires : goal.run::run_statement-own_value-requires
run::run_statement-own_value-requires t c =
    (omega (arith, c.in-Some.ensures.0, c.in-Some.ensures.1), result_is_fit c.args.program.now.functions.now c.args.statement.now c.args.env.now c.requires c.in-Some-result.code (c.in-Return.is ∙ (λ i. S.Return (c.in-Some-result.is i))))

pub run::run_statement-returns-in-Declare-clause-leads : goal.run::run_statement-returns-in-Declare-clause-leads
run::run_statement-returns-in-Declare-clause-leads t c =
    declare_leads (bodies_of c.args.program.now.functions.now c.args.program.now.depth) c.args.statement.now (state c.args.env.now c.args.submits.now) c.args.turns.now c.in-Declare.code c.in-Declare.is _ _ _ (c.declare.ensures.leads _ c.args.submits.now _ c.own_value-value.ensures)

pub run::run_statement-returns-in-Change-clause-leads : goal.run::run_statement-returns-in-Change-clause-leads
run::run_statement-returns-in-Change-clause-leads t c =
    change_leads (bodies_of c.args.program.now.functions.now c.args.program.now.depth) c.args.statement.now (state c.args.env.now c.args.submits.now) c.args.turns.now c.in-Change.place c.in-Change.change c.in-Change.is _ _ _ (c.next_follows.ensures _ _ _ (c.run_change.ensures.leads c.args.submits.now))

pub run::run_statement-returns-in-Evaluate-clause-leads : goal.run::run_statement-returns-in-Evaluate-clause-leads
run::run_statement-returns-in-Evaluate-clause-leads t c =
    evaluate_leads (bodies_of c.args.program.now.functions.now c.args.program.now.depth) c.args.statement.now (state c.args.env.now c.args.submits.now) c.args.turns.now c.in-Evaluate.code c.in-Evaluate.is _ _ _ (c.next_follows_value.ensures _ (state c.args.env.now c.args.submits.now) _ c.eval_at.ensures)

pub run::run_statement-returns-in-Some-result-clause-leads : goal.run::run_statement-returns-in-Some-result-clause-leads
run::run_statement-returns-in-Some-result-clause-leads t c =
    return_leads (bodies_of c.args.program.now.functions.now c.args.program.now.depth) c.args.statement.now (state c.args.env.now c.args.submits.now) c.args.turns.now c.in-Some-result.code (c.in-Return.is ∙ (λ i. S.Return (c.in-Some-result.is i))) _ _ _ (c.return_value.ensures _ (state c.args.env.now c.args.submits.now) _ c.own_value.ensures)

pub run::run_statement-submit-requires : goal.run::run_statement-submit-requires
run::run_statement-submit-requires t c = λ v is.
    has_tuple c.args.program.now.functions.now c.args.statement.now c.args.env.now c.requires c.in-Submit.port c.in-Submit.code c.in-Submit.is c.evaluation_law.ensures.never_stuck c.args.program.now.depth c.args.turns.now _ v
    (subst (λ r. Answers (code_value (calls_of c.args.program.now.functions.now c.args.program.now.depth) c.in-Submit.code (world_of c.args.env.now) c.args.turns.now) r c.own_value-tuple.new.turns) is c.own_value-tuple.ensures)

pub run::run_statement-returns-in-Submit-clause-leads : goal.run::run_statement-returns-in-Submit-clause-leads
run::run_statement-returns-in-Submit-clause-leads t c =
    submit_leads (bodies_of c.args.program.now.functions.now c.args.program.now.depth) c.args.statement.now (state c.args.env.now c.args.submits.now) c.args.turns.now c.in-Submit.port c.in-Submit.code c.in-Submit.is _ _ _ (c.submit.ensures _ c.args.env.now _ c.own_value-tuple.ensures)

pub run::run_statement-returns-in-SubmitWindow-clause-leads : goal.run::run_statement-returns-in-SubmitWindow-clause-leads
run::run_statement-returns-in-SubmitWindow-clause-leads t c =
    submit_window_leads (bodies_of c.args.program.now.functions.now c.args.program.now.depth) c.args.statement.now (state c.args.env.now c.args.submits.now) c.args.turns.now c.in-SubmitWindow.port c.in-SubmitWindow.is _ _ _ (c.submit_window.ensures c.args.env.now c.args.turns.now)

-- ---- rows and loops

pub run::run_row-run_statement-answer-requires : goal.run::run_row-run_statement-answer-requires
run::run_row-run_statement-answer-requires t c =
    (omega arith, statement_is_fit c.args.program.now.functions.now c.args.row.now c.loop-statement.statement-index c.statement-item.result c.loop-statement-test.true c.statement-item.is c.loop-statement.env c.loop-statement.invariant.rest)

pub run::run_if-is_true-requires : goal.run::run_if-is_true-requires
run::run_if-is_true-requires t c =
    (omega arith, condition_of_arm c.args.program.now.functions.now c.args.arms.now c.args.other.now c.loop-arm.arm-index c.arm-item.result c.loop-arm-test.true c.arm-item.is c.loop-arm.env c.loop-arm.invariant.rest)

pub run::run_if-returns-in_err-is_true-clause-leads : goal.run::run_if-returns-in_err-is_true-clause-leads
run::run_if-returns-in_err-is_true-clause-leads t c =
    stops_leading _ _ _ _ _ c.from_residual.ensures.1
    (stops_by _ _ _ c.loop-arm.invariant.comes
    (arms_stop (bodies_of c.args.program.now.functions.now c.args.program.now.depth) c.args.arms.now c.args.other.now c.loop-arm.arm-index c.arm-item.result c.loop-arm-test.true c.arm-item.is (state c.loop-arm.env c.loop-arm.submits) c.loop-arm.turns
    _ c.in_err-is_true.ensures))

pub run::run_if-run_scoped-requires : goal.run::run_if-run_scoped-requires
run::run_if-run_scoped-requires t c = (
  omega arith,
  subst (λ row. RowIsFit c.args.program.now.functions.now row c.loop-arm.env) (sym c.as_slice.ensures)
      (row_of_arm c.args.program.now.functions.now c.args.arms.now c.args.other.now c.loop-arm.arm-index c.arm-item.result c.loop-arm-test.true c.arm-item.is c.loop-arm.env c.loop-arm.invariant.rest),
)

pub run::run_if-returns-then-branch-clause-leads : goal.run::run_if-returns-then-branch-clause-leads
run::run_if-returns-then-branch-clause-leads t c =
    leads_by _ _ _ _ _
    (c.loop-arm.invariant.comes
    ∙ arm_taken (bodies_of c.args.program.now.functions.now c.args.program.now.depth) c.args.arms.now c.args.other.now c.loop-arm.arm-index c.arm-item.result c.loop-arm-test.true c.arm-item.is (state c.loop-arm.env c.loop-arm.submits) c.loop-arm.turns
    _ _ c.in_ok-is_true.ensures c.if-branch.true
    ∙ ap (λ row. scoped (row_acts (bodies_of c.args.program.now.functions.now c.args.program.now.depth) row) (state c.loop-arm.env c.loop-arm.submits) c.is_true.new.turns) (sym c.as_slice.ensures))
    c.run_scoped.ensures.leads

pub run::run_if-loop-arm-preserved : goal.run::run_if-loop-arm-preserved
run::run_if-loop-arm-preserved t c = record {
  comes = c.loop-arm.invariant.comes
      ∙ arm_passed (bodies_of c.args.program.now.functions.now c.args.program.now.depth) c.args.arms.now c.args.other.now c.loop-arm.arm-index c.arm-item.result c.loop-arm-test.true c.arm-item.is (state c.loop-arm.env c.loop-arm.submits) c.loop-arm.turns
      _ _ c.in_ok-is_true.ensures c.if-branch.false;
  rest = other_arms c.args.program.now.functions.now c.args.arms.now c.args.other.now c.loop-arm.arm-index c.arm-item.result c.loop-arm-test.true c.arm-item.is c.loop-arm.env c.loop-arm.invariant.rest;
  kept = c.loop-arm.invariant.kept;
}

pub run::run_if-returns-then-branch-clause-kept : goal.run::run_if-returns-then-branch-clause-kept
run::run_if-returns-then-branch-clause-kept t c = keeps_then _ _ _ c.loop-arm.invariant.kept c.run_scoped.ensures.kept

pub run::run_while-returns-in_err-is_true-clause-leads : goal.run::run_while-returns-in_err-is_true-clause-leads
run::run_while-returns-in_err-is_true-clause-leads t c =
    stops_leading _ _ _ _ _ c.from_residual.ensures.1
    (stops_by _ _ _ c.rounds.invariant.comes
    (while_stops c.rounds.rounds (bodies_of c.args.program.now.functions.now c.args.program.now.depth) c.args.code.now (scoped (row_acts (bodies_of c.args.program.now.functions.now c.args.program.now.depth) c.args.row.now))
    (state c.rounds.env c.rounds.submits) c.rounds.turns
    _ c.in_err-is_true.ensures))

pub run::run_while-returns-in_err-enter-clause-leads : goal.run::run_while-returns-in_err-enter-clause-leads
run::run_while-returns-in_err-enter-clause-leads t c =
    stops_leading _ _ _ _ _ c.from_residual-in_err-enter.ensures.1
    (stops_by _ _ _ c.rounds.invariant.comes
    (while_no_turns c.rounds.rounds (bodies_of c.args.program.now.functions.now c.args.program.now.depth) c.args.code.now (scoped (row_acts (bodies_of c.args.program.now.functions.now c.args.program.now.depth) c.args.row.now))
    (state c.rounds.env c.rounds.submits) c.rounds.turns
    _ _ c.in_ok-is_true.ensures c.if-branch.true _ c.in_err-enter.ensures.0 c.in_err-enter.ensures.1))

pub run::run_over-values-init : goal.run::run_over-values-init
run::run_over-values-init t c =
    let all : c.into_iter-value-iterator.result.rest.items ≡ c.args.values = c.into_iter-value-iterator.ensures.into_iter_gives.0 ∙ c.into_vec-value-items.ensures in record {
      comes = ap (λ values. turns_over values (row_acts (bodies_of c.args.program.now.functions.now c.args.program.now.depth) c.args.row.now) (state c.args.env.now c.args.submits.now) c.args.turns.now) (sym all);
      rest = subst (λ values. OverIsFit c.args.program.now.functions.now values c.args.row.now c.args.env.now) (sym all) c.requires;
      kept = keeps_all c.args.env.now;
    }

pub run::run_over-run_turn-answer-requires : goal.run::run_over-run_turn-answer-requires
run::run_over-run_turn-answer-requires t c =
    (omega arith, turn_is_fit c.args.program.now.functions.now c.values.value-iterator.rest.items c.next.new.self.rest.items c.in-Some.value c.args.row.now c.values.env c.in-Some.ensures.steps.0 c.values.invariant.rest)

pub run::run_scoped-returns-clause-leads : goal.run::run_scoped-returns-clause-leads
run::run_scoped-returns-clause-leads t c =
    scoped_leads (row_acts (bodies_of c.args.program.now.functions.now c.args.program.now.depth) c.args.row.now) (state c.args.env.now c.args.submits.now) c.args.turns.now c.run_row-answer.result
    (state c.run_row-answer.new.env c.run_row-answer.new.submits) c.run_row-answer.new.turns c.truncate.new.self c.run_row-answer.ensures.leads
    (c.truncate.ensures ∙ ap (λ n. take n c.run_row-answer.new.env.vars) c.len-count.ensures)

pub run::run_scoped-returns-clause-kept : goal.run::run_scoped-returns-clause-kept
run::run_scoped-returns-clause-kept t c =
    keeps_ended c.args.env.now _ c.truncate.new.self c.run_row-answer.ensures.kept (c.truncate.ensures ∙ ap (λ n. take n c.run_row-answer.new.env.vars) c.len-count.ensures)

pub run::run_scoped-returns-clause-ended : goal.run::run_scoped-returns-clause-ended
run::run_scoped-returns-clause-ended t c =
    vars_ended c.args.env.now _ c.truncate.new.self c.run_row-answer.ensures.kept (c.truncate.ensures ∙ ap (λ n. take n c.run_row-answer.new.env.vars) c.len-count.ensures)

pub evaluate::own_value-returns : goal.evaluate::own_value-returns
evaluate::own_value-returns t c = c.own.ensures _ _ c.eval_at.ensures

pub evaluate::is_true-truth_held-requires : goal.evaluate::is_true-truth_held-requires
evaluate::is_true-truth_held-requires t c = λ h is.
    of_type c.evaluation_law.ensures.never_stuck c.args.context.now.functions.now c.args.context.now.env.now c.args.context.now.depth c.args.code.now T.Bool c.requires c.args.turns.now _ _
    (subst (λ r. AnswersHeld (code_value (calls_of c.args.context.now.functions.now c.args.context.now.depth) c.args.code.now (world_of c.args.context.now.env.now) c.args.turns.now) r c.eval_at.new.turns) is c.eval_at.ensures)

pub evaluate::is_true-returns : goal.evaluate::is_true-returns
evaluate::is_true-returns t c = c.truth_held.ensures _ _ c.eval_at.ensures

pub evaluate::eval_all-loop-code-preserved : goal.evaluate::eval_all-loop-code-preserved
evaluate::eval_all-loop-code-preserved t c =
    let added = c.in_ok-add.ensures _ _ c.own_value.ensures in
    c.loop-code.invariant
    ∙ values_on (calls_of c.args.context.now.functions.now c.args.context.now.depth) (world_of c.args.context.now.env.now) c.args.codes.now c.loop-code.code-index c.loop-code.values c.loop-code.turns
    c.code-item.result c.loop-code-test.true c.code-item.is _ _ _ added.1 added.2

pub evaluate::eval_all-returns-in_err-add : goal.evaluate::eval_all-returns-in_err-add
evaluate::eval_all-returns-in_err-add t c =
    stops _ _ _ _ c.from_residual.ensures.1
    (stops_by _ _ _ c.loop-code.invariant
    (values_stop (calls_of c.args.context.now.functions.now c.args.context.now.depth) (world_of c.args.context.now.env.now) c.args.codes.now c.loop-code.code-index c.loop-code.values c.loop-code.turns
    c.code-item.result c.loop-code-test.true c.code-item.is _ (c.in_err-add.ensures _ _ c.own_value.ensures)))

pub evaluate::call-run_function-requires : goal.evaluate::call-run_function-requires
evaluate::call-run_function-requires t c = (omega arith, called_is_fit c.args.context.now.functions.now c.args.place c.in_ok-values.values (call_of_arguments c.evaluation_law.ensures.never_stuck c.args.context.now.functions.now c.args.context.now.env.now c.args.context.now.depth (C.Call c.args.place c.args.codes.now) c.requires c.args.place c.args.codes.now refl c.args.turns.now _ _ c.in_ok-values.ensures))

pub evaluate::call-value_returned-requires : goal.evaluate::call-value_returned-requires
evaluate::call-value_returned-requires t c = λ none.
    result_there c.args.context.now.functions.now c.args.place c.in_ok-values.values (call_of_arguments c.evaluation_law.ensures.never_stuck c.args.context.now.functions.now c.args.context.now.env.now c.args.context.now.depth (C.Call c.args.place c.args.codes.now) c.requires c.args.place c.args.codes.now refl c.args.turns.now _ _ c.in_ok-values.ensures)
    c.evaluation_law.ensures.bodies c.args.context.now.depth c.eval_all.new.turns _ None
    (subst (λ r. Answers (enter c.eval_all.new.turns (λ turns. bodies_of c.args.context.now.functions.now c.args.context.now.depth c.args.place c.in_ok-values.values turns)) r c.run_function.new.turns) none c.run_function.ensures) refl

pub evaluate::call-returns : goal.evaluate::call-returns
evaluate::call-returns t c =
    call_answers (calls_of c.args.context.now.functions.now c.args.context.now.depth) (world_of c.args.context.now.env.now) (C.Call c.args.place c.args.codes.now) c.args.turns.now c.args.place c.args.codes.now refl _ _ c.in_ok-values.ensures _ _
    (answers_held_by _ _ _ _ (value_called c.args.context.now.functions.now c.args.place c.in_ok-values.values c.args.context.now.depth c.eval_all.new.turns) (c.value_returned.ensures _ _ c.run_function.ensures))

pub run::step_values-loop-taking-preserved : goal.run::step_values-loop-taking-preserved
run::step_values-loop-taking-preserved t c = let added = c.in_ok-add.ensures _ _ c.step_value.ensures in record {
  comes = c.loop-taking.invariant.comes
      ∙ steps_on (bodies_of c.args.context.now.functions.now c.args.context.now.depth) (state c.args.context.now.env.now []) c.args.takings.now c.loop-taking.taking-index c.loop-taking.steps c.loop-taking.turns c.taking-item.result c.loop-taking-test.true c.taking-item.is _ _ _ added.1 added.2;
  others = later_steps_are_fit c.args.context.now.functions.now c.args.context.now.env.now c.args.takings.now c.loop-taking.taking-index c.loop-taking.invariant.others c.taking-item.result c.loop-taking-test.true c.taking-item.is;
}

pub run::step_values-returns-in_err-add : goal.run::step_values-returns-in_err-add
run::step_values-returns-in_err-add t c =
    stops _ _ _ _ c.from_residual.ensures.1
    (stops_by _ _ _ c.loop-taking.invariant.comes
    (steps_stop (bodies_of c.args.context.now.functions.now c.args.context.now.depth) (state c.args.context.now.env.now []) c.args.takings.now c.loop-taking.taking-index c.loop-taking.steps c.loop-taking.turns c.taking-item.result c.loop-taking-test.true c.taking-item.is _ (c.in_err-add.ensures _ _ c.step_value.ensures)))

pub run::step_value-returns-in-Element : goal.run::step_value-returns-in-Element
run::step_value-returns-in-Element t c =
    answers_by _ _ _ _ (ap (λ t. step_value (bodies_of c.args.context.now.functions.now c.args.context.now.depth) t (state c.args.context.now.env.now []) c.args.turns.now) c.in-Element.is) (c.element_step.ensures _ _ c.own_value.ensures)

pub run::step_value-returns-in-AtKey : goal.run::step_value-returns-in-AtKey
run::step_value-returns-in-AtKey t c =
    answers_by _ _ _ _ (ap (λ t. step_value (bodies_of c.args.context.now.functions.now c.args.context.now.depth) t (state c.args.context.now.env.now []) c.args.turns.now) c.in-AtKey.is) (c.key_step.ensures _ _ c.own_value-in-AtKey.ensures)

pub run::steps_taken-step_value-step-requires : goal.run::steps_taken-step_value-step-requires
run::steps_taken-step_value-step-requires t c = (omega arith, first_step_is_fit c.args.context.now.functions.now c.args.context.now.env.now c.as_slice-taking-items.result.now c.loop-taking.taking-index (held c.loop-taking.value) c.loop-taking.invariant.others c.taking-item.result c.loop-taking-test.true c.taking-item.is)

pub run::steps_taken-take_next-requires : goal.run::steps_taken-take_next-requires
run::steps_taken-take_next-requires t c = λ step is.
    step_fits c.args.context.now.functions.now c.args.context.now.env.now c.as_slice-taking-items.result.now c.loop-taking.taking-index (held c.loop-taking.value) c.loop-taking.invariant.others c.taking-item.result c.loop-taking-test.true c.taking-item.is c.evaluation_law.ensures.never_stuck c.args.context.now.depth c.loop-taking.turns _ step
    (subst (λ r. Answers (step_value (bodies_of c.args.context.now.functions.now c.args.context.now.depth) c.taking-item.result (state c.args.context.now.env.now []) c.loop-taking.turns) r c.step_value-step.new.turns) is c.step_value-step.ensures)

pub run::steps_taken-returns-in_err-value : goal.run::steps_taken-returns-in_err-value
run::steps_taken-returns-in_err-value t c = λ v at.
    stops _ _ _ _ c.from_residual.ensures.1
    (stops_by _ _ _ (c.loop-taking.invariant.comes v at) (taken_stop (bodies_of c.args.context.now.functions.now c.args.context.now.depth) (state c.args.context.now.env.now []) c.as_slice-taking-items.result.now c.loop-taking.taking-index (held c.loop-taking.value) c.loop-taking.steps c.loop-taking.turns c.taking-item.result c.loop-taking-test.true c.taking-item.is _ (c.in_err-value.ensures _ _ c.step_value-step.ensures)))

pub run::steps_taken-loop-taking-preserved : goal.run::steps_taken-loop-taking-preserved
run::steps_taken-loop-taking-preserved t c = let taken = c.in_ok-value.ensures _ _ c.step_value-step.ensures in record {
  comes = λ v at. c.loop-taking.invariant.comes v at ∙ taken_on (bodies_of c.args.context.now.functions.now c.args.context.now.depth) (state c.args.context.now.env.now []) c.as_slice-taking-items.result.now c.loop-taking.taking-index (held c.loop-taking.value) c.loop-taking.steps c.loop-taking.turns c.taking-item.result c.loop-taking-test.true c.taking-item.is _ _ taken.1 _ _ taken.2 taken.3;
  others = others_fit c.args.context.now.functions.now c.args.context.now.env.now c.as_slice-taking-items.result.now c.loop-taking.taking-index (held c.loop-taking.value) c.loop-taking.invariant.others c.taking-item.result c.loop-taking-test.true c.taking-item.is c.evaluation_law.ensures.never_stuck c.args.context.now.depth c.loop-taking.turns _ _ taken.1 _ taken.2;
}

pub run::change_values-returns-in_err-value-in-Put : goal.run::change_values-returns-in_err-value-in-Put
run::change_values-returns-in_err-value-in-Put t c = stops _ _ _ _ c.from_residual.ensures.1 (put_stops (bodies_of c.args.context.now.functions.now c.args.context.now.depth) (state c.args.context.now.env.now []) c.args.place.now c.args.turns.now c.args.change.now c.in-Put.code c.in-Put.is _ c.in_err-value-in-Put.ensures)

pub run::change_values-returns-in_ok-value-in-Put : goal.run::change_values-returns-in_ok-value-in-Put
run::change_values-returns-in_ok-value-in-Put t c = put_answers (bodies_of c.args.context.now.functions.now c.args.context.now.depth) (state c.args.context.now.env.now []) c.args.place.now c.args.turns.now c.args.change.now c.in-Put.code c.in-Put.is _ _ c.in_ok-value-in-Put.ensures _ _ (c.with_put.ensures _ _ (subst (λ ts. Answers (step_values (bodies_of c.args.context.now.functions.now c.args.context.now.depth) ts (state c.args.context.now.env.now []) c.own_value.new.turns) c.step_values.result c.step_values.new.turns) c.as_slice-takings.ensures c.step_values.ensures))

pub run::change_values-returns-in_err-steps-in-Append : goal.run::change_values-returns-in_err-steps-in-Append
run::change_values-returns-in_err-steps-in-Append t c =
    let there = (variable_holds c.args.context.now.functions.now c.args.place.now c.args.context.now.env.now (c.requires.0, c.requires.1, c.requires.2, c.requires.4)) in
    stops _ _ _ _ c.from_residual-in_err-steps-in-Append.ensures.1 (append_stops (bodies_of c.args.context.now.functions.now c.args.context.now.depth) (state c.args.context.now.env.now []) c.args.place.now c.args.turns.now c.args.change.now c.in-Append.code there.0 there.1 c.in-Append.is _ (c.in_err-steps-in-Append.ensures there.0 there.1))

pub run::change_values-returns-in_ok-steps-in-Append : goal.run::change_values-returns-in_ok-steps-in-Append
run::change_values-returns-in_ok-steps-in-Append t c =
    let there = (variable_holds c.args.context.now.functions.now c.args.place.now c.args.context.now.env.now (c.requires.0, c.requires.1, c.requires.2, c.requires.4)) in
    append_answers (bodies_of c.args.context.now.functions.now c.args.context.now.depth) (state c.args.context.now.env.now []) c.args.place.now c.args.turns.now c.args.change.now c.in-Append.code there.0 there.1 _ _ (c.in_ok-steps-in-Append.ensures there.0 there.1) _ _ c.in-Append.is (c.with_append.ensures _ _ c.own_value-in-Append.ensures)

pub run::change_values-returns-in_err-steps-in-Remove : goal.run::change_values-returns-in_err-steps-in-Remove
run::change_values-returns-in_err-steps-in-Remove t c =
    let there = (variable_holds c.args.context.now.functions.now c.args.place.now c.args.context.now.env.now (c.requires.0, c.requires.1, c.requires.2, c.requires.4)) in
    stops _ _ _ _ c.from_residual-in_err-steps-in-Remove.ensures.1 (remove_stops (bodies_of c.args.context.now.functions.now c.args.context.now.depth) (state c.args.context.now.env.now []) c.args.place.now c.args.turns.now c.args.change.now c.in-Remove.code there.0 there.1 c.in-Remove.is _ (c.in_err-steps-in-Remove.ensures there.0 there.1))

pub run::change_values-returns-in_ok-steps-in-Remove : goal.run::change_values-returns-in_ok-steps-in-Remove
run::change_values-returns-in_ok-steps-in-Remove t c =
    let there = (variable_holds c.args.context.now.functions.now c.args.place.now c.args.context.now.env.now (c.requires.0, c.requires.1, c.requires.2, c.requires.4)) in
    remove_answers (bodies_of c.args.context.now.functions.now c.args.context.now.depth) (state c.args.context.now.env.now []) c.args.place.now c.args.turns.now c.args.change.now c.in-Remove.code there.0 there.1 _ _ (c.in_ok-steps-in-Remove.ensures there.0 there.1) _ _ c.in-Remove.is (c.with_remove.ensures _ _ c.own_value-in-Remove.ensures)

pub run::change_values-returns-in-Clear : goal.run::change_values-returns-in-Clear
run::change_values-returns-in-Clear t c =
    let there = (variable_holds c.args.context.now.functions.now c.args.place.now c.args.context.now.env.now (c.requires.0, c.requires.1, c.requires.2, c.requires.4)) in
    clear_answers (bodies_of c.args.context.now.functions.now c.args.context.now.depth) (state c.args.context.now.env.now []) c.args.place.now c.args.turns.now c.args.change.now c.in-Clear.is there.0 there.1 _ _ (c.with_clear.ensures _ _ (c.steps_taken-in-Clear.ensures there.0 there.1))

pub run::run_change-change_with-requires : goal.run::run_change-change_with-requires
run::run_change-change_with-requires t c = λ w is.
    can_change c.evaluation_law.ensures.never_stuck c.args.program.now.functions.now c.args.program.now.depth c.args.place.now c.args.env.now c.args.change.now c.requires c.args.turns.now _ w
    (subst (λ r. Answers (change_values (bodies_of c.args.program.now.functions.now c.args.program.now.depth) c.args.place.now c.args.change.now (state c.args.env.now []) c.args.turns.now) r c.change_values-values.new.turns) is c.change_values-values.ensures)

pub run::run_change-returns-clause-leads : goal.run::run_change-returns-clause-leads
run::run_change-returns-clause-leads t c = λ submits.
    leads_next_by _ _ _ _ _ (place_changes (bodies_of c.args.program.now.functions.now c.args.program.now.depth) c.args.env.now submits c.args.place.now c.args.change.now c.args.turns.now)
    (c.change_with.ensures.leads _ submits _ c.change_values-values.ensures)

pub run::run_change-returns-clause-kept : goal.run::run_change-returns-clause-kept
run::run_change-returns-clause-kept t c = c.change_with.ensures.kept

pub run::run_function-returns-in_err-env : goal.run::run_function-returns-in_err-env
run::run_function-returns-in_err-env t c = stops _ _ _ _ c.from_residual.ensures.1 (no_call c.args.context.now.functions.now c.args.place c.args.values c.args.context.now.depth c.args.turns.now _ c.in_err-env.ensures.0 c.in_err-env.ensures.1)

pub run::run_function-run_scoped-requires : goal.run::run_function-run_scoped-requires
run::run_function-run_scoped-requires t c = (omega arith, call_body_is_fit c.args.context.now.functions.now c.args.place c.args.values c.requires c.in-Some.function.now (sym c.in-Some.ensures.value) c.as_slice-row.result.now c.as_slice-row.ensures c.new-submits.result c.new-submits.ensures c.in_ok-env.env c.in_ok-env.ensures.2)

pub run::run_function-returned-requires : goal.run::run_function-returned-requires
run::run_function-returned-requires t c = answer_returns c.args.context.now.functions.now c.args.place c.args.values c.requires c.in-Some.function.now (sym c.in-Some.ensures.value) c.as_slice-row.result.now c.as_slice-row.ensures c.new-submits.result c.new-submits.ensures c.in_ok-env.env c.in_ok-env.ensures.2 c.enter_call.new.turns _ _ _ c.evaluation_law.ensures.bodies _ c.run_scoped.ensures.leads

pub run::run_function-returns : goal.run::run_function-returns
run::run_function-returns t c =
    answers_by _ _ _ _ (ap (λ turns. enter turns (λ turns. bodies_of c.args.context.now.functions.now c.args.context.now.depth c.args.place c.args.values turns)) c.in_ok-env.ensures.0)
    (call_returns c.args.context.now.functions.now c.args.place c.args.values c.requires c.in-Some.function.now (sym c.in-Some.ensures.value) c.as_slice-row.result.now c.as_slice-row.ensures c.new-submits.result c.new-submits.ensures c.in_ok-env.env c.in_ok-env.ensures.2 c.enter_call.new.turns _ _ _ c.args.context.now.depth c.in_ok-env.ensures.1 c.run_scoped.ensures.leads _ c.returned.ensures)

pub run::run_turn-run_row-answer-requires : goal.run::run_turn-run_row-answer-requires
run::run_turn-run_row-answer-requires t c = (omega arith, subst (RowIsFit c.args.program.now.functions.now c.args.row.now) (sym c.in_ok-begin_turn.ensures.1) (row_of_turn c.args.program.now.functions.now c.args.value c.args.row.now c.args.env.now _ c.requires refl))

pub run::run_turn-returns-in_err-begin_turn-clause-leads : goal.run::run_turn-returns-in_err-begin_turn-clause-leads
run::run_turn-returns-in_err-begin_turn-clause-leads t c = stops_leading _ _ _ _ _ c.from_residual.ensures.1 (no_turn_begins c.args.turns.now _ _ c.in_err-begin_turn.ensures.1)

pub run::run_turn-returns-in_err-begin_turn-clause-kept : goal.run::run_turn-returns-in_err-begin_turn-clause-kept
run::run_turn-returns-in_err-begin_turn-clause-kept t c = subst (Keeps c.args.env.now) (sym c.in_err-begin_turn.ensures.0) (keeps_all c.args.env.now)

pub run::run_turn-returns-in_err-begin_turn-clause-ended : goal.run::run_turn-returns-in_err-begin_turn-clause-ended
run::run_turn-returns-in_err-begin_turn-clause-ended t c = ap (λ (env : Env). length env.vars) c.in_err-begin_turn.ensures.0

pub run::run_turn-returns-clause-leads : goal.run::run_turn-returns-clause-leads
run::run_turn-returns-clause-leads t c =
    let bodies = (bodies_of c.args.program.now.functions.now c.args.program.now.depth) in
    let s = state c.args.env.now c.args.submits.now in
    let acts : Acts = λ s turns. row_acts bodies c.args.row.now (declared s c.args.value) turns in
    leads_by _ _ _ _ _ (ap (λ turns. enter turns (λ turns. scoped acts s turns)) c.in_ok-begin_turn.ensures.0)
    (scoped_leads acts s c.begin_turn.new.turns c.run_row-answer.result (state c.run_row-answer.new.env c.run_row-answer.new.submits) c.run_row-answer.new.turns c.truncate.new.self
    (subst (λ env. Leads (row_acts bodies c.args.row.now (state env c.args.submits.now) c.begin_turn.new.turns) c.run_row-answer.result (state c.run_row-answer.new.env c.run_row-answer.new.submits) c.run_row-answer.new.turns) c.in_ok-begin_turn.ensures.1 c.run_row-answer.ensures.leads)
    (c.truncate.ensures ∙ ap (λ n. take n c.run_row-answer.new.env.vars) c.len-count.ensures))

pub run::run_turn-returns-clause-kept : goal.run::run_turn-returns-clause-kept
run::run_turn-returns-clause-kept t c = keeps_ended c.args.env.now _ c.truncate.new.self (keeps_then c.args.env.now _ _ (subst (Keeps c.args.env.now) (sym c.in_ok-begin_turn.ensures.1) (keeps_declared c.args.env.now c.args.value _ refl)) c.run_row-answer.ensures.kept) (c.truncate.ensures ∙ ap (λ n. take n c.run_row-answer.new.env.vars) c.len-count.ensures)

pub run::run_turn-returns-clause-ended : goal.run::run_turn-returns-clause-ended
run::run_turn-returns-clause-ended t c = vars_ended c.args.env.now _ c.truncate.new.self (keeps_then c.args.env.now _ _ (subst (Keeps c.args.env.now) (sym c.in_ok-begin_turn.ensures.1) (keeps_declared c.args.env.now c.args.value _ refl)) c.run_row-answer.ensures.kept) (c.truncate.ensures ∙ ap (λ n. take n c.run_row-answer.new.env.vars) c.len-count.ensures)

pub run::run_statement-returns-in_default-clause-leads : goal.run::run_statement-returns-in_default-clause-leads
run::run_statement-returns-in_default-clause-leads t c = tt

pub run::run_statement-returns-in_default-clause-kept : goal.run::run_statement-returns-in_default-clause-kept
run::run_statement-returns-in_default-clause-kept t c = keeps_all c.args.env.now

pub run::run_statement-returns-in-Evaluate-clause-kept : goal.run::run_statement-returns-in-Evaluate-clause-kept
run::run_statement-returns-in-Evaluate-clause-kept t c = keeps_all c.args.env.now

pub run::run_statement-returns-in-Call-clause-kept : goal.run::run_statement-returns-in-Call-clause-kept
run::run_statement-returns-in-Call-clause-kept t c = keeps_all c.args.env.now

pub run::run_statement-returns-in-Break-clause-kept : goal.run::run_statement-returns-in-Break-clause-kept
run::run_statement-returns-in-Break-clause-kept t c = keeps_all c.args.env.now

pub run::run_statement-returns-in-Continue-clause-kept : goal.run::run_statement-returns-in-Continue-clause-kept
run::run_statement-returns-in-Continue-clause-kept t c = keeps_all c.args.env.now

pub run::run_statement-returns-in-None-clause-kept : goal.run::run_statement-returns-in-None-clause-kept
run::run_statement-returns-in-None-clause-kept t c = keeps_all c.args.env.now

pub run::run_statement-returns-in-Some-result-clause-kept : goal.run::run_statement-returns-in-Some-result-clause-kept
run::run_statement-returns-in-Some-result-clause-kept t c = keeps_all c.args.env.now

pub run::run_statement-returns-in-Submit-clause-kept : goal.run::run_statement-returns-in-Submit-clause-kept
run::run_statement-returns-in-Submit-clause-kept t c = keeps_all c.args.env.now

pub run::run_statement-returns-in-SubmitWindow-clause-kept : goal.run::run_statement-returns-in-SubmitWindow-clause-kept
run::run_statement-returns-in-SubmitWindow-clause-kept t c = keeps_all c.args.env.now

pub run::run_statement-returns-in-Block-clause-kept : goal.run::run_statement-returns-in-Block-clause-kept
run::run_statement-returns-in-Block-clause-kept t c = c.run_scoped.ensures.kept

pub run::run_statement-returns-in-Declare-clause-kept : goal.run::run_statement-returns-in-Declare-clause-kept
run::run_statement-returns-in-Declare-clause-kept t c = c.declare.ensures.kept

pub run::run_statement-returns-in-Change-clause-kept : goal.run::run_statement-returns-in-Change-clause-kept
run::run_statement-returns-in-Change-clause-kept t c = c.run_change.ensures.kept

pub run::run_statement-returns-in-If-clause-kept : goal.run::run_statement-returns-in-If-clause-kept
run::run_statement-returns-in-If-clause-kept t c = c.run_if.ensures.kept

pub run::run_statement-returns-in-While-clause-kept : goal.run::run_statement-returns-in-While-clause-kept
run::run_statement-returns-in-While-clause-kept t c = c.run_while.ensures.kept

pub run::run_statement-returns-in-For-clause-kept : goal.run::run_statement-returns-in-For-clause-kept
run::run_statement-returns-in-For-clause-kept t c = c.run_for.ensures.kept

pub run::run_statement-returns-in-Break-clause-leads : goal.run::run_statement-returns-in-Break-clause-leads
run::run_statement-returns-in-Break-clause-leads t c = ap (λ x. statement_acts (bodies_of c.args.program.now.functions.now c.args.program.now.depth) x (state c.args.env.now c.args.submits.now) c.args.turns.now) c.in-Break.is ∙ break_is (bodies_of c.args.program.now.functions.now c.args.program.now.depth) (state c.args.env.now c.args.submits.now) c.args.turns.now

pub run::run_statement-returns-in-Continue-clause-leads : goal.run::run_statement-returns-in-Continue-clause-leads
run::run_statement-returns-in-Continue-clause-leads t c = ap (λ x. statement_acts (bodies_of c.args.program.now.functions.now c.args.program.now.depth) x (state c.args.env.now c.args.submits.now) c.args.turns.now) c.in-Continue.is ∙ continue_is (bodies_of c.args.program.now.functions.now c.args.program.now.depth) (state c.args.env.now c.args.submits.now) c.args.turns.now

pub run::run_statement-returns-in-None-clause-leads : goal.run::run_statement-returns-in-None-clause-leads
run::run_statement-returns-in-None-clause-leads t c = ap (λ x. statement_acts (bodies_of c.args.program.now.functions.now c.args.program.now.depth) x (state c.args.env.now c.args.submits.now) c.args.turns.now) (c.in-Return.is ∙ (λ i. S.Return (c.in-None.is i))) ∙ return_is (bodies_of c.args.program.now.functions.now c.args.program.now.depth) None (state c.args.env.now c.args.submits.now) c.args.turns.now

pub run::run_statement-returns-in-Block-clause-leads : goal.run::run_statement-returns-in-Block-clause-leads
run::run_statement-returns-in-Block-clause-leads t c = leads_by _ _ _ _ _ (ap (λ x. statement_acts (bodies_of c.args.program.now.functions.now c.args.program.now.depth) x (state c.args.env.now c.args.submits.now) c.args.turns.now) (c.in-Block.is ∙ (λ i. S.Block (sym c.as_slice.ensures i))) ∙ block_is (bodies_of c.args.program.now.functions.now c.args.program.now.depth) c.as_slice.result.now (state c.args.env.now c.args.submits.now) c.args.turns.now) c.run_scoped.ensures.leads

pub run::run_if-returns-in_err-is_true-clause-kept : goal.run::run_if-returns-in_err-is_true-clause-kept
run::run_if-returns-in_err-is_true-clause-kept t c = c.loop-arm.invariant.kept

pub run::run_while-returns-in_err-is_true-clause-kept : goal.run::run_while-returns-in_err-is_true-clause-kept
run::run_while-returns-in_err-is_true-clause-kept t c = c.rounds.invariant.kept

pub run::run_while-returns-in_err-enter-clause-kept : goal.run::run_while-returns-in_err-enter-clause-kept
run::run_while-returns-in_err-enter-clause-kept t c = c.rounds.invariant.kept

pub run::run_while-returns-clause-kept : goal.run::run_while-returns-clause-kept
run::run_while-returns-clause-kept t c = c.rounds.invariant.kept

pub run::run_row-returns-clause-kept : goal.run::run_row-returns-clause-kept
run::run_row-returns-clause-kept t c = c.loop-statement.invariant.kept

pub run::run_over-returns-clause-kept : goal.run::run_over-returns-clause-kept
run::run_over-returns-clause-kept t c = c.values.invariant.kept

pub evaluate::select-loop-taking-init : goal.evaluate::select-loop-taking-init
evaluate::select-loop-taking-init t c = record {
  comes = select_comes (calls_of c.args.context.now.functions.now c.args.context.now.depth) (world_of c.args.context.now.env.now) (C.Select c.args.base.now c.args.takings.now) c.args.turns.now c.args.base.now c.args.takings.now refl _ _ c.in_ok-first.ensures;
  others = takings_of_base c.evaluation_law.ensures.never_stuck c.args.context.now.functions.now c.args.context.now.env.now c.args.context.now.depth (C.Select c.args.base.now c.args.takings.now) c.requires c.args.base.now c.args.takings.now refl c.args.turns.now _ _ c.in_ok-first.ensures;
}

pub evaluate::select-taken-requires : goal.evaluate::select-taken-requires
evaluate::select-taken-requires t c = (
  omega arith,
  first_is_fit c.args.context.now.functions.now c.args.context.now.env.now c.args.takings.now c.loop-taking.taking-index (held c.loop-taking.value) c.loop-taking.invariant.others
      c.taking-item.result c.loop-taking-test.true c.taking-item.is,
)

pub evaluate::select-loop-taking-preserved : goal.evaluate::select-loop-taking-preserved
evaluate::select-loop-taking-preserved t c = record {
  comes = c.loop-taking.invariant.comes
      ∙ takings_on (calls_of c.args.context.now.functions.now c.args.context.now.depth) (world_of c.args.context.now.env.now) c.args.takings.now c.loop-taking.taking-index (held c.loop-taking.value) c.loop-taking.turns
      c.taking-item.result c.loop-taking-test.true c.taking-item.is _ _ c.in_ok-value.ensures;
  others = others_are_fit c.args.context.now.functions.now c.args.context.now.env.now c.args.takings.now c.loop-taking.taking-index (held c.loop-taking.value) c.loop-taking.invariant.others
      c.taking-item.result c.loop-taking-test.true c.taking-item.is c.evaluation_law.ensures.never_stuck c.args.context.now.depth c.loop-taking.turns _ _ c.in_ok-value.ensures;
}

pub evaluate::select-returns : goal.evaluate::select-returns
evaluate::select-returns t c =
    c.loop-taking.invariant.comes
    ∙ takings_past (calls_of c.args.context.now.functions.now c.args.context.now.depth) (world_of c.args.context.now.env.now) c.args.takings.now c.loop-taking.taking-index (held c.loop-taking.value) c.loop-taking.turns c.loop-taking-test.false

pub evaluate::select-returns-in_err-value : goal.evaluate::select-returns-in_err-value
evaluate::select-returns-in_err-value t c =
    stops_held _ _ _ _ c.from_residual-in_err-value.ensures.1
    (stops_by _ _ _ c.loop-taking.invariant.comes
    (takings_stop (calls_of c.args.context.now.functions.now c.args.context.now.depth) (world_of c.args.context.now.env.now) c.args.takings.now c.loop-taking.taking-index (held c.loop-taking.value) c.loop-taking.turns
    c.taking-item.result c.loop-taking-test.true c.taking-item.is _ c.in_err-value.ensures))

pub evaluate::map-loop-pair-init : goal.evaluate::map-loop-pair-init
evaluate::map-loop-pair-init t c = record {
  comes = pairs_start (calls_of c.args.context.now.functions.now c.args.context.now.depth) (world_of c.args.context.now.env.now) c.args.pairs.now c.new-made.result c.args.turns.now c.new-made.ensures;
  sorted = ap are_pairs c.new-made.ensures;
}

pub evaluate::map-own_value-requires : goal.evaluate::map-own_value-requires
evaluate::map-own_value-requires t c = (
  omega arith,
  (map_is_fit c.args.context.now.functions.now c.args.context.now.env.now (C.Map c.args.pairs.now) c.requires c.args.pairs.now refl c.loop-pair.pair-index c.pair-item.result
      (slice_get_read c.args.pairs.now (length c.args.pairs.now) c.loop-pair.pair-index c.pair-item.result refl c.loop-pair-test.true c.pair-item.is)).0,
)

pub evaluate::map-own_value-requires-in-loop-pair : goal.evaluate::map-own_value-requires-in-loop-pair
evaluate::map-own_value-requires-in-loop-pair t c = (
  omega arith,
  (map_is_fit c.args.context.now.functions.now c.args.context.now.env.now (C.Map c.args.pairs.now) c.requires c.args.pairs.now refl c.loop-pair.pair-index c.pair-item.result
      (slice_get_read c.args.pairs.now (length c.args.pairs.now) c.loop-pair.pair-index c.pair-item.result refl c.loop-pair-test.true c.pair-item.is)).1,
)

pub evaluate::map-put_at_key-requires : goal.evaluate::map-put_at_key-requires
evaluate::map-put_at_key-requires t c = c.loop-pair.invariant.sorted

pub evaluate::map-loop-pair-preserved : goal.evaluate::map-loop-pair-preserved
evaluate::map-loop-pair-preserved t c = let put = c.in_ok-put_at_key.ensures _ _ c.own_value-in-loop-pair.ensures in record {
  comes = c.loop-pair.invariant.comes
      ∙ pairs_on (calls_of c.args.context.now.functions.now c.args.context.now.depth) (world_of c.args.context.now.env.now) c.args.pairs.now c.loop-pair.pair-index c.loop-pair.made c.loop-pair.turns
      c.pair-item.result c.loop-pair-test.true c.pair-item.is _ _ _ _ _ c.in_ok-key.ensures put.1 put.2;
  sorted = put.3;
}

pub evaluate::map-returns : goal.evaluate::map-returns
evaluate::map-returns t c =
    map_answers (calls_of c.args.context.now.functions.now c.args.context.now.depth) (world_of c.args.context.now.env.now) (C.Map c.args.pairs.now) c.args.turns.now c.args.pairs.now refl (Ok (O.Own (V.Map c.loop-pair.made))) c.loop-pair.turns
    (ap (λ o. followed o (λ m turns. Done (V.Map m) turns))
    (c.loop-pair.invariant.comes
    ∙ pairs_past (calls_of c.args.context.now.functions.now c.args.context.now.depth) (world_of c.args.context.now.env.now) c.args.pairs.now c.loop-pair.pair-index c.loop-pair.made c.loop-pair.turns c.loop-pair-test.false))

pub evaluate::map-returns-in_err-key : goal.evaluate::map-returns-in_err-key
evaluate::map-returns-in_err-key t c =
    map_answers (calls_of c.args.context.now.functions.now c.args.context.now.depth) (world_of c.args.context.now.env.now) (C.Map c.args.pairs.now) c.args.turns.now c.args.pairs.now refl _ _
    (stops_held _ _ _ _ c.from_residual.ensures.1 (followed_stops _ (λ m turns. Done (V.Map m) turns) _
    (stops_by _ _ _ c.loop-pair.invariant.comes
    (pairs_stop_at_key (calls_of c.args.context.now.functions.now c.args.context.now.depth) (world_of c.args.context.now.env.now) c.args.pairs.now c.loop-pair.pair-index c.loop-pair.made c.loop-pair.turns
    c.pair-item.result c.loop-pair-test.true c.pair-item.is _ c.in_err-key.ensures))))

pub evaluate::map-returns-in_err-put_at_key : goal.evaluate::map-returns-in_err-put_at_key
evaluate::map-returns-in_err-put_at_key t c =
    map_answers (calls_of c.args.context.now.functions.now c.args.context.now.depth) (world_of c.args.context.now.env.now) (C.Map c.args.pairs.now) c.args.turns.now c.args.pairs.now refl _ _
    (stops_held _ _ _ _ c.from_residual-in_err-put_at_key.ensures.1 (followed_stops _ (λ m turns. Done (V.Map m) turns) _
    (stops_by _ _ _ c.loop-pair.invariant.comes
    (pairs_stop_at_value (calls_of c.args.context.now.functions.now c.args.context.now.depth) (world_of c.args.context.now.env.now) c.args.pairs.now c.loop-pair.pair-index c.loop-pair.made c.loop-pair.turns
    c.pair-item.result c.loop-pair-test.true c.pair-item.is _ _ _ c.in_ok-key.ensures (c.in_err-put_at_key.ensures _ _ c.own_value-in-loop-pair.ensures)))))

pub evaluate::built_in-eval_at-first-requires : goal.evaluate::built_in-eval_at-first-requires
evaluate::built_in-eval_at-first-requires t c = (
  omega arith,
  let within : 0 < length c.args.codes.now = omega arith in
      built_in_is_fit c.args.context.now.functions.now c.args.context.now.env.now (C.BuiltIn c.args.call c.args.codes.now) c.requires c.args.call c.args.codes.now refl 0 c.first-item.result
      (slice_get_read c.args.codes.now (length c.args.codes.now) 0 c.first-item.result refl within c.first-item.is),
)

pub evaluate::built_in-call_with_one-requires : goal.evaluate::built_in-call_with_one-requires
evaluate::built_in-call_with_one-requires t c = λ h is.
    built_in_of_arguments c.evaluation_law.ensures.never_stuck c.args.context.now.functions.now c.args.context.now.env.now c.args.context.now.depth (C.BuiltIn c.args.call c.args.codes.now) c.requires c.args.call c.args.codes.now refl c.args.turns.now _ _
    (one_value (calls_of c.args.context.now.functions.now c.args.context.now.depth) (world_of c.args.context.now.env.now) c.args.codes.now c.args.turns.now c.first-item.result (is_one c.args.codes.now c.first-item.result c.in-len1.len_at_least c.in-len1.len_below c.first-item.is) _ _ (subst (λ r. AnswersHeld (code_value (calls_of c.args.context.now.functions.now c.args.context.now.depth) c.first-item.result (world_of c.args.context.now.env.now) c.args.turns.now) r c.eval_at-first.new.turns) is c.eval_at-first.ensures))

pub evaluate::built_in-returns-in-len1 : goal.evaluate::built_in-returns-in-len1
evaluate::built_in-returns-in-len1 t c =
    built_in_answers (calls_of c.args.context.now.functions.now c.args.context.now.depth) (world_of c.args.context.now.env.now) (C.BuiltIn c.args.call c.args.codes.now) c.args.turns.now c.args.call c.args.codes.now refl _ _
    (c.owned.ensures.answered _ _
    (answers_by _ _ _ _
    (with_one (calls_of c.args.context.now.functions.now c.args.context.now.depth) (world_of c.args.context.now.env.now) c.args.call c.args.codes.now c.args.turns.now c.first-item.result (is_one c.args.codes.now c.first-item.result c.in-len1.len_at_least c.in-len1.len_below c.first-item.is))
    (c.call_with_one.ensures _ _ c.eval_at-first.ensures)))

pub evaluate::built_in-eval_at-requires : goal.evaluate::built_in-eval_at-requires
evaluate::built_in-eval_at-requires t c = (
  omega arith,
  let within : 0 < length c.args.codes.now = omega arith in
      built_in_is_fit c.args.context.now.functions.now c.args.context.now.env.now (C.BuiltIn c.args.call c.args.codes.now) c.requires c.args.call c.args.codes.now refl 0 c.first-item-then-codes-lt3.result
      (slice_get_read c.args.codes.now (length c.args.codes.now) 0 c.first-item-then-codes-lt3.result refl within c.first-item-then-codes-lt3.is),
)

pub evaluate::built_in-eval_at-second-requires : goal.evaluate::built_in-eval_at-second-requires
evaluate::built_in-eval_at-second-requires t c = (
  omega arith,
  let within : 1 < length c.args.codes.now = omega arith in
      built_in_is_fit c.args.context.now.functions.now c.args.context.now.env.now (C.BuiltIn c.args.call c.args.codes.now) c.requires c.args.call c.args.codes.now refl 1 c.second-item.result
      (slice_get_read c.args.codes.now (length c.args.codes.now) 1 c.second-item.result refl within c.second-item.is),
)

pub evaluate::built_in-returns-in_err-first-in-len2 : goal.evaluate::built_in-returns-in_err-first-in-len2
evaluate::built_in-returns-in_err-first-in-len2 t c =
    built_in_answers (calls_of c.args.context.now.functions.now c.args.context.now.depth) (world_of c.args.context.now.env.now) (C.BuiltIn c.args.call c.args.codes.now) c.args.turns.now c.args.call c.args.codes.now refl _ _
    (stops_held _ _ _ _ c.from_residual.ensures.1 (called_stops (calls_of c.args.context.now.functions.now c.args.context.now.depth) (world_of c.args.context.now.env.now) c.args.call c.args.codes.now c.args.turns.now _
    (first_of_two_stops (calls_of c.args.context.now.functions.now c.args.context.now.depth) (world_of c.args.context.now.env.now) c.args.codes.now c.args.turns.now c.first-item-then-codes-lt3.result c.second-item.result (are_two c.args.codes.now c.first-item-then-codes-lt3.result c.second-item.result c.in-len2.len_at_least c.in-len2.len_below c.first-item-then-codes-lt3.is c.second-item.is) _ c.in_err-first-in-len2.ensures)))

pub evaluate::built_in-call_with_two-requires : goal.evaluate::built_in-call_with_two-requires
evaluate::built_in-call_with_two-requires t c = λ h is.
    built_in_of_arguments c.evaluation_law.ensures.never_stuck c.args.context.now.functions.now c.args.context.now.env.now c.args.context.now.depth (C.BuiltIn c.args.call c.args.codes.now) c.requires c.args.call c.args.codes.now refl c.args.turns.now _ _
    (two_values (calls_of c.args.context.now.functions.now c.args.context.now.depth) (world_of c.args.context.now.env.now) c.args.codes.now c.args.turns.now c.first-item-then-codes-lt3.result c.second-item.result (are_two c.args.codes.now c.first-item-then-codes-lt3.result c.second-item.result c.in-len2.len_at_least c.in-len2.len_below c.first-item-then-codes-lt3.is c.second-item.is) _ _ c.in_ok-first-in-len2.ensures _ _ (subst (λ r. AnswersHeld (code_value (calls_of c.args.context.now.functions.now c.args.context.now.depth) c.second-item.result (world_of c.args.context.now.env.now) c.eval_at.new.turns) r c.eval_at-second.new.turns) is c.eval_at-second.ensures))

pub evaluate::built_in-returns-in_ok-first-in-len2 : goal.evaluate::built_in-returns-in_ok-first-in-len2
evaluate::built_in-returns-in_ok-first-in-len2 t c =
    built_in_answers (calls_of c.args.context.now.functions.now c.args.context.now.depth) (world_of c.args.context.now.env.now) (C.BuiltIn c.args.call c.args.codes.now) c.args.turns.now c.args.call c.args.codes.now refl _ _
    (c.owned-in-len2.ensures.answered _ _
    (answers_by _ _ _ _
    (with_two (calls_of c.args.context.now.functions.now c.args.context.now.depth) (world_of c.args.context.now.env.now) c.args.call c.args.codes.now c.args.turns.now c.first-item-then-codes-lt3.result c.second-item.result (are_two c.args.codes.now c.first-item-then-codes-lt3.result c.second-item.result c.in-len2.len_at_least c.in-len2.len_below c.first-item-then-codes-lt3.is c.second-item.is) _ _ c.in_ok-first-in-len2.ensures)
    (c.call_with_two.ensures _ _ c.eval_at-second.ensures)))

pub evaluate::built_in-eval_at-requires-in-len3 : goal.evaluate::built_in-eval_at-requires-in-len3
evaluate::built_in-eval_at-requires-in-len3 t c = (
  omega arith,
  let within : 0 < length c.args.codes.now = omega arith in
      built_in_is_fit c.args.context.now.functions.now c.args.context.now.env.now (C.BuiltIn c.args.call c.args.codes.now) c.requires c.args.call c.args.codes.now refl 0 c.first-item-then-codes-lt4.result
      (slice_get_read c.args.codes.now (length c.args.codes.now) 0 c.first-item-then-codes-lt4.result refl within c.first-item-then-codes-lt4.is),
)

pub evaluate::built_in-eval_at-requires-in-len3-2 : goal.evaluate::built_in-eval_at-requires-in-len3-2
evaluate::built_in-eval_at-requires-in-len3-2 t c = (
  omega arith,
  let within : 1 < length c.args.codes.now = omega arith in
      built_in_is_fit c.args.context.now.functions.now c.args.context.now.env.now (C.BuiltIn c.args.call c.args.codes.now) c.requires c.args.call c.args.codes.now refl 1 c.second-item-then-codes-lt4.result
      (slice_get_read c.args.codes.now (length c.args.codes.now) 1 c.second-item-then-codes-lt4.result refl within c.second-item-then-codes-lt4.is),
)

pub evaluate::built_in-eval_at-third-requires : goal.evaluate::built_in-eval_at-third-requires
evaluate::built_in-eval_at-third-requires t c = (
  omega arith,
  let within : 2 < length c.args.codes.now = omega arith in
      built_in_is_fit c.args.context.now.functions.now c.args.context.now.env.now (C.BuiltIn c.args.call c.args.codes.now) c.requires c.args.call c.args.codes.now refl 2 c.third-item.result
      (slice_get_read c.args.codes.now (length c.args.codes.now) 2 c.third-item.result refl within c.third-item.is),
)

pub evaluate::built_in-returns-in_err-first-in-len3 : goal.evaluate::built_in-returns-in_err-first-in-len3
evaluate::built_in-returns-in_err-first-in-len3 t c =
    built_in_answers (calls_of c.args.context.now.functions.now c.args.context.now.depth) (world_of c.args.context.now.env.now) (C.BuiltIn c.args.call c.args.codes.now) c.args.turns.now c.args.call c.args.codes.now refl _ _
    (stops_held _ _ _ _ c.from_residual-in_err-first-in-len3.ensures.1 (called_stops (calls_of c.args.context.now.functions.now c.args.context.now.depth) (world_of c.args.context.now.env.now) c.args.call c.args.codes.now c.args.turns.now _
    (first_of_three_stops (calls_of c.args.context.now.functions.now c.args.context.now.depth) (world_of c.args.context.now.env.now) c.args.codes.now c.args.turns.now c.first-item-then-codes-lt4.result c.second-item-then-codes-lt4.result c.third-item.result (are_three c.args.codes.now c.first-item-then-codes-lt4.result c.second-item-then-codes-lt4.result c.third-item.result c.in-len3.len_at_least c.in-len3.len_below c.first-item-then-codes-lt4.is c.second-item-then-codes-lt4.is c.third-item.is) _ c.in_err-first-in-len3.ensures)))

pub evaluate::built_in-call_with_three-requires : goal.evaluate::built_in-call_with_three-requires
evaluate::built_in-call_with_three-requires t c = λ h is.
    built_in_of_arguments c.evaluation_law.ensures.never_stuck c.args.context.now.functions.now c.args.context.now.env.now c.args.context.now.depth (C.BuiltIn c.args.call c.args.codes.now) c.requires c.args.call c.args.codes.now refl c.args.turns.now _ _
    (three_values (calls_of c.args.context.now.functions.now c.args.context.now.depth) (world_of c.args.context.now.env.now) c.args.codes.now c.args.turns.now c.first-item-then-codes-lt4.result c.second-item-then-codes-lt4.result c.third-item.result (are_three c.args.codes.now c.first-item-then-codes-lt4.result c.second-item-then-codes-lt4.result c.third-item.result c.in-len3.len_at_least c.in-len3.len_below c.first-item-then-codes-lt4.is c.second-item-then-codes-lt4.is c.third-item.is) _ _ c.in_ok-first-in-len3.ensures _ _ c.in-Ok.ensures _ _ (subst (λ r. AnswersHeld (code_value (calls_of c.args.context.now.functions.now c.args.context.now.depth) c.third-item.result (world_of c.args.context.now.env.now) c.eval_at-in-len3-2.new.turns) r c.eval_at-third.new.turns) is c.eval_at-third.ensures))

pub evaluate::built_in-returns-in-Ok : goal.evaluate::built_in-returns-in-Ok
evaluate::built_in-returns-in-Ok t c =
    built_in_answers (calls_of c.args.context.now.functions.now c.args.context.now.depth) (world_of c.args.context.now.env.now) (C.BuiltIn c.args.call c.args.codes.now) c.args.turns.now c.args.call c.args.codes.now refl _ _
    (c.owned-in-Ok.ensures.answered _ _
    (answers_by _ _ _ _
    (with_three (calls_of c.args.context.now.functions.now c.args.context.now.depth) (world_of c.args.context.now.env.now) c.args.call c.args.codes.now c.args.turns.now c.first-item-then-codes-lt4.result c.second-item-then-codes-lt4.result c.third-item.result (are_three c.args.codes.now c.first-item-then-codes-lt4.result c.second-item-then-codes-lt4.result c.third-item.result c.in-len3.len_at_least c.in-len3.len_below c.first-item-then-codes-lt4.is c.second-item-then-codes-lt4.is c.third-item.is) _ _ c.in_ok-first-in-len3.ensures _ _ c.in-Ok.ensures)
    (c.call_with_three.ensures _ _ c.eval_at-third.ensures)))

pub evaluate::built_in-returns-in-Err : goal.evaluate::built_in-returns-in-Err
evaluate::built_in-returns-in-Err t c =
    built_in_answers (calls_of c.args.context.now.functions.now c.args.context.now.depth) (world_of c.args.context.now.env.now) (C.BuiltIn c.args.call c.args.codes.now) c.args.turns.now c.args.call c.args.codes.now refl _ _
    (c.owned-in-Err.ensures.answered _ _
    (called_stopped (calls_of c.args.context.now.functions.now c.args.context.now.depth) (world_of c.args.context.now.env.now) c.args.call c.args.codes.now c.args.turns.now _ _ c.in-Err.stop c.stopped.ensures
    (second_of_three_stops (calls_of c.args.context.now.functions.now c.args.context.now.depth) (world_of c.args.context.now.env.now) c.args.codes.now c.args.turns.now c.first-item-then-codes-lt4.result c.second-item-then-codes-lt4.result c.third-item.result (are_three c.args.codes.now c.first-item-then-codes-lt4.result c.second-item-then-codes-lt4.result c.third-item.result c.in-len3.len_at_least c.in-len3.len_below c.first-item-then-codes-lt4.is c.second-item-then-codes-lt4.is c.third-item.is) _ _ c.in_ok-first-in-len3.ensures _ c.in-Err.ensures)))

pub evaluate::built_in-unreachable-requires : goal.evaluate::built_in-unreachable-requires
evaluate::built_in-unreachable-requires t c =
    let few = one_to_three c.args.context.now.functions.now c.args.context.now.env.now c.args.call c.args.codes.now c.requires in
    grind (arith, few.0, few.1)

pub run::run_row-returns-in-Some-clause-leads : goal.run::run_row-returns-in-Some-clause-leads
run::run_row-returns-in-Some-clause-leads t c =
    leads_by _ _ _ _ _ c.loop-statement.invariant.comes
    (row_ended (bodies_of c.args.program.now.functions.now c.args.program.now.depth) c.args.row.now c.loop-statement.statement-index
    c.statement-item.result c.loop-statement-test.true c.statement-item.is (state c.loop-statement.env c.loop-statement.submits) c.loop-statement.turns
    _ _ _ c.run_statement-answer.ensures.leads c.in-Some.end c.in-Some.ensures)

pub run::run_row-returns-in-Some-clause-kept : goal.run::run_row-returns-in-Some-clause-kept
run::run_row-returns-in-Some-clause-kept t c = keeps_then _ _ _ c.loop-statement.invariant.kept c.run_statement-answer.ensures.kept

pub run::run_row-loop-statement-preserved : goal.run::run_row-loop-statement-preserved
run::run_row-loop-statement-preserved t c =
    let led = led_to _ c.run_statement-answer.result c.in_default.ensures.0 c.in_default.ensures.1 _ _ c.run_statement-answer.ensures.leads in
    record {
      comes = c.loop-statement.invariant.comes ∙ row_on (bodies_of c.args.program.now.functions.now c.args.program.now.depth) c.args.row.now c.loop-statement.statement-index
          c.statement-item.result c.loop-statement-test.true c.statement-item.is (state c.loop-statement.env c.loop-statement.submits) c.loop-statement.turns
          _ _ _ led c.in_default.ensures.2;
      rest = rest_of_row c.args.program.now.functions.now c.args.row.now c.loop-statement.statement-index c.statement-item.result c.loop-statement-test.true c.statement-item.is c.loop-statement.env
          c.loop-statement.invariant.rest c.evaluation_law.ensures.statements c.args.program.now.depth c.loop-statement.turns _ c.loop-statement.submits _ _ led;
      kept = keeps_then _ _ _ c.loop-statement.invariant.kept c.run_statement-answer.ensures.kept;
    }

pub run::run_while-returns-in-Some-clause-leads : goal.run::run_while-returns-in-Some-clause-leads
run::run_while-returns-in-Some-clause-leads t c =
    leads_by _ _ _ _ _ c.rounds.invariant.comes
    (while_ended c.rounds.rounds (bodies_of c.args.program.now.functions.now c.args.program.now.depth) c.args.code.now (scoped (row_acts (bodies_of c.args.program.now.functions.now c.args.program.now.depth) c.args.row.now))
    (state c.rounds.env c.rounds.submits) c.rounds.turns
    _ _ c.in_ok-is_true.ensures c.if-branch.true _ c.in_ok-enter.ensures
    _ _ _ c.run_scoped-answer.ensures.leads c.in-Some.end c.in-Some.ensures)

pub run::run_while-returns-in-Some-clause-kept : goal.run::run_while-returns-in-Some-clause-kept
run::run_while-returns-in-Some-clause-kept t c = keeps_then _ _ _ c.rounds.invariant.kept c.run_scoped-answer.ensures.kept

pub run::run_while-rounds-preserved : goal.run::run_while-rounds-preserved
run::run_while-rounds-preserved t c =
    let led = led_to _ c.run_scoped-answer.result c.in_default.ensures.0 c.in_default.ensures.1 _ _ c.run_scoped-answer.ensures.leads in
    record {
      comes = c.rounds.invariant.comes ∙ while_on c.rounds.rounds (bodies_of c.args.program.now.functions.now c.args.program.now.depth) c.args.code.now (scoped (row_acts (bodies_of c.args.program.now.functions.now c.args.program.now.depth) c.args.row.now))
          (state c.rounds.env c.rounds.submits) c.rounds.turns
          _ _ c.in_ok-is_true.ensures c.if-branch.true _ c.in_ok-enter.ensures
          _ _ _ led c.in_default.ensures.2 c.in-Some-checked_sub.left
          (omega (arith, c.in-Some-checked_sub.ensures.0, c.in-Some-checked_sub.ensures.1));
      again = loop_after_turn c.args.program.now.functions.now c.evaluation_law.ensures.statements c.args.code.now c.args.row.now c.rounds.env c.rounds.invariant.again c.args.program.now.depth
          c.enter.new.turns _ c.rounds.submits _ _ led;
      kept = keeps_then _ _ _ c.rounds.invariant.kept c.run_scoped-answer.ensures.kept;
    }

pub run::run_over-returns-in-Some-turn_end-clause-leads : goal.run::run_over-returns-in-Some-turn_end-clause-leads
run::run_over-returns-in-Some-turn_end-clause-leads t c =
    leads_by _ _ _ _ _ c.values.invariant.comes
    (over_ended c.values.value-iterator.rest.items c.next.new.self.rest.items c.in-Some.value (row_acts (bodies_of c.args.program.now.functions.now c.args.program.now.depth) c.args.row.now)
    c.in-Some.ensures.steps.0 (state c.values.env c.values.submits) c.values.turns
    _ _ _ c.run_turn-answer.ensures.leads c.in-Some-turn_end.end c.in-Some-turn_end.ensures)

pub run::run_over-returns-in-Some-turn_end-clause-kept : goal.run::run_over-returns-in-Some-turn_end-clause-kept
run::run_over-returns-in-Some-turn_end-clause-kept t c = keeps_then _ _ _ c.values.invariant.kept c.run_turn-answer.ensures.kept

pub run::run_over-values-preserved : goal.run::run_over-values-preserved
run::run_over-values-preserved t c =
    let led = led_to _ c.run_turn-answer.result c.in_default.ensures.0 c.in_default.ensures.1 _ _ c.run_turn-answer.ensures.leads in
    record {
      comes = c.values.invariant.comes ∙ over_on c.values.value-iterator.rest.items c.next.new.self.rest.items c.in-Some.value (row_acts (bodies_of c.args.program.now.functions.now c.args.program.now.depth) c.args.row.now)
          c.in-Some.ensures.steps.0 (state c.values.env c.values.submits) c.values.turns _ _ _ led c.in_default.ensures.2;
      rest = other_turns c.args.program.now.functions.now c.values.value-iterator.rest.items c.next.new.self.rest.items c.in-Some.value c.args.row.now c.values.env c.in-Some.ensures.steps.0
          c.values.invariant.rest c.evaluation_law.ensures.statements c.args.program.now.depth c.values.turns _ c.values.submits _ _ led;
      kept = keeps_then _ _ _ c.values.invariant.kept c.run_turn-answer.ensures.kept;
    }

use Rattle.expr_eval.proofs.PlacedFields.{IsPlaced}
use Rattle.expr_eval.proofs.Rows.{pairs_from, takings_from, values_from}
use Rattle.value_operations.specs.Answers.{held}
use Rattle.expr_eval.specs.Fitting.{FitTakings}
use Rattle.spl_value.specs.Pairs.{are_pairs}
use Rattle.std.proofs.Common.{drop, length, ◌*◌, ◌+◌, ◌≡◌}
use Rattle.std.specs.Prelude.{IsTrue, [], Some, slice_get}
use Rattle.language_model.specs.Evaluation.{code_value, world_of}
use Rattle.language_model.specs.parts.Evaluation.{map_of}
use Rattle.spl_tree.specs.declared.code.Code.TheVariants as C
use Rattle.language_model.specs.Functions.{bodies_of}
use Rattle.language_model.specs.parts.Functions.{calls_of}
use Rattle.language_model.specs.EvaluationLaws.{pair_values, values_of}
use Rattle.language_model.specs.Outcomes.{Done, followed}
use Rattle.language_model.specs.Statements.{steps_taken, turns_over}
use Rattle.language_model.specs.parts.Statements.{step_values, row_acts}
use Rattle.expr_eval.proofs.StepValues.{steps_from, taken_from, StepsFrom}
use Rattle.expr_eval.specs.Running.{StepsAreFit, state, RowIsFit, ArmsAreFit, LoopIsFit, OverIsFit}
use Rattle.expr_eval.specs.steps.Keeping.{Keeps}
use Rattle.spl_value.specs.declared.value.Value.{Value}
use Rattle.language_model.specs.StatementLaws.{arms_act}
use Rattle.expr_eval.proofs.LoopParts.{while_from}
use Rattle.expr_eval.proofs.+eval.Given as goal

-- each code and each statement that is entered takes one of the room, so that the room falls
abbrev pub decreases-evaluate::eval_at : goal.decreases-evaluate::eval_at
decreases-evaluate::eval_at l = 6 * l.room

abbrev pub decreases-evaluate::own_value : goal.decreases-evaluate::own_value
decreases-evaluate::own_value l = 6 * l.room + 1

abbrev pub decreases-evaluate::eval_all : goal.decreases-evaluate::eval_all
decreases-evaluate::eval_all l = 6 * l.room + 2

abbrev pub decreases-evaluate::eval_fields : goal.decreases-evaluate::eval_fields
decreases-evaluate::eval_fields l = 6 * l.room + 2

abbrev pub decreases-evaluate::taken : goal.decreases-evaluate::taken
decreases-evaluate::taken l = 6 * l.room + 1

abbrev pub decreases-evaluate::is_true : goal.decreases-evaluate::is_true
decreases-evaluate::is_true l = 6 * l.room + 1

abbrev pub decreases-evaluate::binary : goal.decreases-evaluate::binary
decreases-evaluate::binary l = 6 * l.room + 2

abbrev pub decreases-run::run_function : goal.decreases-run::run_function
decreases-run::run_function l = 6 * l.room + 3

abbrev pub decreases-run::run_statement : goal.decreases-run::run_statement
decreases-run::run_statement l = 6 * l.room

abbrev pub decreases-run::run_row : goal.decreases-run::run_row
decreases-run::run_row l = 6 * l.room + 1

abbrev pub decreases-run::run_scoped : goal.decreases-run::run_scoped
decreases-run::run_scoped l = 6 * l.room + 2

abbrev pub decreases-run::run_if : goal.decreases-run::run_if
decreases-run::run_if l = 6 * l.room + 3

abbrev pub decreases-run::run_while : goal.decreases-run::run_while
decreases-run::run_while l = 6 * l.room + 3

abbrev pub decreases-run::run_turn : goal.decreases-run::run_turn
decreases-run::run_turn l = 6 * l.room + 2

abbrev pub decreases-run::run_over : goal.decreases-run::run_over
decreases-run::run_over l = 6 * l.room + 3

abbrev pub decreases-run::step_value : goal.decreases-run::step_value
decreases-run::step_value l = 6 * l.room + 2

abbrev pub decreases-run::step_values : goal.decreases-run::step_values
decreases-run::step_values l = 6 * l.room + 3

abbrev pub decreases-run::steps_taken : goal.decreases-run::steps_taken
decreases-run::steps_taken l = 6 * l.room + 3

abbrev pub decreases-run::change_values : goal.decreases-run::change_values
decreases-run::change_values l = 6 * l.room + 4

abbrev pub decreases-run::run_change : goal.decreases-run::run_change
decreases-run::run_change l = 6 * l.room + 5

abbrev pub decreases-evaluate::select : goal.decreases-evaluate::select
decreases-evaluate::select l = 6 * l.room + 3

abbrev pub decreases-evaluate::unary : goal.decreases-evaluate::unary
decreases-evaluate::unary l = 6 * l.room + 1

abbrev pub decreases-evaluate::conditional : goal.decreases-evaluate::conditional
decreases-evaluate::conditional l = 6 * l.room + 2

abbrev pub decreases-evaluate::list : goal.decreases-evaluate::list
decreases-evaluate::list l = 6 * l.room + 3

abbrev pub decreases-evaluate::map : goal.decreases-evaluate::map
decreases-evaluate::map l = 6 * l.room + 3

abbrev pub decreases-evaluate::tuple : goal.decreases-evaluate::tuple
decreases-evaluate::tuple l = 6 * l.room + 3

abbrev pub decreases-evaluate::built_in : goal.decreases-evaluate::built_in
decreases-evaluate::built_in l = 6 * l.room + 2

abbrev pub decreases-evaluate::call : goal.decreases-evaluate::call
decreases-evaluate::call l = 6 * l.room + 5

abbrev pub decreases-run::run_call : goal.decreases-run::run_call
decreases-run::run_call l = 6 * l.room + 4

abbrev pub decreases-run::run_for : goal.decreases-run::run_for
decreases-run::run_for l = 6 * l.room + 4

-- ---- loops

abbrev pub invariant-evaluate::eval_all-loop-code : goal.invariant-evaluate::eval_all-loop-code
invariant-evaluate::eval_all-loop-code l =
    values_of (calls_of l.context.functions.now l.context.depth) l.codes (world_of l.context.env.now) l.fn.turns
    ≡ values_from (calls_of l.context.functions.now l.context.depth) (world_of l.context.env.now) l.codes l.code-index l.values l.turns

abbrev pub invariant-evaluate::map-loop-pair : goal.invariant-evaluate::map-loop-pair
invariant-evaluate::map-loop-pair l = record {
  comes : followed (pair_values (calls_of l.context.functions.now l.context.depth) l.pairs (world_of l.context.env.now) l.fn.turns) (λ ps left. Done (map_of ps) left)
      ≡ pairs_from (calls_of l.context.functions.now l.context.depth) (world_of l.context.env.now) l.pairs l.pair-index l.made l.turns;
  sorted : IsTrue (are_pairs l.made);
}

abbrev pub invariant-evaluate::eval_fields-loop-field : goal.invariant-evaluate::eval_fields-loop-field
invariant-evaluate::eval_fields-loop-field l = record {
  made : IsPlaced (calls_of l.context.functions.now l.context.depth) (world_of l.context.env.now) l.fields l.initial.values l.fn.turns l.field-index l.values l.turns;
  long : length l.values ≡ length l.fields;
}

abbrev pub invariant-evaluate::select-loop-taking : goal.invariant-evaluate::select-loop-taking
invariant-evaluate::select-loop-taking l = record {
  comes : code_value (calls_of l.context.functions.now l.context.depth) (C.Select l.base l.takings) (world_of l.context.env.now) l.fn.turns
      ≡ takings_from (calls_of l.context.functions.now l.context.depth) (world_of l.context.env.now) l.takings l.taking-index (held l.value) l.turns;
  others : FitTakings l.context.functions.now (drop l.taking-index l.takings) l.context.env.now (held l.value);
}

abbrev pub invariant-run::step_values-loop-taking : goal.invariant-run::step_values-loop-taking
invariant-run::step_values-loop-taking l = record {
  comes : step_values (bodies_of l.context.functions.now l.context.depth) l.takings (state l.context.env.now []) l.fn.turns
      ≡ steps_from (bodies_of l.context.functions.now l.context.depth) (state l.context.env.now []) l.takings l.taking-index l.steps l.turns;
  others : StepsAreFit l.context.functions.now (drop l.taking-index l.takings) l.context.env.now;
}

abbrev pub invariant-run::steps_taken-loop-taking : goal.invariant-run::steps_taken-loop-taking
invariant-run::steps_taken-loop-taking l = record {
  comes : (v : Value) → slice_get l.context.env.now.vars l.place.variable ≡ Some v
      → steps_taken (bodies_of l.context.functions.now l.context.depth) l.place.takings v (state l.context.env.now []) l.fn.turns
      ≡ taken_from (bodies_of l.context.functions.now l.context.depth) (state l.context.env.now []) l.taking-items l.taking-index (held l.value) l.steps l.turns;
  others : StepsFrom l.context.functions.now (drop l.taking-index l.taking-items) l.context.env.now (held l.value);
}

abbrev pub invariant-run::run_row-loop-statement : goal.invariant-run::run_row-loop-statement
invariant-run::run_row-loop-statement l = record {
  comes : row_acts (bodies_of l.program.functions.now l.program.depth) l.row (state l.fn.env l.fn.submits) l.fn.turns
      ≡ row_acts (bodies_of l.program.functions.now l.program.depth) (drop l.statement-index l.row) (state l.env l.submits) l.turns;
  rest : RowIsFit l.program.functions.now (drop l.statement-index l.row) l.env;
  kept : Keeps l.fn.env l.env;
}

abbrev pub invariant-run::run_if-loop-arm : goal.invariant-run::run_if-loop-arm
invariant-run::run_if-loop-arm l = record {
  comes : arms_act (bodies_of l.program.functions.now l.program.depth) l.arms l.other (state l.fn.env l.fn.submits) l.fn.turns
      ≡ arms_act (bodies_of l.program.functions.now l.program.depth) (drop l.arm-index l.arms) l.other (state l.env l.submits) l.turns;
  rest : ArmsAreFit l.program.functions.now (drop l.arm-index l.arms) l.other l.env;
  kept : Keeps l.fn.env l.env;
}

abbrev pub invariant-run::run_while-rounds : goal.invariant-run::run_while-rounds
invariant-run::run_while-rounds l = record {
  comes : while_from l.fn.turns l.program.functions.now l.program.depth l.code l.row (state l.fn.env l.fn.submits) l.fn.turns
      ≡ while_from l.rounds l.program.functions.now l.program.depth l.code l.row (state l.env l.submits) l.turns;
  again : LoopIsFit l.program.functions.now l.code l.row l.env;
  kept : Keeps l.fn.env l.env;
}

abbrev pub decreases-run::run_while-rounds : goal.decreases-run::run_while-rounds
decreases-run::run_while-rounds l = l.rounds

abbrev pub invariant-run::run_over-values : goal.invariant-run::run_over-values
invariant-run::run_over-values l = record {
  comes : turns_over l.fn.values (row_acts (bodies_of l.program.functions.now l.program.depth) l.row) (state l.fn.env l.fn.submits) l.fn.turns
      ≡ turns_over l.value-iterator.rest.items (row_acts (bodies_of l.program.functions.now l.program.depth) l.row) (state l.env l.submits) l.turns;
  rest : OverIsFit l.program.functions.now l.value-iterator.rest.items l.row l.env;
  kept : Keeps l.fn.env l.env;
}

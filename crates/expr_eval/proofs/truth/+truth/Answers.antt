use Rattle.std.proofs.Common.{arith, ap, ◌∙◌, if◌then◌else◌, true, false}
use Rattle.language_model.specs.Evaluation.{world_of}
use Rattle.language_model.specs.EvaluationLaws.{truth_value}
use Rattle.language_model.specs.parts.Functions.{calls_of}
use Rattle.language_model.specs.Outcomes.{Done}
use Rattle.spl_value.specs.declared.types.SplType.TheVariants as T
use Rattle.value_operations.proofs.Following.{answers_by, stops}
use Rattle.expr_eval.proofs.Binary.{and_left, or_left}
use Rattle.expr_eval.proofs.Truths.{all_invert, and_is, and_right, and_stops, inverted_done, inverted_stops, operand_holds, or_is, or_right, or_stops}
use Rattle.expr_eval.proofs.truth.+truth.Goals as goal

pub truth_inverted-truth_at-requires : goal.truth_inverted-truth_at-requires
truth_inverted-truth_at-requires t c = (omega arith, operand_holds c.args.context.now.functions.now c.args.context.now.env.now c.args.operators.now c.args.operand.now c.requires)

pub truth_inverted-inverted-requires : goal.truth_inverted-inverted-requires
truth_inverted-inverted-requires t c = all_invert c.args.context.now.functions.now c.args.context.now.env.now c.args.operators.now c.args.operand.now c.requires

pub truth_inverted-returns-in_err-truth : goal.truth_inverted-returns-in_err-truth
truth_inverted-returns-in_err-truth t c =
    stops _ _ _ _ c.from_residual.ensures.1
    (inverted_stops c.args.context.now.functions.now c.args.context.now.env.now c.args.operators.now c.args.operand.now c.requires c.evaluation_law.ensures.never_stuck c.args.context.now.depth c.args.turns.now _ c.in_err-truth.ensures)

pub truth_inverted-returns : goal.truth_inverted-returns
truth_inverted-returns t c =
    inverted_done c.args.context.now.functions.now c.args.context.now.env.now c.args.operators.now c.args.operand.now c.requires c.evaluation_law.ensures.never_stuck c.args.context.now.depth c.args.turns.now _ _ _ c.in_ok-truth.ensures c.inverted.ensures

pub truth_of_two-truth_at-requires : goal.truth_of_two-truth_at-requires
truth_of_two-truth_at-requires t c = (omega arith, and_left c.args.context.now.functions.now c.args.context.now.env.now c.args.operator c.args.left.now c.args.right.now (T.Bool, c.requires) c.in-And.is)

pub truth_of_two-truth_at-requires-then-branch : goal.truth_of_two-truth_at-requires-then-branch
truth_of_two-truth_at-requires-then-branch t c = (omega arith, and_right c.args.context.now.functions.now c.args.context.now.env.now c.args.operator c.args.left.now c.args.right.now c.requires c.in-And.is)

pub truth_of_two-truth_at-requires-in-Or : goal.truth_of_two-truth_at-requires-in-Or
truth_of_two-truth_at-requires-in-Or t c = (omega arith, or_left c.args.context.now.functions.now c.args.context.now.env.now c.args.operator c.args.left.now c.args.right.now (T.Bool, c.requires) c.in-Or.is)

pub truth_of_two-truth_at-requires-in-Or-2 : goal.truth_of_two-truth_at-requires-in-Or-2
truth_of_two-truth_at-requires-in-Or-2 t c = (omega arith, or_right c.args.context.now.functions.now c.args.context.now.env.now c.args.operator c.args.left.now c.args.right.now c.requires c.in-Or.is)

pub truth_of_two-returns-in_err-truth_at-in-And : goal.truth_of_two-returns-in_err-truth_at-in-And
truth_of_two-returns-in_err-truth_at-in-And t c =
    stops _ _ _ _ c.from_residual.ensures.1 (and_stops (calls_of c.args.context.now.functions.now c.args.context.now.depth) (world_of c.args.context.now.env.now) c.args.operator c.args.left.now c.args.right.now c.args.turns.now c.in-And.is _ c.in_err-truth_at-in-And.ensures)

pub truth_of_two-returns-then-branch : goal.truth_of_two-returns-then-branch
truth_of_two-returns-then-branch t c =
    answers_by _ _ _ _
    (and_is (calls_of c.args.context.now.functions.now c.args.context.now.depth) (world_of c.args.context.now.env.now) c.args.operator c.args.left.now c.args.right.now c.args.turns.now c.in-And.is _ _ c.in_ok-truth_at-in-And.ensures
    ∙ ap (λ b. if b then truth_value (calls_of c.args.context.now.functions.now c.args.context.now.depth) c.args.right.now (world_of c.args.context.now.env.now) c.truth_at.new.turns else Done false c.truth_at.new.turns) c.if-branch.true)
    c.truth_at-then-branch.ensures

pub truth_of_two-returns-else-branch : goal.truth_of_two-returns-else-branch
truth_of_two-returns-else-branch t c =
    and_is (calls_of c.args.context.now.functions.now c.args.context.now.depth) (world_of c.args.context.now.env.now) c.args.operator c.args.left.now c.args.right.now c.args.turns.now c.in-And.is _ _ c.in_ok-truth_at-in-And.ensures
    ∙ ap (λ b. if b then truth_value (calls_of c.args.context.now.functions.now c.args.context.now.depth) c.args.right.now (world_of c.args.context.now.env.now) c.truth_at.new.turns else Done false c.truth_at.new.turns) c.if-branch.false

pub truth_of_two-returns-in_err-truth_at-in-Or : goal.truth_of_two-returns-in_err-truth_at-in-Or
truth_of_two-returns-in_err-truth_at-in-Or t c =
    stops _ _ _ _ c.from_residual-in_err-truth_at-in-Or.ensures.1 (or_stops (calls_of c.args.context.now.functions.now c.args.context.now.depth) (world_of c.args.context.now.env.now) c.args.operator c.args.left.now c.args.right.now c.args.turns.now c.in-Or.is _ c.in_err-truth_at-in-Or.ensures)

pub truth_of_two-returns-then-branch-2 : goal.truth_of_two-returns-then-branch-2
truth_of_two-returns-then-branch-2 t c =
    or_is (calls_of c.args.context.now.functions.now c.args.context.now.depth) (world_of c.args.context.now.env.now) c.args.operator c.args.left.now c.args.right.now c.args.turns.now c.in-Or.is _ _ c.in_ok-truth_at-in-Or.ensures
    ∙ ap (λ b. if b then Done true c.truth_at-in-Or.new.turns else truth_value (calls_of c.args.context.now.functions.now c.args.context.now.depth) c.args.right.now (world_of c.args.context.now.env.now) c.truth_at-in-Or.new.turns) c.if-branch-2.true

pub truth_of_two-returns-else-branch-2 : goal.truth_of_two-returns-else-branch-2
truth_of_two-returns-else-branch-2 t c =
    answers_by _ _ _ _
    (or_is (calls_of c.args.context.now.functions.now c.args.context.now.depth) (world_of c.args.context.now.env.now) c.args.operator c.args.left.now c.args.right.now c.args.turns.now c.in-Or.is _ _ c.in_ok-truth_at-in-Or.ensures
    ∙ ap (λ b. if b then Done true c.truth_at-in-Or.new.turns else truth_value (calls_of c.args.context.now.functions.now c.args.context.now.depth) c.args.right.now (world_of c.args.context.now.env.now) c.truth_at-in-Or.new.turns) c.if-branch-2.false)
    c.truth_at-in-Or-2.ensures

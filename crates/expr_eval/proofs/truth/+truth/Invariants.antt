use Rattle.std.proofs.Common.{◌*◌, ◌+◌}
use Rattle.expr_eval.proofs.truth.+truth.Given as goal

abbrev pub decreases-truth_at : goal.decreases-truth_at
decreases-truth_at l = 2 * l.room

abbrev pub decreases-truth_of_two : goal.decreases-truth_of_two
decreases-truth_of_two l = 2 * l.room + 1

abbrev pub decreases-truth_inverted : goal.decreases-truth_inverted
decreases-truth_inverted l = 2 * l.room + 1

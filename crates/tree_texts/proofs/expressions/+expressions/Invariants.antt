use Rattle.std.proofs.Common.{◌*◌, ◌+◌}
use Rattle.tree_texts.proofs.expressions.+expressions.Given as goal

-- what is entered takes one of the room, so that the room falls
abbrev pub decreases-expression_within : goal.decreases-expression_within
decreases-expression_within l = 2 * l.room

abbrev pub decreases-expressions_within : goal.decreases-expressions_within
decreases-expressions_within l = 2 * l.room + 1

abbrev pub decreases-entries_within : goal.decreases-entries_within
decreases-entries_within l = 2 * l.room + 1

abbrev pub decreases-fields_within : goal.decreases-fields_within
decreases-fields_within l = 2 * l.room + 1

abbrev pub decreases-steps_within : goal.decreases-steps_within
decreases-steps_within l = 2 * l.room + 1

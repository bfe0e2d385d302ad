use Rattle.std.proofs.Common.{◌*◌, ◌+◌}
use Rattle.tree_texts.proofs.statements.+statements.Given as goal

-- what is entered takes one of the room, so that the room falls
abbrev pub decreases-statement_within : goal.decreases-statement_within
decreases-statement_within l = 2 * l.room

abbrev pub decreases-block_within : goal.decreases-block_within
decreases-block_within l = 2 * l.room + 1

abbrev pub decreases-arms_within : goal.decreases-arms_within
decreases-arms_within l = 2 * l.room + 1

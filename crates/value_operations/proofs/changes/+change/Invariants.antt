use Rattle.std.proofs.Common.{◌+◌, ◌*◌}
use Rattle.value_operations.proofs.changes.+change.Given as goal

-- each step takes one of the room
abbrev pub decreases-change_at : goal.decreases-change_at
decreases-change_at l = 2 * l.room

abbrev pub decreases-change_at_key : goal.decreases-change_at_key
decreases-change_at_key l = 2 * l.room + 1

abbrev pub decreases-change_member : goal.decreases-change_member
decreases-change_member l = 2 * l.room + 1

abbrev pub decreases-change_element : goal.decreases-change_element
decreases-change_element l = 2 * l.room + 1

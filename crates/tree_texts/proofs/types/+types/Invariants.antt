use Rattle.std.proofs.Common.{◌*◌, ◌+◌}
use Rattle.tree_texts.proofs.types.+types.Given as goal

-- what is entered takes one of the room, so that the room falls
abbrev pub decreases-type_within : goal.decreases-type_within
decreases-type_within l = 2 * l.room

abbrev pub decreases-attributes_within : goal.decreases-attributes_within
decreases-attributes_within l = 2 * l.room + 1

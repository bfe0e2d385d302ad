use Rattle.std.proofs.Common.{◌≡◌, vec_len}
use Rattle.group_drive.specs.Groups.{AreEmpty}
use Rattle.group_drive.proofs.room.groups_for.Given as goal

abbrev pub invariant-groups : goal.invariant-groups
invariant-groups g l = (vec_len l.groups ≡ l.i) × AreEmpty l.groups.items

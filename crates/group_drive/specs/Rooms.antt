-- The room that is made for a run.
use Rattle.std.specs.Prelude.{◌≡◌, ◌≤◌, ℕ, [], vec_len}
use Rattle.std.specs.Vec.{vec_capacity}
use Rattle.group_drive.specs.Groups.{AreEmpty}
use Rattle.group_drive.specs.declared.room.Room.{Room}

-- so many empty groups, and for each of them a flag and room for the handle of its worker
pub record HasGroups {N : Type 0} (room : Room N) (groups : ℕ) : Type 0 where
  pub count : vec_len room.groups ≡ groups
  pub flags : groups ≤ vec_len room.flags
  pub handles : groups ≤ vec_capacity room.handles
  pub empty : AreEmpty room.groups.items
  pub none : room.handles.items ≡ []

-- room for so many nodes that no group takes, and for as many that are done
pub record HasRoom {N : Type 0} (room : Room N) (nodes : ℕ) : Type 0 where
  pub left : nodes ≤ vec_capacity room.left
  pub all : nodes ≤ vec_capacity room.all
  pub none_left : room.left.items ≡ []
  pub none_done : room.all.items ≡ []

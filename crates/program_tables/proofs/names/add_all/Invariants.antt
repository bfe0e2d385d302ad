use Rattle.std.proofs.Common.{◌++◌, List, ℕ, map, take}
use Rattle.program_tables.specs.Names.{HoldsNames}
use Rattle.program_tables.proofs.names.add_all.Given as goal

abbrev pub invariant-loop-part : goal.invariant-loop-part
invariant-loop-part g l = (before : List (List ℕ)) → HoldsNames l.fn.names before → HoldsNames l.names (before ++ map g.T.HasName.name_of (take l.part-index l.row))

use Rattle.std.proofs.Common.{◌≡◌, ◌++◌, ◌∷◌, [], take}
use Rattle.csv.specs.Writing.{default_writer, escaped}
use Rattle.row_writer.proofs.row.add_quoted.Given as goal

abbrev pub invariant-loop-b : goal.invariant-loop-b
invariant-loop-b l = l.row.items ≡ (l.fn.row.items ++ 34 ∷ []) ++ escaped default_writer (take l.b-index l.field)

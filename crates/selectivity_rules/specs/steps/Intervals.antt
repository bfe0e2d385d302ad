-- The intervals of statements and of the statements of an `if`.
use Rattle.std.specs.Prelude.{List, [], ◌∷◌, Option}
use Rattle.spl_tree.specs.declared.body.Statement.{Statement}
use Rattle.spl_tree.specs.declared.body.Statement.TheFolds.{fold-Statement}
use Rattle.spl_tree.specs.declared.code.Code.{Code}
use Rattle.spl_tree.specs.declared.code.Marker.{Marker}
use Rattle.spl_tree.specs.declared.code.Slot.{Slot}
use Rattle.stream_model.specs.Selectivity.{Interval, chosen, level_interval, row_interval}
use Rattle.stream_model.specs.parts.Selectivity.{decided}

-- of a statement where this marker came, or none
abbrev pub statement_interval : Option Marker → Statement → Interval
statement_interval marker = fold-Statement Interval (level_interval marker)

-- of the statements after the first condition that is true, or else of the others
abbrev pub arms_interval : Option Marker → List (Code Slot × List Statement) → List Statement → Interval
arms_interval marker [] other = row_interval marker other
arms_interval marker (arm ∷ arms) other = chosen (decided marker arm.0) (row_interval marker arm.1) (arms_interval marker arms other)

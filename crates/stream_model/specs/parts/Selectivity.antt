-- Words for parts of the rules of selectivity: what a marker decides of a condition, and the greatest number of a body.
use Rattle.std.specs.Prelude.{ℕ, Bool, List, Option}
use Rattle.spl_tree.specs.declared.body.Statement.{Statement}
use Rattle.spl_tree.specs.declared.code.Code.{Code}
use Rattle.spl_tree.specs.declared.code.Code.TheViews.{out-Code}
use Rattle.spl_tree.specs.declared.code.Marker.{Marker}
use Rattle.spl_tree.specs.declared.code.Slot.{Slot}
use Rattle.stream_model.specs.Selectivity.{level_decided, row_interval}

abbrev pub decided : Option Marker → Code Slot → Option Bool
decided marker code = level_decided marker (out-Code Slot code)

abbrev pub greatest_number : Option Marker → List Statement → Option ℕ
greatest_number marker row = (row_interval marker row).most

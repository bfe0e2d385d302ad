use Rattle.std.proofs.Common.{◌≡◌, false}
use Rattle.row_reader.specs.Reading.{is_over, most_left}
use Rattle.row_tests.proofs.source_rows.copy_rows.Given as goal

abbrev pub invariant-rows : goal.invariant-rows
invariant-rows g l = is_over l.rows ≡ false

abbrev pub decreases-rows : goal.decreases-rows
decreases-rows g l = most_left l.rows

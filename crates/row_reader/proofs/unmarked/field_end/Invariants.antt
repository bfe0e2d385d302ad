use Rattle.std.proofs.Common.{◌≡◌, false, take}
use Rattle.std.specs.List.{list_any}
use Rattle.row_reader.specs.steps.Plain.{is_stop_or_mark}
use Rattle.row_reader.proofs.unmarked.field_end.Given as goal

abbrev pub invariant-loop-i : goal.invariant-loop-i
invariant-loop-i l = list_any is_stop_or_mark (take l.i l.line) ≡ false

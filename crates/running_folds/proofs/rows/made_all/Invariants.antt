use Rattle.std.proofs.Common.{◌≡◌, ◌++◌, List, length, map, drop, slice_get}
use Rattle.std.specs.Option.{option_copied}
use Rattle.circular_buffer.specs.Buffer.{last_item}
use Rattle.spl_value.specs.declared.value.Value.{Value}
use Rattle.running_folds.specs.Folds.{answers, answers_from}
use Rattle.running_folds.specs.Moving.{AreMoving, fold_of}
use Rattle.running_folds.proofs.rows.made_all.Given as goal

abbrev pub invariant-loop-place : goal.invariant-loop-place
invariant-loop-place l = (rows : List (List Value)) → AreMoving l.moving rows → option_copied l.first ≡ slice_get rows 0
    → option_copied l.last ≡ last_item rows → l.count ≡ length rows
    → l.made ++ answers_from l.place (map fold_of (drop l.place l.moving)) rows ≡ answers (map fold_of l.moving) rows

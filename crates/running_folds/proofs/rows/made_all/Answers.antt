use Rattle.std.proofs.Common.{◌<◌, ◌+◌, ◌++◌, List, length, drop, map, sym, ap, ◌∙◌, arith}
use Rattle.std.specs.Option.{option_and_then}
use Rattle.std.specs.Prelude.{slice_get}
use Rattle.spl_value.specs.declared.value.Value.{Value}
use Rattle.spl_value.proofs.Lists.{item_there}
use Rattle.tuple_groups.specs.Columns.{column}
use Rattle.running_folds.specs.Folds.{answers, answers_from}
use Rattle.running_folds.specs.Moving.{fold_of}
use Rattle.running_folds.proofs.Columns.{answers_next, column_head, column_last, column_length, folded_column}
use Rattle.running_folds.proofs.rows.made_all.Goals as goal

pub loop-place-preserved : goal.loop-place-preserved
loop-place-preserved c rows were first last count =
    let all = c.args.moving.now in
    let at = c.loop-place.place in
    let m = c.index-moving-place.result in
    let within : at < length all = omega arith in
    let there = item_there all at m within c.index-moving-place.is in
    let head = c.value_at.ensures ∙ ap (option_and_then (λ (row : List Value). slice_get row at)) first ∙ column_head (length all) at rows within were.long in
    let end = c.value_at-in-loop-place.ensures ∙ ap (option_and_then (λ (row : List Value). slice_get row at)) last ∙ column_last (length all) at rows within were.long in
    ap (λ (vs : List Value). vs ++ answers_from (at + 1) (map fold_of (drop (at + 1) all)) rows) c.in_ok-push_some.ensures
    ∙ answers_next fold_of at all m rows c.loop-place.made (answers (map fold_of all) rows) c.in_ok-value.value there
    (c.in_ok-value.ensures (column at rows) (were.each at m there) head end (count ∙ sym (column_length (length all) at rows within were.long))
    ∙ folded_column (fold_of m) (length all) at rows within were.long)
    (c.loop-place.invariant rows were first last count)

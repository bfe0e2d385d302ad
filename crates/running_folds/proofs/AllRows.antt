-- What is kept for folds of rows, after one row more, after one less, and after all have left.
use Rattle.std.proofs.Common.{◌≡◌, ◌≤◌, ℕ, List, [], ◌∷◌, ◌++◌, length, map, slice_get, Some, sym, subst, ◌∙◌, arith}
use Rattle.spl_value.specs.declared.value.Value.{Value}
use Rattle.spl_value.proofs.Lists.{all_more, get_below, get_within}
use Rattle.tuple_groups.specs.Columns.{column}
use Rattle.running_folds.specs.declared.moving.Moving.{Moving}
use Rattle.running_folds.specs.declared.tally.Tally.{Tally}
use Rattle.running_folds.specs.Folds.{AreRows}
use Rattle.running_folds.specs.Moving.{AreMoving, Moves, fold_of as fold_moving}
use Rattle.running_folds.specs.Tallies.{AreTallied, Tallied, fold_of}
use Rattle.running_folds.specs.steps.Moving.{LeavesOf, PassesOf}
use Rattle.running_folds.specs.steps.Stepped.{Stepped}
use Rattle.running_folds.specs.steps.Tallies.{AddsOf, BeginsAnew}
use Rattle.running_folds.proofs.Columns.{column_first, column_push}
use Rattle.running_folds.proofs.Steps.{all_stepped, map_same}

module _ (at : ℕ) (old now : List Tally) where
  pub added_all : (row : List Value) → length row ≡ length old → Stepped (AddsOf row) at old now → length now ≤ at
      → (map fold_of now ≡ map fold_of old) × ((rows : List (List Value)) → AreTallied old rows → AreTallied now (rows ++ row ∷ []))
  added_all row long stepped all =
      let each = all_stepped (AddsOf row) at old now stepped all in
      let value = λ (k : ℕ) (t : Tally) (is : slice_get old k ≡ Some t). get_below row k (let within = get_within old k t is in omega (arith, within, long)) in (
        map_same fold_of old now stepped.long (λ k u is. let e = each k u is in let v = value k e.0 e.1 in (e.0, e.1, (e.2 v.0 v.1).0)),
        λ rows were. record {
          long = all_more (λ (r : List Value). length r ≡ length now) rows row (subst (λ n. AreRows n rows) (sym stepped.long) were.long) (long ∙ sym stepped.long);
          each = λ k u is.
              let e = each k u is in
              let v = value k e.0 e.1 in
              subst (Tallied u) (sym (column_push k rows row v.0 v.1)) ((e.2 v.0 v.1).1 (column k rows) (were.each k e.0 e.1));
        },
      )

  pub begun_anew : Stepped BeginsAnew at old now → length now ≤ at → (map fold_of now ≡ map fold_of old) × AreTallied now []
  begun_anew stepped all =
      let each = all_stepped BeginsAnew at old now stepped all in (
        map_same fold_of old now stepped.long (λ k u is. let e = each k u is in (e.0, e.1, e.2.0)),
        record { long = tt; each = λ k u is. (each k u is).2.1 },
      )

module _ (at : ℕ) (old now : List Moving) (row : List Value) where
  pub passed_all : length row ≡ length old → Stepped (PassesOf row) at old now → length now ≤ at
      → (map fold_moving now ≡ map fold_moving old) × ((rows : List (List Value)) → AreMoving old rows → AreMoving now (rows ++ row ∷ []))
  passed_all long stepped all =
      let each = all_stepped (PassesOf row) at old now stepped all in (
        map_same fold_moving old now stepped.long (λ k u is. let e = each k u is in (e.0, e.1, e.2.0)),
        λ rows were. record {
          long = all_more (λ (r : List Value). length r ≡ length now) rows row (subst (λ n. AreRows n rows) (sym stepped.long) were.long) (long ∙ sym stepped.long);
          each = λ k u is.
              let e = each k u is in
              let v = get_below row k (let within = get_within old k e.0 e.1 in omega (arith, within, long)) in
              subst (Moves u) (sym (column_push k rows row v.0 v.1)) (e.2.1 v.0 (column k rows) v.1 (were.each k e.0 e.1));
        },
      )

  pub left_all : Stepped (LeavesOf row) at old now → length now ≤ at
      → (map fold_moving now ≡ map fold_moving old) × ((rows : List (List Value)) → AreMoving old (row ∷ rows) → AreMoving now rows)
  left_all stepped all =
      let each = all_stepped (LeavesOf row) at old now stepped all in (
        map_same fold_moving old now stepped.long (λ k u is. let e = each k u is in (e.0, e.1, e.2.0)),
        λ rows were. record {
          long = subst (λ n. AreRows n rows) (sym stepped.long) were.long.1;
          each = λ k u is.
              let e = each k u is in
              let v = get_below row k (let within = get_within old k e.0 e.1 in let long = were.long.0 in omega (arith, within, long)) in
              e.2.1 v.0 (column k rows) v.1 (subst (Moves e.0) (column_first k rows row v.0 v.1) (were.each k e.0 e.1));
        },
      )

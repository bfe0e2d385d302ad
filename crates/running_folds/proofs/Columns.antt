-- The values of an argument in rows.
use Rattle.std.proofs.Common.{◌≡◌, ◌<◌, ◌+◌, ◌-◌, ℕ, suc, List, [], ◌∷◌, ◌++◌, length, map, drop, slice_get, Option, Some, None, refl, sym, ap, ◌∙◌, append_assoc, arith}
use Rattle.std.specs.List.{cons_option}
use Rattle.std.specs.Option.{option_and_then, option_to_list}
use Rattle.circular_buffer.specs.Buffer.{last_item}
use Rattle.spl_value.specs.declared.value.Value.{Value}
use Rattle.spl_value.proofs.Lists.{get_below, next_rest}
use Rattle.language_model.specs.declared.checked.Collector.{Collector}
use Rattle.stream_model.specs.Aggregates.{collected, last}
use Rattle.tuple_groups.specs.Columns.{column}
use Rattle.running_folds.specs.Folds.{AreRows, answers, answers_from, folded}

cons_push : (o : Option Value) (vs : List Value) (v : Value) → cons_option o (vs ++ v ∷ []) ≡ cons_option o vs ++ v ∷ []
cons_push None vs v = refl
cons_push (Some w) vs v = refl

-- one row more
pub column_push : (k : ℕ) (rows : List (List Value)) (row : List Value) (v : Value) → slice_get row k ≡ Some v → column k (rows ++ row ∷ []) ≡ column k rows ++ v ∷ []
column_push k [] row v is = ap (λ o. cons_option o []) is
column_push k (r ∷ rows) row v is = ap (cons_option (slice_get r k)) (column_push k rows row v is) ∙ cons_push (slice_get r k) (column k rows) v

-- one row before them
pub column_first : (k : ℕ) (rows : List (List Value)) (row : List Value) (v : Value) → slice_get row k ≡ Some v → column k (row ∷ rows) ≡ v ∷ column k rows
column_first k rows row v is = ap (λ o. cons_option o (column k rows)) is

-- each row has a value
pub column_length : (n k : ℕ) (rows : List (List Value)) → k < n → AreRows n rows → length (column k rows) ≡ length rows
column_length n k [] within long = refl
column_length n k (row ∷ rows) within long =
    let there = get_below row k (omega (arith, within, long.0)) in
    ap length (column_first k rows row there.0 there.1) ∙ ap suc (column_length n k rows within long.1)

pub column_head : (n k : ℕ) (rows : List (List Value)) → k < n → AreRows n rows → option_and_then (λ r. slice_get r k) (slice_get rows 0) ≡ slice_get (column k rows) 0
column_head n k [] within long = refl
column_head n k (row ∷ rows) within long =
    let there = get_below row k (omega (arith, within, long.0)) in
    there.1 ∙ ap (λ vs. slice_get vs 0) (sym (column_first k rows row there.0 there.1))

pub column_last : (n k : ℕ) (rows : List (List Value)) → k < n → AreRows n rows → option_and_then (λ r. slice_get r k) (last_item rows) ≡ last (column k rows)
column_last n k [] within long = refl
column_last n k (row ∷ []) within long =
    let there = get_below row k (omega (arith, within, long.0)) in
    there.1 ∙ ap last (sym (column_first k [] row there.0 there.1))
column_last n k (row ∷ r ∷ rows) within long =
    let there = get_below row k (omega (arith, within, long.0)) in
    let next = get_below r k (omega (arith, within, long.1.0)) in
    let place : suc (suc (length rows)) - 1 ≡ suc (suc (length rows) - 1) = omega arith in
    ap (λ i. option_and_then (λ (q : List Value). slice_get q k) (slice_get (row ∷ r ∷ rows) i)) place
    ∙ column_last n k (r ∷ rows) within long.1
    ∙ ap last (column_first k rows r next.0 next.1)
    ∙ ap (λ vs. last (there.0 ∷ vs)) (sym (column_first k rows r next.0 next.1))
    ∙ ap last (sym (column_first k (r ∷ rows) row there.0 there.1))

-- ---- the answers

-- those of the folds from number k on, after those of the ones before it
pub answers_begin : (folds : List Collector) (rows : List (List Value)) → [] ++ answers_from 0 folds rows ≡ answers folds rows
answers_begin folds rows = refl

-- the answer of one fold more
pub answers_more : (k : ℕ) (fold : Collector) (folds : List Collector) (rows : List (List Value)) (made whole : List Value) (o : Option Value)
    → o ≡ collected fold (length rows) (column k rows) → made ++ answers_from k (fold ∷ folds) rows ≡ whole → (made ++ option_to_list o) ++ answers_from (k + 1) folds rows ≡ whole
answers_more k fold folds rows made whole o is so_far =
    append_assoc made (option_to_list o) (answers_from (k + 1) folds rows)
    ∙ ap (λ p. made ++ (option_to_list p ++ answers_from (k + 1) folds rows)) is ∙ so_far

-- a fold over a column
pub folded_column : (fold : Collector) (n k : ℕ) (rows : List (List Value)) → k < n → AreRows n rows → folded fold (column k rows) ≡ collected fold (length rows) (column k rows)
folded_column fold n k rows within long = ap (λ m. collected fold m (column k rows)) (column_length n k rows within long)

-- the answer of the fold of an item in its turn
pub answers_next : {A : Type 0} (fold_of : A → Collector) (at : ℕ) (old : List A) (t : A) (rows : List (List Value)) (made whole : List Value) (o : Option Value)
    → slice_get old at ≡ Some t → o ≡ collected (fold_of t) (length rows) (column at rows) → made ++ answers_from at (map fold_of (drop at old)) rows ≡ whole
    → (made ++ option_to_list o) ++ answers_from (at + 1) (map fold_of (drop (at + 1) old)) rows ≡ whole
answers_next {A = A} fold_of at old t rows made whole o there is so_far =
    let after : suc at ≡ at + 1 = omega arith in
    ap (λ n. (made ++ option_to_list o) ++ answers_from (at + 1) (map fold_of (drop n old)) rows) (sym after)
    ∙ answers_more at (fold_of t) (map fold_of (drop (suc at) old)) rows made whole o is
    (ap (λ (ts : List A). made ++ answers_from at (map fold_of ts) rows) (sym (next_rest old at t there)) ∙ so_far)

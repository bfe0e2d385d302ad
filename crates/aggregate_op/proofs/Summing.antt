-- What contents give is what they give by the answers of the folds.
use Rattle.std.proofs.Common.{◌≡◌, ◌<◌, ◌+◌, ◌-◌, Bool, ℕ, zero, suc, List, [], ◌∷◌, ◌++◌, map, drop, length, slice_get, Option, Some, None, refl, sym, ap, ◌∙◌, append-nil, arith}
use Rattle.std.specs.List.{AllByRecursion, cons_option}
use Rattle.std.specs.Option.{option_and_then, option_map, option_to_list}
use Rattle.std.proofs.lemmas.List.{length-drop}
use Rattle.spl_value.specs.declared.item.Item.TheVariants as I
use Rattle.spl_value.specs.declared.value.Value.{Value}
use Rattle.spl_value.proofs.Lists.{map_length}
use Rattle.language_model.specs.declared.checked.CollectedAttribute.{CollectedAttribute}
use Rattle.language_model.specs.declared.checked.Collector.{Collector}
use Rattle.language_model.specs.declared.checked.Collector.TheVariants as C
use Rattle.language_model.specs.declared.outs.Output.{Output}
use Rattle.language_model.specs.Evaluation.{tuple_from, tuple_of}
use Rattle.stream_model.specs.Aggregates.{collected, last, least_by}
use Rattle.stream_model.specs.parts.Aggregates.{marker_after}
use Rattle.stream_model.specs.Bodies.{on_first}
use Rattle.stream_model.specs.Groups.{groups}
use Rattle.tuple_groups.specs.Columns.{column, fields_at, tuple_at}
use Rattle.tuple_groups.proofs.Attributes.{as_many}
use Rattle.tuple_groups.proofs.Gathered.{one_group}
use Rattle.running_folds.specs.Folds.{AreRows, answers, answers_from}
use Rattle.running_folds.proofs.Columns.{column_length}
use Rattle.window_policy.specs.Running.{arguments_of, rows_of}
use Rattle.aggregate_op.specs.declared.clauses.Clauses.{Clauses}
use Rattle.aggregate_op.specs.Kept.{folds_of}
use Rattle.aggregate_op.specs.steps.Giving.{content_given, contents_given, groups_given}
use Rattle.aggregate_op.specs.steps.Summing.{answers_given, fields_of, sums_given, tuple_with}
use Rattle.aggregate_op.proofs.FullContents.{IsFull}

-- what a fold makes of some values is something
least_there : (before : Value → Value → Bool) (v : Value) (vs : List Value) → (w : Value) × (least_by before (v ∷ vs) ≡ Some w)
least_there before v vs = (_, refl)

last_there : (v : Value) (vs : List Value) → (w : Value) × (last (v ∷ vs) ≡ Some w)
last_there v [] = (v, refl)
last_there v (u ∷ vs) = last_there u vs

made_there : (fold : Collector) (m : ℕ) (vs : List Value) → 0 < length vs → (w : Value) × (collected fold m vs ≡ Some w)
made_there fold m [] some = absurd (omega (arith, some))
made_there (C.Sum kind) m (v ∷ vs) some = (_, refl)
made_there C.Min m (v ∷ vs) some = (_, refl)
made_there C.Max m (v ∷ vs) some = (_, refl)
made_there C.First m (v ∷ vs) some = (v, refl)
made_there C.Last m (v ∷ vs) some = last_there v vs
made_there C.Count m (v ∷ vs) some = (_, refl)

get_drop : (xs : List Value) (n k : ℕ) → slice_get (drop n xs) k ≡ slice_get xs (n + k)
get_drop xs zero k = let same : 0 + k ≡ k = omega arith in ap (slice_get xs) (sym same)
get_drop [] (suc n) k = refl
get_drop (x ∷ xs) (suc n) k = let same : suc n + k ≡ suc (n + k) = omega arith in get_drop xs n k ∙ ap (slice_get (x ∷ xs)) (sym same)

module _ (width m : ℕ) where
  abbrev Long : List Value → Type 0
  Long u = length u ≡ width + m

  -- the values of an argument stand after those of the tuple
  columns_are : (us : List (List Value)) → AllByRecursion Long us → (k : ℕ) → column (width + k) us ≡ column k (rows_of m us)
  columns_are [] all k = refl
  columns_are (u ∷ us) all k =
      let long = all.0 in
      let front : length u - m ≡ width = omega (arith, long) in
      let value : slice_get u (width + k) ≡ slice_get (arguments_of m u) k = ap (λ n. slice_get u (n + k)) (sym front) ∙ sym (get_drop u (length u - m) k) in
      λ i. cons_option (value i) (columns_are us all.1 k i)

  rows_long : (us : List (List Value)) → AllByRecursion Long us → AreRows m (rows_of m us)
  rows_long [] all = tt
  rows_long (u ∷ us) all = (let long = all.0 in let cut = length-drop (length u - m) u in omega (arith, long, cut), rows_long us all.1)

  module _ (us : List (List Value)) (full : IsFull (width + m) us) where
    abbrev rows : List (List Value)
    rows = rows_of m us

    rows_many : length rows ≡ length us
    rows_many = map_length (arguments_of m) us

    -- the fields are those of the answers
    fields_are : (k p : ℕ) (xs : List CollectedAttribute) → p ≡ width + k → k + length xs ≡ m
        → fields_at p xs us ≡ Some (fields_of xs (answers_from k (folds_of xs) rows))
    fields_are k p [] at few = refl
    fields_are k p (x ∷ xs) at few =
        let within : k < m = omega (arith, few) in
        let long = column_length m k rows within (rows_long us full.0) in
        let some : 0 < length (column k rows) = let none = full.1 in some_of (length us) (long ∙ rows_many) none in
        let made = made_there x.collector (length us) (column k rows) some in
        let here : collected x.collector (length us) (column p us) ≡ Some made.0 =
        ap (λ n. collected x.collector (length us) (column n us)) at ∙ ap (collected x.collector (length us)) (columns_are us full.0 k) ∙ made.1 in
        let there : collected x.collector (length rows) (column k rows) ≡ Some made.0 = ap (λ n. collected x.collector n (column k rows)) rows_many ∙ made.1 in
        let rest = fields_are (k + 1) (p + 1) xs (omega (arith, at)) (omega (arith, few)) in
        (λ i. option_and_then (λ v. option_map (λ fs. (x.attribute, v) ∷ fs) (rest i)) (here i))
        ∙ ap (λ o. Some (fields_of (x ∷ xs) (option_to_list o ++ answers_from (k + 1) (folds_of xs) rows))) (sym there)
      where
        some_of : (n : ℕ) → length (column k rows) ≡ n → (n ≡ 0 → ⊥) → 0 < length (column k rows)
        some_of zero e none = absurd (none refl)
        some_of (suc n) e none = omega (arith, e)

module _ (clauses : Clauses) (together : clauses.group.now ≡ []) where
  abbrev many : ℕ
  many = length clauses.output.now

  abbrev Full : List (List Value) → Type 0
  Full = IsFull (clauses.width + many)

  -- what the folds make of a content
  abbrev pub answers_of : List (List Value) → List Value
  answers_of us = answers (folds_of clauses.output.now) (rows_of (length (folds_of clauses.output.now)) us)

  tuple_is : (us : List (List Value)) → Full us → tuple_at clauses.width clauses.output.now us ≡ tuple_with clauses.output.now (answers_of us)
  tuple_is us full =
      let folds : length (folds_of clauses.output.now) ≡ many = map_length (λ (x : CollectedAttribute). x.collector) clauses.output.now in
      let are : fields_at clauses.width clauses.output.now us ≡ Some (fields_of clauses.output.now (answers_of us)) =
      fields_are clauses.width many us full 0 clauses.width clauses.output.now (omega arith) (omega arith)
      ∙ ap (λ n. Some (fields_of clauses.output.now (answers (folds_of clauses.output.now) (rows_of n us)))) (sym folds) in
      ap (option_and_then tuple_of) are
      ∙ ap (λ n. tuple_from 0 n (fields_of clauses.output.now (answers_of us))) (as_many us clauses.width clauses.output.now (fields_of clauses.output.now (answers_of us)) are)

  with_marker : (o : Option (List Value)) (marker : List Output)
      → option_map (λ outs. outs ++ marker) (option_and_then (λ t. option_map (λ outs. on_first (I.Tuple t) ++ outs) (Some [])) o) ≡ option_map (λ t. on_first (I.Tuple t) ++ marker) o
  with_marker None marker = refl
  with_marker (Some t) marker = ap (λ os. Some (os ++ marker)) (append-nil (on_first (I.Tuple t)))

  content_is : (us : List (List Value)) → Full us → content_given clauses us ≡ answers_given clauses (answers_of us)
  content_is us full =
      ap (λ gs. option_map (λ outs. outs ++ marker_after clauses.window.now.rule) (groups_given clauses gs)) (ap (λ places. groups places us) together ∙ one_group us full.1)
      ∙ with_marker (tuple_at clauses.width clauses.output.now us) (marker_after clauses.window.now.rule)
      ∙ ap (option_map (λ t. on_first (I.Tuple t) ++ marker_after clauses.window.now.rule)) (tuple_is us full)

  pub contents_are : (cs : List (List (List Value))) → AllByRecursion Full cs → contents_given clauses cs ≡ sums_given clauses (map answers_of cs)
  contents_are [] all = refl
  contents_are (us ∷ cs) all = λ i. option_and_then (λ outs. option_map (λ more. outs ++ more) (contents_are cs all.1 i)) (content_is us all.0 i)

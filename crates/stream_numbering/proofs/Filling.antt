-- The table that is filled from the last body to the first has the stream of each name.
use Rattle.std.specs.Prelude.{◌≡◌, ◌<◌, ◌≤◌, ◌⊎◌, ℕ, zero, suc, List, [], ◌∷◌, map, length, replicate, Option, Some, None, slice_get, slice_set}
use Rattle.std.specs.Option.{option_and_then, option_map, option_map_or}
use Rattle.std.proofs.Common.{refl, ap, sym, ◌∙◌, subst, arith, inl, inr}
use Rattle.std.proofs.lemmas.Bool.{cases_lt}
use Rattle.std.proofs.lemmas.List.{length-replicate, length-set}
use Rattle.std.proofs.lemmas.Option.{slice_get-map, slice_get_past}
use Rattle.spl_tree.specs.declared.unit.Definition.{Definition}
use Rattle.language_model.specs.declared.expansion.Source.{Source}
use Rattle.language_model.specs.Expansion.{Inlined, Made, source}
use Rattle.language_model.specs.Numbering.{site_at, operator_or_expansion, stream_of}
use Rattle.language_model.specs.parts.Numbering.{graph_outputs}
use Rattle.language_model.proofs.parts.Numbering.{operator_at}
use Rattle.composite_tables.specs.declared.made.Body.{Body}
use Rattle.composite_tables.specs.Inputs.{Shows, AreNested}
use Rattle.stream_numbering.specs.steps.SiteTable.{Parts, parts_of, stream_there, row_of, row_at, filled, table_of}
use Rattle.stream_numbering.specs.steps.StreamTable.{Table, stream_in}
use Rattle.stream_numbering.proofs.Outputs.{and_then_same, followed_inputs, followed_same, stream_law}
use Rattle.stream_numbering.proofs.SiteTables.{composite_is, there_is}
use Rattle.spl_value.proofs.Lists.{get_set_same as slice_get-set_same}

-- ---- rows

slice_get-set_other : {A : Type 0} (xs : List A) (k j : ℕ) (x : A) → k < j → slice_get (slice_set xs k x) j ≡ slice_get xs j
slice_get-set_other [] k j x h = refl
slice_get-set_other (y ∷ ys) k zero x h = absurd (omega arith)
slice_get-set_other (y ∷ ys) zero (suc j) x h = refl
slice_get-set_other (y ∷ ys) (suc k) (suc j) x h = slice_get-set_other ys k j x (omega arith)

abbrev pub at_place : List (Option ℕ) → ℕ → Option ℕ
at_place row place = option_and_then (λ s. s) (slice_get row place)

at_place-map : {A : Type 0} (f : A → Option ℕ) (xs : List A) (place : ℕ) → at_place (map f xs) place ≡ option_and_then f (slice_get xs place)
at_place-map f xs place = ap (option_and_then (λ s. s)) (slice_get-map f xs place) ∙ joined (slice_get xs place)
  where
    joined : (o : Option _) → option_and_then (λ s. s) (option_map f o) ≡ option_and_then f o
    joined None = refl
    joined (Some x) = refl

module _ (unit : List Definition) (bodies : List Body) (made : Made) (shows : Shows unit bodies made.expansions) (nested : AreNested made.expansions) where
  abbrev parts : Parts
  parts = parts_of unit bodies made.ops

  abbrev stands_for : Source → Option ℕ
  stands_for = stream_of (length made.expansions) made

  row_is : (table : Table) (number place : ℕ) → at_place (row_at parts table number) place ≡ followed_inputs (stream_in table) made (source number place)
  row_is table number place = ap (λ c. at_place (option_map_or (row_of parts table number) c []) place) (composite_is unit bodies made shows number) ∙ by (slice_get made.expansions number)
    where
      by : (o : Option Inlined) → at_place (option_map_or (row_of parts table number) (option_map (λ x. x.composite.what) o) []) place
          ≡ option_and_then (λ e. option_and_then
          (λ o. operator_or_expansion (stream_in table) made (site_at number o) o.output (operator_at made (site_at number o)))
          (slice_get (graph_outputs e.composite.what) place)) o
      by None = refl
      by (Some x) =
          at_place-map (λ o. stream_there parts table (site_at number o) o.output) (graph_outputs x.composite.what) place
          ∙ and_then_same _ _ (slice_get (graph_outputs x.composite.what) place) (λ o here. there_is unit bodies made shows table (site_at number o) o.output)

  -- a table that has the streams of all bodies from a number on
  abbrev HasFrom : ℕ → Table → Type 0
  HasFrom number table = (k place : ℕ) → number ≤ k → stream_in table (source k place) ≡ stands_for (source k place)

  one_more : (number : ℕ) (table : Table) → number < length table → HasFrom (suc number) table → HasFrom number (slice_set table number (row_at parts table number))
  one_more number table within has k place from = by (cases_lt number k)
    where
      by : (number < k) ⊎ (k ≤ number) → stream_in (slice_set table number (row_at parts table number)) (source k place) ≡ stands_for (source k place)
      by (inr below) =
          let here : number ≡ k = omega arith in
          subst (λ (k : ℕ). stream_in (slice_set table number (row_at parts table number)) (source k place) ≡ stands_for (source k place)) here (
          ap (option_and_then (λ row. at_place row place)) (slice_get-set_same table number (row_at parts table number) within)
          ∙ row_is table number place
          ∙ followed_same made nested (stream_in table) stands_for number (λ m p lt. has m p (omega arith)) place
          ∙ sym (stream_law made nested (source number place))
          )
      by (inl behind) =
          ap (option_and_then (λ row. at_place row place)) (slice_get-set_other table number k (row_at parts table number) behind) ∙ has k place (omega arith)

  filled_has : (number : ℕ) (table : Table) → number ≤ length table → HasFrom number table → HasFrom 0 (filled parts number table)
  filled_has zero table h has = has
  filled_has (suc number) table h has =
      let more = slice_set table number (row_at parts table number) in
      let long : length more ≡ length table = length-set table number (row_at parts table number) in
      filled_has number more (omega (arith, long)) (one_more number table (omega arith) has)

  pub table_has : (x : Source) → stream_in (table_of parts) x ≡ stands_for x
  table_has x =
      let rows : Table = replicate (length bodies) [] in
      let long : length rows ≡ length bodies = length-replicate (length bodies) [] in
      filled_has (length bodies) rows (omega (arith, long)) (λ k place from.
      let past : length rows ≤ k = omega (arith, long) in
      let behind : length made.expansions ≤ k = subst (λ (n : ℕ). n ≤ k) shows.count from in
      ap (option_and_then (λ row. at_place row place)) (slice_get_past rows k past)
      ∙ sym (
      stream_law made nested (source k place)
      ∙ ap (option_and_then (λ e. option_and_then
      (λ o. operator_or_expansion stands_for made (site_at k o) o.output (operator_at made (site_at k o)))
      (slice_get (graph_outputs e.composite.what) place))) (slice_get_past made.expansions k behind)
      )) x.expansion x.place (omega arith)

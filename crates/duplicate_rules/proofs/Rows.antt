-- Rows that are gone through item by item.
use Rattle.std.specs.Prelude.{◌≡◌, ℕ, ◌+◌, ◌<◌, ◌≤◌, List, length, drop, flat_map, Option}
use Rattle.std.proofs.Common.{sym, ap, ◌∙◌, get_or}
use Rattle.std.proofs.lemmas.List.{drop_all}
use Rattle.language_model.specs.Declarations.{Name, Sets}
use Rattle.duplicate_rules.specs.steps.Earliest.{earliest_in}
use Rattle.duplicate_rules.proofs.Best.{earliest_in-append}
use Rattle.spl_value.proofs.Lists.{drop_at as rest_at}

-- ---- the best of the sets within a row

module _ {A : Type 0} (sets : A → Sets) (xs : List A) (i : ℕ) (found : Option Name) where
  pub row_past : length xs ≤ i → earliest_in found (flat_map sets (drop i xs)) ≡ found
  row_past h = ap (λ r. earliest_in found (flat_map sets r)) (drop_all i xs h)

  pub row_on : (x : A) → i < length xs → x ≡ get_or xs i x → (next : Option Name) → next ≡ earliest_in found (sets x)
      → earliest_in found (flat_map sets (drop i xs)) ≡ earliest_in next (flat_map sets (drop (i + 1) xs))
  row_on x h e next n =
      ap (λ r. earliest_in found (flat_map sets r)) (rest_at xs i x h e)
      ∙ earliest_in-append found (sets x) (flat_map sets (drop (i + 1) xs))
      ∙ ap (λ o. earliest_in o (flat_map sets (drop (i + 1) xs))) (sym n)

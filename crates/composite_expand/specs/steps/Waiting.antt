-- Operators that have no place in an order, since they wait for themselves or for such.
use Rattle.std.specs.Prelude.{◌≡◌, ℕ, List, length, Option, Some, None, slice_get}
use Rattle.spl_tree.specs.declared.expression.Placed.{Placed}
use Rattle.language_model.specs.Taking.{first_untaken}

-- the first of them, by the labels of all operators
abbrev pub IsFirstWaiting : List (Placed (List ℕ)) → List ℕ → Option (Placed (List ℕ)) → Type 0
IsFirstWaiting labels order None = first_untaken order 0 (length labels) ≡ None
IsFirstWaiting labels order (Some name) = (op : ℕ) × (first_untaken order 0 (length labels) ≡ Some op) × (slice_get labels op ≡ Some name)

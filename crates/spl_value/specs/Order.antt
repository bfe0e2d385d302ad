-- The order of values: integers by number, false before true, texts by bytes, lists, maps and tuples
-- in dictionary order, and different variants in the order of the enum.
use Rattle.std.specs.Prelude.{ℕ}
use Rattle.std.specs.declared.cmp.Ordering.{Ordering}
use Rattle.std.specs.Ordering.{int_cmp, bool_cmp, nat_cmp, ordering_then}
use Rattle.std.specs.Cmp.Lexicographic.{slice_cmp}
use Rattle.spl_value.specs.declared.value.Value.{Value}
use Rattle.spl_value.specs.declared.value.Value.TheOpen as O
use Rattle.spl_value.specs.declared.value.Value.TheOpen.{Value-F}
use Rattle.spl_value.specs.declared.value.Value.TheViews.{out-Value}
use Rattle.spl_value.specs.declared.value.Value.TheFolds.{fold-Value}

-- the place of a variant in the enum
abbrev pub rank : {A : Type 0} → Value-F A → ℕ
rank (O.Int n) = 0
rank (O.Bool b) = 1
rank (O.Text bytes) = 2
rank (O.List vs) = 3
rank (O.Map ps) = 4
rank (O.Tuple vs) = 5

-- the keys decide, and where they are equal the values
abbrev pub pair_cmp : {A B : Type 0} → (A → B → Ordering) → A × A → B × B → Ordering
pair_cmp R p q = ordering_then (R p.0 q.0) (R p.1 q.1)

-- two values whose parts R compares
abbrev pub level_cmp : {A B : Type 0} → (A → B → Ordering) → Value-F A → Value-F B → Ordering
level_cmp R (O.Int n) (O.Int m) = int_cmp n m
level_cmp R (O.Bool b) (O.Bool c) = bool_cmp b c
level_cmp R (O.Text xs) (O.Text ys) = slice_cmp nat_cmp xs ys
level_cmp R (O.List vs) (O.List ws) = slice_cmp R vs ws
level_cmp R (O.Map ps) (O.Map qs) = slice_cmp (pair_cmp R) ps qs
level_cmp R (O.Tuple vs) (O.Tuple ws) = slice_cmp R vs ws
level_cmp R x y = nat_cmp (rank x) (rank y)

abbrev pub value_cmp : Value → Value → Ordering
value_cmp = fold-Value (Value → Ordering) (λ x w. level_cmp (λ f u. f u) x (out-Value w))

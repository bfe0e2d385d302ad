-- Kinds of operators, by their clauses.
use Rattle.std.specs.Prelude.{Bool, true, false}
use Rattle.language_model.specs.declared.checked.CheckedClauses.{CheckedClauses}
use Rattle.language_model.specs.declared.checked.CheckedClauses.TheVariants as A

abbrev pub is_aggregate : CheckedClauses → Bool
is_aggregate (A.Aggregate window partition group output) = true
is_aggregate _ = false

abbrev pub is_join : CheckedClauses → Bool
is_join (A.Join left right condition output) = true
is_join _ = false

-- those that look at the item alone
abbrev pub is_simple : CheckedClauses → Bool
is_simple (A.Custom handlers) = false
is_simple (A.Aggregate window partition group output) = false
is_simple (A.Join left right condition output) = false
is_simple _ = true

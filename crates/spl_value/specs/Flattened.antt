-- The items of a list that is cut into segments.
use Rattle.std.specs.Prelude.{List, flat_map}

-- the items of all segments, in their order
abbrev pub flattened : {A : Type 0} → List (List A) → List A
flattened = flat_map (λ xs. xs)

-- How large the code of a parameter's value is: how many codes it is made of, and how deep they nest in one another.
use Rattle.std.specs.Prelude.{ℕ, ◌+◌, max, List, [], ◌∷◌, map}
use Rattle.spl_tree.specs.declared.code.Code.{Code}
use Rattle.spl_tree.specs.declared.code.Code.TheOpen as C
use Rattle.spl_tree.specs.declared.code.Code.TheOpen.{Code-F}
use Rattle.spl_tree.specs.declared.code.Code.TheFolds.{fold-Code}
use Rattle.spl_tree.specs.declared.code.Selector.{Selector}
use Rattle.spl_tree.specs.declared.code.Selector.TheVariants as K
use Rattle.spl_tree.specs.declared.code.Slot.{Slot}

-- the keys and values of entries
abbrev pub entry_codes : {A : Type 0} → List (A × A) → List A
entry_codes [] = []
entry_codes (e ∷ es) = e.0 ∷ e.1 ∷ entry_codes es

-- the values of fields
abbrev pub field_codes : {A : Type 0} → List (ℕ × A) → List A
field_codes [] = []
field_codes (f ∷ fs) = f.1 ∷ field_codes fs

-- the indexes and keys of selectors
abbrev pub selector_codes : {A : Type 0} → List (Selector A) → List A
selector_codes [] = []
selector_codes (K.Member place ∷ ss) = selector_codes ss
selector_codes (K.Element x ∷ ss) = x ∷ selector_codes ss
selector_codes (K.AtKey x ∷ ss) = x ∷ selector_codes ss

-- the codes that stand directly in a code, in the order of the text
abbrev pub inner : {A : Type 0} → Code-F Slot A → List A
inner (C.List xs) = xs
inner (C.Map es) = entry_codes es
inner (C.Tuple fs) = field_codes fs
inner (C.Select x ss) = x ∷ selector_codes ss
inner (C.Unary ops x) = x ∷ []
inner (C.Binary op x y) = x ∷ y ∷ []
inner (C.Conditional c x y) = c ∷ x ∷ y ∷ []
inner (C.BuiltIn call xs) = xs
inner (C.Call place xs) = xs
inner _ = []

abbrev pub total : List ℕ → ℕ
total [] = 0
total (n ∷ ns) = n + total ns

-- 0 where there are none
abbrev pub greatest : List ℕ → ℕ
greatest [] = 0
greatest (n ∷ ns) = max n (greatest ns)

abbrev pub level_parts : Code-F Slot ℕ → ℕ
level_parts x = 1 + total (inner x)

-- how many codes a code is made of, itself included
abbrev pub parts : Code Slot → ℕ
parts = fold-Code Slot ℕ level_parts

abbrev pub level_depth : Code-F Slot ℕ → ℕ
level_depth x = 1 + greatest (inner x)

-- how many codes nest in one another at most, itself included
abbrev pub depth : Code Slot → ℕ
depth = fold-Code Slot ℕ level_depth

abbrev pub parts_in : List (Code Slot) → ℕ
parts_in codes = total (map parts codes)

abbrev pub depth_in : List (Code Slot) → ℕ
depth_in codes = greatest (map depth codes)

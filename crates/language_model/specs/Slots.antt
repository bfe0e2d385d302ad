-- The names that codes and statements have in them, in the order of the text.
use Rattle.std.specs.Prelude.{List, [], ◌∷◌, ◌++◌, Option, None, Some}
use Rattle.std.specs.List.{flat_map}
use Rattle.spl_value.specs.Flattened.{flattened}
use Rattle.spl_tree.specs.declared.body.Change.{Change}
use Rattle.spl_tree.specs.declared.body.Change.TheVariants as H
use Rattle.spl_tree.specs.declared.body.Place.{Place}
use Rattle.spl_tree.specs.declared.body.Statement.{Statement}
use Rattle.spl_tree.specs.declared.body.Statement.TheOpen as S
use Rattle.spl_tree.specs.declared.body.Statement.TheOpen.{Statement-F}
use Rattle.spl_tree.specs.declared.body.Statement.TheFolds.{fold-Statement}
use Rattle.spl_tree.specs.declared.code.Code.{Code}
use Rattle.spl_tree.specs.declared.code.Code.TheOpen as C
use Rattle.spl_tree.specs.declared.code.Code.TheOpen.{Code-F}
use Rattle.spl_tree.specs.declared.code.Code.TheFolds.{fold-Code}
use Rattle.spl_tree.specs.declared.code.Slot.{Slot}
use Rattle.spl_tree.specs.declared.code.Slot.TheVariants as L
use Rattle.spl_tree.specs.declared.code.Selector.{Selector}
use Rattle.spl_tree.specs.declared.code.Selector.TheVariants as K

-- ---- codes

-- those of the index or key that a step has
abbrev pub names_in_taking : {A B : Type 0} → (B → List A) → Selector B → List A
names_in_taking names (K.Member i) = []
names_in_taking names (K.Element x) = names x
names_in_taking names (K.AtKey x) = names x

abbrev pub level_names : {N : Type 0} → Code-F N (List N) → List N
level_names (C.Literal v) = []
level_names (C.Name n) = n ∷ []
level_names (C.List xs) = flattened xs
level_names (C.Map ps) = flat_map (λ p. p.0 ++ p.1) ps
level_names (C.Tuple fs) = flat_map (λ f. f.1) fs
level_names (C.Select x ts) = x ++ flat_map (names_in_taking (λ xs. xs)) ts
level_names (C.Unary ops x) = x
level_names (C.Binary op x y) = x ++ y
level_names (C.Conditional c x y) = c ++ x ++ y
level_names (C.BuiltIn call xs) = flattened xs
level_names (C.Call i xs) = flattened xs
level_names (C.IsMarker m) = []
level_names (C.IsNotMarker m) = []

abbrev pub names_of : {N : Type 0} → Code N → List N
names_of {N} = fold-Code N (List N) level_names

-- ---- statements

abbrev pub place_slots : Place → List Slot
place_slots place = L.Variable place.variable ∷ flat_map (names_in_taking names_of) place.takings

abbrev pub change_slots : Change (Code Slot) → List Slot
change_slots (H.Put code) = names_of code
change_slots (H.Append code) = names_of code
change_slots (H.Remove code) = names_of code
change_slots H.Clear = []

abbrev pub returned_slots : Option (Code Slot) → List Slot
returned_slots None = []
returned_slots (Some code) = names_of code

abbrev pub level_slots : Statement-F (List Slot) → List Slot
level_slots (S.Block row) = flattened row
level_slots (S.Declare code) = names_of code
level_slots (S.Change place change) = place_slots place ++ change_slots change
level_slots (S.Evaluate code) = names_of code
level_slots (S.Call i codes) = flat_map names_of codes
level_slots (S.If arms other) = flat_map (λ arm. names_of arm.0 ++ flattened arm.1) arms ++ flattened other
level_slots (S.While code row) = names_of code ++ flattened row
level_slots (S.For code row) = names_of code ++ flattened row
level_slots S.Break = []
level_slots S.Continue = []
level_slots (S.Return code) = returned_slots code
level_slots (S.Submit port code) = names_of code
level_slots (S.SubmitWindow port) = []

abbrev pub statement_slots : Statement → List Slot
statement_slots = fold-Statement (List Slot) level_slots

abbrev pub row_slots : List Statement → List Slot
row_slots row = flat_map statement_slots row

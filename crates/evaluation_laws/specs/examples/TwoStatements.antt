-- A declaration and a choice with a change in it, for examples.
use Rattle.std.specs.Prelude.{List, [], ◌∷◌}
use Rattle.spl_tree.specs.declared.body.Change.TheVariants as H
use Rattle.spl_tree.specs.declared.body.Statement.{Statement}
use Rattle.spl_tree.specs.declared.body.Statement.TheVariants as T
use Rattle.spl_tree.specs.declared.code.Code.TheVariants as C
use Rattle.spl_tree.specs.declared.code.Slot.TheVariants as L
use Rattle.spl_tree.specs.declared.code.Selector.TheVariants as K

-- the value of a variable is appended to what another holds at a key
abbrev pub appends : Statement
appends = T.Change (record { variable = 2; takings = K.AtKey (C.Name (L.Attribute 0 1)) ∷ [] }) (H.Append (C.Name (L.Variable 3)))

abbrev pub two_statements : List Statement
two_statements = T.Declare (C.Name (L.Port 0)) ∷ T.If ((C.Name (L.Variable 1), appends ∷ []) ∷ []) (T.SubmitWindow 0 ∷ []) ∷ []

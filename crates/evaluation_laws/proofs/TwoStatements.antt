-- The slots of the two statements.
use Rattle.std.specs.Prelude.{◌≡◌, List, [], ◌∷◌, ◌++◌}
use Rattle.std.proofs.Common.{ap, ap₂, ◌∙◌}
use Rattle.spl_tree.specs.declared.body.Change.TheVariants as H
use Rattle.spl_tree.specs.declared.body.Place.{Place}
use Rattle.spl_tree.specs.declared.body.Statement.TheVariants as T
use Rattle.spl_tree.specs.declared.code.Code.TheVariants as C
use Rattle.spl_tree.specs.declared.code.Slot.{Slot}
use Rattle.spl_tree.specs.declared.code.Slot.TheVariants as L
use Rattle.spl_tree.specs.declared.code.Selector.TheVariants as K
use Rattle.language_model.specs.Slots.{names_of, statement_slots, row_slots}
use Rattle.evaluation_laws.specs.examples.TwoStatements.{appends, two_statements}
use Rattle.evaluation_laws.proofs.NamedSlots.{declare_slots, changed_slots, if_slots, submit_window_slots}
use Rattle.evaluation_laws.proofs.NamesInCodes.{name_names}

named : (slot : Slot) → names_of (C.Name slot) ≡ slot ∷ []
named slot = name_names slot

changes : statement_slots appends ≡ L.Variable 2 ∷ L.Attribute 0 1 ∷ L.Variable 3 ∷ []
changes =
    let place : Place = record { variable = 2; takings = K.AtKey (C.Name (L.Attribute 0 1)) ∷ [] } in
    changed_slots place (H.Append (C.Name (L.Variable 3)))
    ∙ ap₂ (λ (xs ys : List Slot). (L.Variable 2 ∷ (xs ++ [])) ++ ys) (named (L.Attribute 0 1)) (named (L.Variable 3))

choice : statement_slots (T.If ((C.Name (L.Variable 1), appends ∷ []) ∷ []) (T.SubmitWindow 0 ∷ [])) ≡ L.Variable 1 ∷ L.Variable 2 ∷ L.Attribute 0 1 ∷ L.Variable 3 ∷ []
choice =
    if_slots ((C.Name (L.Variable 1), appends ∷ []) ∷ []) (T.SubmitWindow 0 ∷ [])
    ∙ ap₂ (λ (xs ys : List Slot). ((xs ++ (ys ++ [])) ++ []) ++ (statement_slots (T.SubmitWindow 0) ++ [])) (named (L.Variable 1)) changes
    ∙ ap (λ (zs : List Slot). (L.Variable 1 ∷ L.Variable 2 ∷ L.Attribute 0 1 ∷ L.Variable 3 ∷ []) ++ (zs ++ [])) (submit_window_slots 0)

pub slots_of_two : row_slots two_statements ≡ L.Port 0 ∷ L.Variable 1 ∷ L.Variable 2 ∷ L.Attribute 0 1 ∷ L.Variable 3 ∷ []
slots_of_two = ap₂ (λ (xs ys : List Slot). xs ++ (ys ++ [])) (declare_slots (C.Name (L.Port 0)) ∙ named (L.Port 0)) choice

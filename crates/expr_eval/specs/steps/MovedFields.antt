-- A tuple to which attributes are still to be moved.
use Rattle.std.specs.Prelude.{◌≡◌, ◌≤◌, ℕ, List, length, slice_get, Option, Some, Result, Ok, Err}
use Rattle.spl_value.specs.declared.value.Value.{Value}
use Rattle.spl_tree.specs.declared.code.Code.{Code}
use Rattle.spl_tree.specs.declared.code.Slot.{Slot}
use Rattle.language_model.specs.Outcomes.{Outcome, Done}
use Rattle.value_operations.specs.Answers.{StopsAs}
use Rattle.value_operations.specs.declared.stop.Stop.{Stop}

-- to a place of the tuple an attribute is moved, by a field from a number on
pub record IsMovedTo (fields : List (ℕ × Code Slot)) (moves : List (Option ℕ)) (from place : ℕ) : Type 0 where
  pub at : ℕ
  pub behind : from ≤ at
  pub attribute : ℕ
  pub moved : slice_get moves at ≡ Some (Some attribute)
  pub code : Code Slot
  pub field : slice_get fields at ≡ Some (place, code)

-- values are those of a tuple, but at places to which fields from a number on move attributes
pub record AreBut (fields : List (ℕ × Code Slot)) (moves : List (Option ℕ)) (from : ℕ) (values tuple : List Value) : Type 0 where
  pub long : length values ≡ length tuple
  pub others : (place : ℕ) → (IsMovedTo fields moves from place → ⊥) → slice_get values place ≡ slice_get tuple place

-- an evaluation to a tuple is answered by such values, or it stopped with the evaluation's fault
abbrev pub AnswersBut : List (ℕ × Code Slot) → List (Option ℕ) → Outcome (List Value) → Result (List Value) Stop → ℕ → Type 0
AnswersBut fields moves outcome (Ok values) turns = (tuple : List Value) × (outcome ≡ Done tuple turns) × AreBut fields moves 0 values tuple
AnswersBut fields moves outcome (Err stop) turns = StopsAs outcome stop

-- each attribute that is moved is that of one tuple, and goes to its place in the other
abbrev pub GoTo : List (ℕ × Code Slot) → List (Option ℕ) → List Value → List Value → Type 0
GoTo fields moves came tuple =
    (i a : ℕ) (f : ℕ × Code Slot) → slice_get moves i ≡ Some (Some a) → slice_get fields i ≡ Some f
    → (v : Value) × (slice_get came a ≡ Some v) × (slice_get tuple f.0 ≡ Some v)

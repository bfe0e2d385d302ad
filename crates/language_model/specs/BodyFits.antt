-- Which statements fit a scope: each expression in one fits, each place is mutable, and `break`, `continue`, `return`
-- and `submit` stand where they may. Each constructor is a rule of the language. Statements that fit are never stuck;
-- that a function with a result returns one is a condition of its own.
use Rattle.std.specs.Prelude.{◌≡◌, ℕ, Bool, true, false, IsTrue, List, [], ◌∷◌, ◌++◌, slice_get, Option, None, Some}
use Rattle.spl_value.specs.declared.types.Named.{Named}
use Rattle.spl_value.specs.declared.types.SplType.{SplType}
use Rattle.spl_value.specs.declared.types.SplType.TheVariants as S
use Rattle.spl_tree.specs.declared.body.Change.{Change}
use Rattle.spl_tree.specs.declared.body.Change.TheVariants as H
use Rattle.spl_tree.specs.declared.body.Place.{Place}
use Rattle.spl_tree.specs.declared.body.Statement.{Statement}
use Rattle.spl_tree.specs.declared.body.Statement.TheVariants as T
use Rattle.spl_tree.specs.declared.code.BuiltIn.{BuiltIn}
use Rattle.spl_tree.specs.declared.code.Code.{Code}
use Rattle.spl_tree.specs.declared.code.Code.TheVariants as C
use Rattle.spl_tree.specs.declared.code.Slot.{Slot}
use Rattle.language_model.specs.declared.scope.Scope.{Scope}
use Rattle.language_model.specs.declared.scope.Signature.{Signature}
use Rattle.language_model.specs.declared.scope.Variable.{Variable}
use Rattle.language_model.specs.CodeFits.{CodeFits, ArgumentsFit, StepsLead}
use Rattle.language_model.specs.Scopes.{at_place, variable_of}

-- what a body is that of: a function, with the type of its result where it has one, or a handler, with the attributes
-- of the output ports to which it may submit
pub data Purpose : Type 0 where
  OfFunction : Option SplType → Purpose
  OfHandler : List (List (Named SplType)) → Purpose

abbrev pub result_of : Purpose → Option SplType
result_of (OfFunction result) = result
result_of (OfHandler outputs) = None

abbrev pub outputs_of : Purpose → List (List (Named SplType))
outputs_of (OfFunction result) = []
outputs_of (OfHandler outputs) = outputs

abbrev pub with_variable : Scope → Variable → Scope
with_variable scope v = record scope { vars = scope.vars ++ v ∷ [] }

-- a place of the type, in a variable that can be named and may be changed
pub data PlaceFits (scope : Scope) : Place → SplType → Type 0 where
  in_variable : (place : Place) (v : Variable) (t : SplType) → slice_get scope.vars place.variable ≡ Some v
      → variable_of scope v.name ≡ Some (at_place place.variable v)
      → IsTrue v.mutable → StepsLead scope place.takings v.kind t → PlaceFits scope place t

-- a change of a place of the type
pub data ChangeFits (scope : Scope) : Change (Code Slot) → SplType → Type 0 where
  puts : (x : Code Slot) (t : SplType) → CodeFits scope x t → ChangeFits scope (H.Put x) t
  appends : (x : Code Slot) (t : SplType) → CodeFits scope x t → ChangeFits scope (H.Append x) (S.List t)
  removes : (x : Code Slot) (k t : SplType) → CodeFits scope x k → ChangeFits scope (H.Remove x) (S.Map k t)
  clears_list : (t : SplType) → ChangeFits scope H.Clear (S.List t)
  clears_map : (k t : SplType) → ChangeFits scope H.Clear (S.Map k t)

-- `for` goes over elements of the type
pub data GoesOver : SplType → SplType → Type 0 where
  elements : (t : SplType) → GoesOver (S.List t) t
  keys : (k t : SplType) → GoesOver (S.Map k t) k

-- what is returned is of the type, where there is one, and nothing else
pub data ReturnFits (scope : Scope) : Option (Code Slot) → Option SplType → Type 0 where
  nothing : ReturnFits scope None None
  result : (x : Code Slot) (t : SplType) → CodeFits scope x t → ReturnFits scope (Some x) (Some t)

mutual
  -- a statement fits in a scope and leads to one, which has a variable more where it declares one; inside a loop or not
  pub data StatementFits (purpose : Purpose) : Bool → Scope → Statement → Scope → Type 0 where
    block : (l : Bool) (scope : Scope) (row : List Statement) → RowFits purpose l scope row → StatementFits purpose l scope (T.Block row) scope
    declare : (l : Bool) (scope : Scope) (x : Code Slot) (v : Variable) → CodeFits scope x v.kind
        → StatementFits purpose l scope (T.Declare x) (with_variable scope v)
    change : (l : Bool) (scope : Scope) (place : Place) (change : Change (Code Slot)) (t : SplType) → PlaceFits scope place t → ChangeFits scope change t
        → StatementFits purpose l scope (T.Change place change) scope
    evaluate : (l : Bool) (scope : Scope) (f : BuiltIn) (xs : List (Code Slot)) (t : SplType) → CodeFits scope (C.BuiltIn f xs) t
        → StatementFits purpose l scope (T.Evaluate (C.BuiltIn f xs)) scope
    call : (l : Bool) (scope : Scope) (i : ℕ) (xs : List (Code Slot)) (f : Signature)
        → slice_get scope.functions i ≡ Some f → ArgumentsFit scope xs f.parameters
        → StatementFits purpose l scope (T.Call i xs) scope
    if_else : (l : Bool) (scope : Scope) (arms : List (Code Slot × List Statement)) (other : List Statement) → ArmsFit purpose l scope arms
        → RowFits purpose l scope other → StatementFits purpose l scope (T.If arms other) scope
    while : (l : Bool) (scope : Scope) (x : Code Slot) (row : List Statement) → CodeFits scope x S.Bool → RowFits purpose true scope row
        → StatementFits purpose l scope (T.While x row) scope
    for_each : (l : Bool) (scope : Scope) (x : Code Slot) (row : List Statement) (t : SplType) (v : Variable) → CodeFits scope x t → GoesOver t v.kind
        → v.mutable ≡ false → RowFits purpose true (with_variable scope v) row → StatementFits purpose l scope (T.For x row) scope
    break : (scope : Scope) → StatementFits purpose true scope T.Break scope
    continue : (scope : Scope) → StatementFits purpose true scope T.Continue scope
    return : (l : Bool) (scope : Scope) (x : Option (Code Slot)) → ReturnFits scope x (result_of purpose)
        → StatementFits purpose l scope (T.Return x) scope
    submit : (l : Bool) (scope : Scope) (port : ℕ) (x : Code Slot) (schema : List (Named SplType)) → slice_get (outputs_of purpose) port ≡ Some schema
        → CodeFits scope x (S.Tuple schema) → StatementFits purpose l scope (T.Submit port x) scope
    submit_window : (l : Bool) (scope : Scope) (port : ℕ) (schema : List (Named SplType)) → slice_get (outputs_of purpose) port ≡ Some schema
        → StatementFits purpose l scope (T.SubmitWindow port) scope

  -- each fits in the scope to which those before it lead
  pub data RowFits (purpose : Purpose) : Bool → Scope → List Statement → Type 0 where
    no_statements : (l : Bool) (scope : Scope) → RowFits purpose l scope []
    statement : (l : Bool) (scope next : Scope) (x : Statement) (row : List Statement) → StatementFits purpose l scope x next → RowFits purpose l next row
        → RowFits purpose l scope (x ∷ row)

  pub data ArmsFit (purpose : Purpose) : Bool → Scope → List (Code Slot × List Statement) → Type 0 where
    no_arms : (l : Bool) (scope : Scope) → ArmsFit purpose l scope []
    arm : (l : Bool) (scope : Scope) (x : Code Slot) (row : List Statement) (arms : List (Code Slot × List Statement)) → CodeFits scope x S.Bool
        → RowFits purpose l scope row → ArmsFit purpose l scope arms → ArmsFit purpose l scope ((x, row) ∷ arms)

mutual
  -- the last statement of a row is a `return`, a block that ends with one, or an `if` with `else` all of whose rows do
  pub data RowReturns : List Statement → Type 0 where
    last : (x : Statement) → Returns x → RowReturns (x ∷ [])
    later : (x y : Statement) (row : List Statement) → RowReturns (y ∷ row) → RowReturns (x ∷ y ∷ row)

  pub data Returns : Statement → Type 0 where
    return : (x : Option (Code Slot)) → Returns (T.Return x)
    block : (row : List Statement) → RowReturns row → Returns (T.Block row)
    if_else : (arms : List (Code Slot × List Statement)) (other : List Statement) → ArmsReturn arms → RowReturns other → Returns (T.If arms other)

  pub data ArmsReturn : List (Code Slot × List Statement) → Type 0 where
    no_arms : ArmsReturn []
    arm : (x : Code Slot) (row : List Statement) (arms : List (Code Slot × List Statement)) → RowReturns row
        → ArmsReturn arms → ArmsReturn ((x, row) ∷ arms)

-- What places, assignments and calls as statements are where they have types.
use Rattle.std.specs.Prelude.{◌≡◌, ◌≢◌, ℕ, Bool, true, false, IsTrue, List, [], ◌∷◌, codes, Some, None, Ok}
use Rattle.spl_value.specs.declared.types.SplType.{SplType}
use Rattle.spl_value.specs.declared.types.SplType.TheVariants as S
use Rattle.spl_tree.specs.Trees.{Expr, placed}
use Rattle.spl_tree.specs.declared.body.Change.TheVariants as H
use Rattle.spl_tree.specs.declared.body.Place.{Place}
use Rattle.spl_tree.specs.declared.body.Statement.{Statement}
use Rattle.spl_tree.specs.declared.body.Statement.TheVariants as T
use Rattle.spl_tree.specs.declared.code.BuiltIn.{BuiltIn}
use Rattle.spl_tree.specs.declared.code.Code.{Code}
use Rattle.spl_tree.specs.declared.code.Code.TheVariants as C
use Rattle.spl_tree.specs.declared.code.Slot.{Slot}
use Rattle.spl_tree.specs.declared.code.Slot.TheVariants as L
use Rattle.spl_tree.specs.declared.expression.BinaryOperator.{BinaryOperator}
use Rattle.spl_tree.specs.declared.expression.BinaryOperator.TheVariants as B
use Rattle.spl_tree.specs.declared.expression.ExprKind.TheVariants as X
use Rattle.spl_tree.specs.declared.expression.Step.{Step}
use Rattle.language_model.specs.declared.scope.Scope.{Scope}
use Rattle.language_model.specs.declared.scope.CheckError.TheVariants as N
use Rattle.language_model.specs.declared.scope.Typed.{Typed}
use Rattle.language_model.specs.declared.scope.Variable.{Variable}
use Rattle.language_model.specs.BodyFits.{Purpose, PlaceFits, ChangeFits, StatementFits}
use Rattle.language_model.specs.FitLaws.{DollarsFit}
use Rattle.language_model.specs.Scopes.{At, variable_of}
use Rattle.language_model.specs.Typing.{refused, selected, is_mutable, typed, typing}
use Rattle.language_model.specs.StatementTyping.{TypedPlace, place_typing, assignment_typing, compound_typing, call_typing}

-- the place is one of a variable that may be changed, and fits the scope at its type
abbrev pub PlaceTypeLaw : Type 0
PlaceTypeLaw = (scope : Scope) (e : Expr) (p : TypedPlace) → DollarsFit scope.dollars → place_typing scope e ≡ Ok p → PlaceFits scope p.place p.kind

-- the code that reads a place
abbrev pub read_code : Place → Code Slot
read_code place = selected (C.Name (L.Variable place.variable)) place.takings

-- the place is what the expression reads
abbrev pub PlaceReadsLaw : Type 0
PlaceReadsLaw = (scope : Scope) (e : Expr) (p : TypedPlace) → place_typing scope e ≡ Ok p → typing scope e None ≡ Ok (typed p.kind (read_code p.place))

-- the name of a variable that may be changed is a place, the whole variable
abbrev pub NamePlaceLaw : Type 0
NamePlaceLaw = (scope : Scope) (at : ℕ) (name : List ℕ) (v : At Variable) → variable_of scope name ≡ Some v → IsTrue v.what.mutable
    → place_typing scope (placed at (X.Name name)) ≡ Ok (record { place = record { variable = v.place; takings = [] }; kind = v.what.kind })

-- a place as it is written: a name, or what is taken of one
pub data IsPlace (name : List ℕ) : Expr → Type 0 where
  whole : (at : ℕ) → IsPlace name (placed at (X.Name name))
  taken : (at base : ℕ) (steps : List (Step Expr)) → IsPlace name (placed at (X.Select (placed base (X.Name name)) steps))

-- one that has a type is given where its variable may be changed
abbrev pub PlaceGivenLaw : Type 0
PlaceGivenLaw = (scope : Scope) (name : List ℕ) (e : Expr) (t : Typed) → IsPlace name e → is_mutable scope name ≡ true → typing scope e None ≡ Ok t
    → (place : Place) × (place_typing scope e ≡ Ok (record { place = place; kind = t.kind }))

-- and refused where it may not
abbrev pub PlaceRefusedLaw : Type 0
PlaceRefusedLaw = (scope : Scope) (name : List ℕ) (e : Expr) (t : Typed) → IsPlace name e → is_mutable scope name ≡ false → typing scope e None ≡ Ok t
    → place_typing scope e ≡ refused N.NotMutable e.at None

-- the statement fits, whatever body it stands in
abbrev pub FitsAnywhere : Scope → Statement → Type 0
FitsAnywhere scope x = (purpose : Purpose) (l : Bool) → StatementFits purpose l scope x scope

abbrev pub AssignmentTypeLaw : Type 0
AssignmentTypeLaw = (scope : Scope) (e right : Expr) (x : Statement) → DollarsFit scope.dollars → assignment_typing scope e right ≡ Ok x → FitsAnywhere scope x

abbrev pub CompoundTypeLaw : Type 0
CompoundTypeLaw = (scope : Scope) (op : BinaryOperator) (e right : Expr) (x : Statement) → DollarsFit scope.dollars → compound_typing scope op e right ≡ Ok x → FitsAnywhere scope x

-- `a op b`, which begins where `a` does
abbrev pub written_out : BinaryOperator → Expr → Expr → Expr
written_out op e right = record { at = e.at; what = X.Binary op e right }

-- `a op= b` is `a = a op b`, also where that is refused. There is no `in=`
abbrev pub CompoundLaw : Type 0
CompoundLaw = (scope : Scope) (op : BinaryOperator) (e right : Expr) → op ≢ B.In → compound_typing scope op e right ≡ assignment_typing scope e (written_out op e right)

abbrev pub CallTypeLaw : Type 0
CallTypeLaw = (scope : Scope) (e : Expr) (x : Statement) → DollarsFit scope.dollars → call_typing scope e ≡ Ok x → FitsAnywhere scope x

abbrev pub called : ℕ → List ℕ → List Expr → Expr
called at name es = placed at (X.Call name es)

-- the statement is the call that the code is
pub data IsCallOf : Code Slot → Statement → Type 0 where
  built_in : (f : BuiltIn) (xs : List (Code Slot)) → IsCallOf (C.BuiltIn f xs) (T.Evaluate (C.BuiltIn f xs))
  function : (i : ℕ) (xs : List (Code Slot)) → IsCallOf (C.Call i xs) (T.Call i xs)

-- a call that has a value may stand as a statement
abbrev pub ValueCallLaw : Type 0
ValueCallLaw = (scope : Scope) (at : ℕ) (name : List ℕ) (es : List Expr) (t : Typed) → typing scope (called at name es) None ≡ Ok t
    → (x : Statement) × (call_typing scope (called at name es) ≡ Ok x) × IsCallOf t.code x

-- `appendM` of a place of a list and a value of its elements' type appends that
abbrev pub AppendLaw : Type 0
AppendLaw = (scope : Scope) (at : ℕ) (e x : Expr) (p : TypedPlace) (t : SplType) (y : Typed) → place_typing scope e ≡ Ok p → p.kind ≡ S.List t → typing scope x (Some t) ≡ Ok y
    → call_typing scope (called at (codes "appendM") (e ∷ x ∷ [])) ≡ Ok (T.Change p.place (H.Append y.code))

-- `removeM` of a place of a map and a key removes that
abbrev pub RemoveLaw : Type 0
RemoveLaw = (scope : Scope) (at : ℕ) (e x : Expr) (p : TypedPlace) (k t : SplType) (y : Typed) → place_typing scope e ≡ Ok p → p.kind ≡ S.Map k t → typing scope x (Some k) ≡ Ok y
    → call_typing scope (called at (codes "removeM") (e ∷ x ∷ [])) ≡ Ok (T.Change p.place (H.Remove y.code))

-- `clearM` of a place of a list or a map clears it
abbrev pub ClearLaw : Type 0
ClearLaw = (scope : Scope) (at : ℕ) (e : Expr) (p : TypedPlace) → place_typing scope e ≡ Ok p → ChangeFits scope H.Clear p.kind
    → call_typing scope (called at (codes "clearM") (e ∷ [])) ≡ Ok (T.Change p.place H.Clear)

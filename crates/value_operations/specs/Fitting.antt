-- What operators, calls and names ask of values and environments: that they are of types which the rules allow.
use Rattle.std.specs.Prelude.{◌≡◌, ◌≢◌, ℕ, IsTrue, List, Some}
use Rattle.std.specs.Cmp.Lexicographic.{pointwise}
use Rattle.spl_value.specs.declared.types.SplType.{SplType}
use Rattle.spl_value.specs.declared.types.SplType.TheVariants as T
use Rattle.spl_value.specs.declared.value.Value.{Value}
use Rattle.spl_value.specs.Values.{fits}
use Rattle.spl_tree.specs.declared.code.BinaryCode.{BinaryCode}
use Rattle.spl_tree.specs.declared.code.BinaryCode.TheVariants as D
use Rattle.spl_tree.specs.declared.code.BuiltIn.{BuiltIn}
use Rattle.spl_tree.specs.declared.code.Marker.{Marker}
use Rattle.spl_tree.specs.declared.code.Slot.{Slot}
use Rattle.spl_tree.specs.declared.code.Slot.TheVariants as L
use Rattle.spl_tree.specs.declared.code.UnaryCode.{UnaryCode}
use Rattle.language_model.specs.declared.env.Env.{Env}
use Rattle.language_model.specs.declared.scope.Scope.{Scope}
use Rattle.language_model.specs.CodeFits.{SlotFits, UnariesGive, BinaryGives, BuiltInGives}
use Rattle.language_model.specs.WorldFits.{EnvFits}

-- the operator is one of values of such types, and wants both of them
abbrev pub FitBinary : BinaryCode → Value → Value → Type 0
FitBinary op v w =
    (t : SplType) × (u : SplType) × (r : SplType) × BinaryGives op t u r × IsTrue (fits t v) × IsTrue (fits u w) × (op ≢ D.And) × (op ≢ D.Or)

-- the operator asks of values of such types whether something is so, and wants both of them
abbrev pub FitRelation : BinaryCode → Value → Value → Type 0
FitRelation op v w = (t : SplType) × (u : SplType) × BinaryGives op t u T.Bool × IsTrue (fits t v) × IsTrue (fits u w) × (op ≢ D.And) × (op ≢ D.Or)

abbrev pub FitsUnaries : List UnaryCode → Value → Type 0
FitsUnaries ops v = (t : SplType) × (u : SplType) × UnariesGive ops t u × IsTrue (fits t v)

-- the call is one of arguments of such types
abbrev pub FitBuiltIn : BuiltIn → List Value → Type 0
FitBuiltIn call vs = (ts : List SplType) × (t : SplType) × BuiltInGives call ts t × IsTrue (pointwise fits ts vs)

-- the name has a value, as the scope says
abbrev pub HasSlot : Env → Slot → Type 0
HasSlot env slot = (scope : Scope) × (t : SplType) × SlotFits scope slot t × EnvFits scope env

-- the name is that of a port
abbrev pub IsPort : Slot → Type 0
IsPort slot = (port : ℕ) × (slot ≡ L.Port port)

-- a marker came
abbrev pub HasMarker : Env → Type 0
HasMarker env = (m : Marker) × (env.punct ≡ Some m)

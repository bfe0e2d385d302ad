-- What evaluating asks of codes and arguments: that they are of types which the rules allow.
use Rattle.std.specs.Prelude.{◌≡◌, ℕ, IsTrue, List, Some, slice_get}
use Rattle.std.specs.Cmp.Lexicographic.{pointwise}
use Rattle.spl_value.specs.declared.types.SplType.{SplType}
use Rattle.spl_value.specs.declared.value.Value.{Value}
use Rattle.spl_value.specs.Values.{fits}
use Rattle.spl_tree.specs.declared.code.Code.{Code}
use Rattle.spl_tree.specs.declared.body.Function.{Function}
use Rattle.spl_tree.specs.declared.code.Slot.{Slot}
use Rattle.spl_tree.specs.declared.code.Selector.{Selector}
use Rattle.language_model.specs.declared.env.Env.{Env}
use Rattle.language_model.specs.declared.scope.Scope.{Scope}
use Rattle.language_model.specs.declared.scope.Signature.{Signature}
use Rattle.language_model.specs.CodeFits.{StepsLead}
use Rattle.language_model.specs.WorldFits.{EnvFits, FunctionsFit, Fits}

-- what the takings ask of the value from which they begin
abbrev pub FitTakings : List Function → List (Selector (Code Slot)) → Env → Value → Type 0
FitTakings functions takings env v =
    (scope : Scope) × (t : SplType) × (u : SplType) × StepsLead scope takings t u × IsTrue (fits t v) × EnvFits scope env × FunctionsFit scope.functions functions

-- a code fits at some type
abbrev pub IsFit : List Function → Code Slot → Env → Type 0
IsFit functions code env = (t : SplType) × Fits functions code env t

-- each of them does
abbrev pub AreFit : List Function → List (Code Slot) → Env → Type 0
AreFit functions codes env = (i : ℕ) (code : Code Slot) → slice_get codes i ≡ Some code → IsFit functions code env

abbrev pub PairsAreFit : List Function → List (Code Slot × Code Slot) → Env → Type 0
PairsAreFit functions pairs env = (i : ℕ) (p : Code Slot × Code Slot) → slice_get pairs i ≡ Some p → IsFit functions p.0 env × IsFit functions p.1 env

abbrev pub FieldsAreFit : List Function → List (ℕ × Code Slot) → Env → Type 0
FieldsAreFit functions fields env = (i : ℕ) (f : ℕ × Code Slot) → slice_get fields i ≡ Some f → IsFit functions f.1 env

-- the function at the place takes these arguments
abbrev pub FitCall : List Function → ℕ → List Value → Type 0
FitCall functions i vs =
    (signatures : List Signature) × (s : Signature) × (t : SplType) × FunctionsFit signatures functions × (slice_get signatures i ≡ Some s) × (s.result ≡ Some t)
    × IsTrue (pointwise fits s.parameters vs)

-- What changes of values ask of them, and answer.
use Rattle.std.specs.Prelude.{◌≡◌, ℕ, IsTrue, List, [], ◌∷◌, Some, Result, Ok, Err, slice_get}
use Rattle.spl_value.specs.declared.types.IntKind.{IntKind}
use Rattle.spl_value.specs.declared.types.Named.{Named}
use Rattle.spl_value.specs.declared.types.SplType.{SplType}
use Rattle.spl_value.specs.declared.types.SplType.TheVariants as T
use Rattle.spl_value.specs.declared.value.Value.{Value}
use Rattle.spl_value.specs.Calls.{CallOutcome, Gives, Faults, IsCollection}
use Rattle.spl_value.specs.Values.{fits}
use Rattle.spl_tree.specs.declared.body.Change.{Change}
use Rattle.spl_tree.specs.declared.body.Change.TheVariants as H
use Rattle.spl_tree.specs.declared.code.Selector.{Selector}
use Rattle.spl_tree.specs.declared.code.Selector.TheVariants as K
use Rattle.value_operations.specs.declared.stop.Stop.{Stop}
use Rattle.value_operations.specs.declared.stop.Stop.TheVariants as S

-- steps with indexes and keys of their types lead from a value of one type to one of another
pub data StepsLeadTo : List (Selector Value) → SplType → SplType → Type 0 where
  here : (t : SplType) → StepsLeadTo [] t t
  member : (i : ℕ) (steps : List (Selector Value)) (schema : List (Named SplType)) (a : Named SplType) (u : SplType) → slice_get schema i ≡ Some a
      → StepsLeadTo steps a.kind u → StepsLeadTo (K.Member i ∷ steps) (T.Tuple schema) u
  index : (n : Value) (steps : List (Selector Value)) (k : IntKind) (t u : SplType) → IsTrue (fits (T.Int k) n) → StepsLeadTo steps t u
      → StepsLeadTo (K.Element n ∷ steps) (T.List t) u
  at_key : (v : Value) (steps : List (Selector Value)) (k t u : SplType) → IsTrue (fits k v) → StepsLeadTo steps t u
      → StepsLeadTo (K.AtKey v ∷ steps) (T.Map k t) u

-- a change of a value of the type
abbrev pub ArgumentFits : Change Value → SplType → Type 0
ArgumentFits (H.Put v) u = IsTrue (fits u v)
ArgumentFits (H.Append v) u = (t : SplType) × (u ≡ T.List t) × IsTrue (fits t v)
ArgumentFits (H.Remove v) u = (k : SplType) × (t : SplType) × (u ≡ T.Map k t) × IsTrue (fits k v)
ArgumentFits H.Clear u = IsCollection u

-- the steps can be taken of the value, and the change made of what they give
abbrev pub CanChange : List (Selector Value) → Change Value → Value → Type 0
CanChange steps change v = (t : SplType) × (u : SplType) × IsTrue (fits t v) × StepsLeadTo steps t u × ArgumentFits change u

-- the value is changed as the call says
abbrev pub Changes : CallOutcome → Result (Unit {0}) Stop → Value → Type 0
Changes outcome (Ok u) new = outcome ≡ Gives new
Changes outcome (Err (S.Fault kind)) new = outcome ≡ Faults kind
Changes outcome (Err S.Memory) new = Unit {0}

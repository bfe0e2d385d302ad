-- What changes ask of variables and indexes.
use Rattle.std.specs.Prelude.{◌≡◌, ◌<◌, ℕ, IsTrue, List, length, Option, None, Some, slice_get}
use Rattle.spl_value.specs.declared.types.IntKind.{IntKind}
use Rattle.spl_value.specs.declared.types.SplType.TheVariants as T
use Rattle.spl_value.specs.declared.value.Value.{Value}
use Rattle.spl_value.specs.declared.value.Value.TheOpen as O
use Rattle.spl_value.specs.declared.value.Value.TheViews.{out-Value}
use Rattle.spl_value.specs.declared.item.FaultKind.TheVariants as F
use Rattle.spl_value.specs.Calls.{Faults}
use Rattle.spl_value.specs.Values.{fits}
use Rattle.spl_tree.specs.declared.body.Change.{Change}
use Rattle.spl_tree.specs.declared.code.Selector.{Selector}
use Rattle.language_model.specs.declared.env.Env.{Env}
use Rattle.language_model.specs.Changes.{found_index}
use Rattle.language_model.specs.Operators.{level_element}
use Rattle.language_model.specs.parts.Operators.{found}
use Rattle.value_operations.specs.Changing.{CanChange}

-- the variable can be changed so
abbrev pub CanChangeAt : ℕ → List (Selector Value) → Change Value → Env → Type 0
CanChangeAt i steps change env = (v : Value) × (slice_get env.vars i ≡ Some v) × CanChange steps change v

abbrev pub IsIndex : Value → Type 0
IsIndex v = (k : IntKind) × IsTrue (fits (T.Int k) v)

-- the index is that of a place in a list of that length, or of none
abbrev pub IsPlaceIn : ℕ → Value → Option ℕ → Type 0
IsPlaceIn n v (Some at) =
    (found_index (out-Value v) ≡ at) × (at < n) × ((vs : List Value) → level_element (O.List vs) (out-Value v) ≡ found F.Index (slice_get vs at))
IsPlaceIn n v None = (vs : List Value) → length vs ≡ n → level_element (O.List vs) (out-Value v) ≡ Faults F.Index

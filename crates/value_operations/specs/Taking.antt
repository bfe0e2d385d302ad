-- What takings ask of a value.
use Rattle.std.specs.Prelude.{◌≡◌, ℕ, IsTrue, List, Some, slice_get}
use Rattle.spl_value.specs.declared.types.IntKind.{IntKind}
use Rattle.spl_value.specs.declared.types.Named.{Named}
use Rattle.spl_value.specs.declared.types.SplType.{SplType}
use Rattle.spl_value.specs.declared.types.SplType.TheVariants as T
use Rattle.spl_value.specs.declared.value.Value.{Value}
use Rattle.spl_value.specs.Values.{fits}
use Rattle.spl_tree.specs.declared.code.Selector.{Selector}
use Rattle.spl_tree.specs.declared.code.Selector.TheVariants as K

-- it is a tuple with an attribute at the place
abbrev pub HasMember : ℕ → Value → Type 0
HasMember i v = (schema : List (Named SplType)) × (a : Named SplType) × (slice_get schema i ≡ Some a) × IsTrue (fits (T.Tuple schema) v)

-- it is a list, and the index an integer
abbrev pub HasElements : Value → Value → Type 0
HasElements v index = (t : SplType) × (k : IntKind) × IsTrue (fits (T.List t) v) × IsTrue (fits (T.Int k) index)

-- it is a map, and the key one of its type
abbrev pub HasKeys : Value → Value → Type 0
HasKeys v key = (k : SplType) × (t : SplType) × IsTrue (fits (T.Map k t) v) × IsTrue (fits k key)

-- the step can be taken of it
abbrev pub StepFits : Selector Value → Value → Type 0
StepFits (K.Member i) v = HasMember i v
StepFits (K.Element index) v = HasElements v index
StepFits (K.AtKey key) v = HasKeys v key

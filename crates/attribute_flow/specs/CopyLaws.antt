-- What the rules of copies say of what operators give.
use Rattle.std.specs.Prelude.{◌≡◌, ℕ, false, List, [], ◌∷◌, map, Some, slice_get}
use Rattle.std.specs.List.{AllByRecursion}
use Rattle.spl_value.specs.declared.types.Named.{Named}
use Rattle.spl_value.specs.declared.types.SplType.{SplType}
use Rattle.language_model.specs.declared.checked.Handlers.{Handlers}
use Rattle.language_model.specs.declared.checked.CheckedClauses.TheVariants as A
use Rattle.stream_model.specs.Copies.{source_of, trace}
use Rattle.stream_model.specs.Fitting.{IsFitting}
use Rattle.stream_model.specs.Operators.{Operator, input_attributes, output_attributes}
use Rattle.stream_model.specs.Regions.{IsCopy}
use Rattle.stream_model.specs.StateKinds.{is_whole_state, state_of}

-- the operator has one connection
abbrev pub HasOneConnection : Operator → Type 0
HasOneConnection op = (s : ℕ) × (op.ins ≡ (s ∷ []) ∷ [])

-- where the clauses of an operator with one connection keep no state, or one for each key, what they say is a copy is one
abbrev pub CopiesLaw : Type 0
CopiesLaw = (op : Operator) (a b : ℕ) → HasOneConnection op → is_whole_state (state_of op) ≡ false → source_of op.clauses a ≡ Some b → IsCopy op a b

-- what they say of a Custom is one whatever its state
abbrev pub CustomCopiesLaw : Type 0
CustomCopiesLaw = (op : Operator) (handlers : Handlers) (a b : ℕ) → HasOneConnection op → op.clauses ≡ A.Custom handlers → source_of op.clauses a ≡ Some b → IsCopy op a b

-- where its clauses fit and it has one output port besides, a copy has the type of the attribute of which it is one
abbrev pub CopyTypesLaw : Type 0
CopyTypesLaw = (op : Operator) (a b : ℕ) (x : Named SplType) (t : ℕ) → IsFitting op → HasOneConnection op → op.outs ≡ t ∷ []
    → source_of op.clauses a ≡ Some b → slice_get (output_attributes op 0) a ≡ Some x
    → (y : Named SplType) × (slice_get (input_attributes op 0) b ≡ Some y) × (y.kind ≡ x.kind)

-- ---- chains

-- from attribute to attribute, each a copy of the next one: the first is one of the last operator's output, and the last one of the first
-- operator's input
abbrev pub AreCopies : List Operator → ℕ → ℕ → Type 0
AreCopies [] a b = a ≡ b
AreCopies (op ∷ ops) a b = (c : ℕ) × AreCopies ops a c × IsCopy op c b

abbrev pub MayCopy : Operator → Type 0
MayCopy op = HasOneConnection op × (is_whole_state (state_of op) ≡ false)

-- along a chain copies compose
abbrev pub TraceLaw : Type 0
TraceLaw = (ops : List Operator) (a b : ℕ) → AllByRecursion MayCopy ops → trace (map (λ (op : Operator). op.clauses) ops) a ≡ Some b → AreCopies ops a b

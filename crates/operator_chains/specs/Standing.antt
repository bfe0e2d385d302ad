-- For which events the operators of a chain stand, and which may come.
use Rattle.std.specs.Prelude.{◌≡◌, ◌==◌, ◌+◌, length, ℕ, Bool, true, false, List, [], ◌∷◌, Option, Some, None}
use Rattle.language_model.specs.StreamTypes.{Attributes}
use Rattle.stream_model.specs.Inputs.{came_on}
use Rattle.stream_model.specs.Operators.{Operator, input_attributes}
use Rattle.stream_model.specs.Replies.{MayTake, given_attributes, is_live}
use Rattle.stream_model.specs.Stages.{Stage, next}
use Rattle.stream_model.specs.Stream.{Event, any_closes}
use Rattle.operator_chains.specs.declared.how.How.{How}
use Rattle.operator_chains.specs.declared.how.How.TheVariants as H
use Rattle.operator_chains.specs.declared.slot.Slot.{Slot}
use Rattle.operator_chains.specs.declared.chain.Chain.{Chain}
use Rattle.operator_chains.specs.Hows.{stage_how}

abbrev pub is_over : How → Bool
is_over H.Live = false
is_over H.Final = true
is_over (H.Bad fault) = true

-- ---- where operators stand

pub record AtStage {R : Type 0} (spec : R → Operator) (stands : R → List Event → Type 0) (slot : Slot R) (s : Stage) : Type 0 where
  pub operator : spec slot.operator ≡ s.op
  pub over : is_over slot.how ≡ s.over
  pub how : slot.how ≡ stage_how s
  pub state : s.over ≡ false → stands slot.operator s.seen

abbrev pub AtStages : {R : Type 0} (spec : R → Operator) (stands : R → List Event → Type 0) → List (Slot R) → List Stage → Type 0
AtStages spec stands [] [] = Unit {0}
AtStages spec stands (slot ∷ slots) (s ∷ ss) = AtStage spec stands slot s × AtStages spec stands slots ss
AtStages spec stands [] (s ∷ ss) = ⊥
AtStages spec stands (slot ∷ slots) [] = ⊥

abbrev pub AtFirst : {R : Type 0} (spec : R → Operator) (stands : R → List Event → Type 0) → Option (Slot R) → List (Slot R) → List Stage → Type 0
AtFirst spec stands None others ss = (others ≡ []) × (ss ≡ [])
AtFirst spec stands (Some slot) others [] = ⊥
AtFirst spec stands (Some slot) others (s ∷ ss) = AtStage spec stands slot s × AtStages spec stands others ss

abbrev pub AtChain : {R : Type 0} (spec : R → Operator) (stands : R → List Event → Type 0) → Chain R → List Stage → Type 0
AtChain spec stands chain ss = AtFirst spec stands chain.first chain.others.items ss

-- the places that they need: one for the tuple that comes, and one for each operator
abbrev pub places_by : {R : Type 0} → Option (Slot R) → List (Slot R) → ℕ
places_by None others = 1
places_by (Some slot) others = length others + 2

abbrev pub places_of : {R : Type 0} → Chain R → ℕ
places_of chain = places_by chain.first chain.others.items

-- ---- what may come

-- an operator that hasn't ended may take the event
abbrev pub MayCome : Stage → Event → Type 0
MayCome s e = s.over ≡ false → MayTake s.op s.seen e

abbrev pub Enters : Stage → List Event → Type 0
Enters s [] = Unit {0}
Enters s (e ∷ events) = MayCome s e × Enters (next s e) events

-- an operator with one connection, on which nothing closed while it is live
pub record IsInner (s : Stage) : Type 0 where
  pub stream : ℕ
  pub one : s.op.ins ≡ (stream ∷ []) ∷ []
  pub live : s.over ≡ false → is_live s.op s.seen ≡ true
  pub unclosed : s.over ≡ false → any_closes (came_on (λ i. i == 0) s.seen) ≡ false

-- operators of which the first reads a stream of these types, and each of the others the first port of the one before it
abbrev pub Joined : Attributes → List Stage → Type 0
Joined types [] = Unit {0}
Joined types (s ∷ ss) = (input_attributes s.op 0 ≡ types) × IsInner s × Joined (given_attributes s.op.clauses s.op 0) ss

-- the first operator may take the event, and the others stand behind it
abbrev pub MayFeed : List Stage → Event → Type 0
MayFeed [] e = Unit {0}
MayFeed (s ∷ ss) e = MayCome s e × Joined (given_attributes s.op.clauses s.op 0) ss

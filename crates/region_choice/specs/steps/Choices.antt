-- The regions as far as they have come, and one operator more.
use Rattle.std.specs.Prelude.{◌≡◌, ◌<◌, ℕ, ◌==◌, ◌-◌, Bool, true, false, List, [], ◌∷◌, map, length, Option, Some, None, option_map, slice_get, if◌then◌else◌}
use Rattle.std.specs.List.{list_any}
use Rattle.std.specs.Option.{option_and_then, option_map_or}
use Rattle.spl_tree.specs.declared.graph.Stream.{Stream}
use Rattle.stream_model.specs.Meaning.{Graph}
use Rattle.stream_model.specs.Operators.{Operator, connections}
use Rattle.stream_model.specs.Regions.{is_eligible}
use Rattle.stream_model.specs.StateKinds.{state_of}
use Rattle.stream_model.specs.declared.plan.StateKind.{StateKind}
use Rattle.region_choice.specs.declared.choice.Choice.{Choice}
use Rattle.region_choice.specs.declared.growing.Growing.{Growing}
use Rattle.region_choice.specs.steps.Choosing.{placed, placed_if, takes}
use Rattle.region_choice.specs.steps.Counting.{AreReadings}
use Rattle.region_choice.specs.steps.GraphChains.{chains_of}
use Rattle.region_choice.specs.steps.Growing.{IsGrown}

abbrev pub is_among : ℕ → List ℕ → Bool
is_among n ns = list_any (λ m. m == n) ns

-- the numbers of the operators of each region
abbrev pub numbers_of : Choice → List (List ℕ)
numbers_of choice = map (λ (r : Growing). r.ops) choice.regions

-- each operator of a region may stand in one, and has the place of that region
pub record IsStanding (g : Graph) (choice : Choice) : Type 0 where
  pub grown : (i : ℕ) (r : Growing) → slice_get choice.regions i ≡ Some r → IsGrown g r
  pub placed : (i : ℕ) (r : Growing) (n : ℕ) → slice_get choice.regions i ≡ Some r → is_among n r.ops ≡ true → slice_get choice.places n ≡ Some (Some i)
  pub eligible : (i : ℕ) (r : Growing) (n : ℕ) → slice_get choice.regions i ≡ Some r → is_among n r.ops ≡ true → (chains_of g).eligible n ≡ true
  pub many : length choice.places ≡ length g.ops

-- no region has the operator
abbrev pub IsOutside : Choice → ℕ → Type 0
IsOutside choice n = (i : ℕ) (r : Growing) → slice_get choice.regions i ≡ Some r → is_among n r.ops ≡ false

-- ---- one operator

-- an operator that may stand in a region, with this state and this one connection
pub record IsCandidate (g : Graph) (counts : List ℕ) (n : ℕ) (stream : ℕ) (state : StateKind) (o : Operator) : Type 0 where
  pub there : slice_get g.ops n ≡ Some o
  pub state_is : state_of o ≡ state
  pub eligible : is_eligible o ≡ true
  pub reads : connections o ≡ stream ∷ []
  pub counted : AreReadings g counts
  pub within : stream < length counts

-- the operator that makes the stream, where one connection takes that
abbrev pub sole_maker : List Stream → List ℕ → ℕ → Option ℕ
sole_maker streams counts s =
    option_and_then (λ many. if many == 1 then option_map (λ (made : Stream). made.maker) (slice_get streams s) else None) (slice_get counts s)

abbrev pub is_op_last : ℕ → List ℕ → Bool
is_op_last n ns = option_map_or (λ m. m == n) (slice_get ns (length ns - 1)) false

-- the place, where it is the one of the operator's region, of which the operator is the last
abbrev pub ending_at : List Growing → ℕ → ℕ → Option ℕ
ending_at regions n at = option_and_then (λ (r : Growing). if is_op_last n r.ops then Some at else None) (slice_get regions at)

abbrev pub ending_with : Choice → ℕ → Option ℕ
ending_with choice n = option_and_then (λ (place : Option ℕ). option_and_then (ending_at choice.regions n) place) (slice_get choice.places n)

abbrev pub region_before : List Stream → List ℕ → Choice → ℕ → Option ℕ
region_before streams counts choice s = option_and_then (ending_with choice) (sole_maker streams counts s)

-- no region takes the operator
abbrev pub NoneTakes : Graph → Choice → ℕ → Type 0
NoneTakes g choice n = (i : ℕ) (r : Growing) → slice_get choice.regions i ≡ Some r → takes (chains_of g) r.ops n ≡ false

pub record IsPlaced (g : Graph) (old : Choice) (n : ℕ) (new : Choice) : Type 0 where
  pub standing : IsStanding g new
  pub numbers : numbers_of new ≡ placed (chains_of g) (numbers_of old) n

-- it joined a region, or none takes it
abbrev pub Joins : Graph → Choice → ℕ → Bool → Choice → Type 0
Joins g old n true new = IsPlaced g old n new
Joins g old n false new = NoneTakes g old n

-- it joined a region or began one, where it may stand in one
pub record IsSettled (g : Graph) (old : Choice) (n : ℕ) (new : Choice) : Type 0 where
  pub standing : IsStanding g new
  pub numbers : numbers_of new ≡ placed_if ((chains_of g).eligible n) (chains_of g) (numbers_of old) n

-- On the way along a chain.
use Rattle.std.specs.Prelude.{◌≡◌, List, ◌++◌}
use Rattle.language_model.specs.declared.outs.Output.{Output}
use Rattle.language_model.specs.StreamTypes.{Attributes}
use Rattle.stream_model.specs.Operators.{Operator}
use Rattle.stream_model.specs.Stages.{Stage, on_port}
use Rattle.stream_model.specs.Stream.{Event, TuplesFit}
use Rattle.stream_model.specs.Chains.{passed, stages_passed}
use Rattle.operator_chains.specs.declared.slot.Slot.{Slot}
use Rattle.operator_chains.specs.Standing.{AtStages, Joined}

-- the front operators have taken all that reached them, and `now` reaches those at the back
pub record IsAlong {R : Type 0} (spec : R → Operator) (stands : R → List Event → Type 0) (front back : List (Slot R)) (now : List Output) (ss : List Stage) (all : List Output) : Type 0 where
  pub done : List Stage
  pub left : List Stage
  pub types : Attributes
  pub at_front : AtStages spec stands front done
  pub at_back : AtStages spec stands back left
  pub joined : Joined types left
  pub fit : TuplesFit types (on_port 0 now)
  pub gives : passed left now ≡ passed ss all
  pub stages : done ++ stages_passed left now ≡ stages_passed ss all

abbrev pub Along : {R : Type 0} (spec : R → Operator) (stands : R → List Event → Type 0) → List (Slot R) → List (Slot R) → List (Slot R) → List Output → List Output → Type 0
Along spec stands slots front back now all = (types : Attributes) (ss : List Stage) → AtStages spec stands slots ss → Joined types ss → TuplesFit types (on_port 0 all) → IsAlong spec stands front back now ss all

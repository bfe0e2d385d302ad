-- More of what an operator is given.
use Rattle.std.specs.Prelude.{◌≡◌, List, ◌++◌}
use Rattle.language_model.specs.declared.outs.Output.{Output}
use Rattle.stream_model.specs.Operators.{Operator}
use Rattle.stream_model.specs.Stages.{Stage, gives_all, stage_after}
use Rattle.stream_model.specs.Stream.{Event}
use Rattle.stream_model.specs.Chains.{onward}
use Rattle.operator_chains.specs.declared.slot.Slot.{Slot}
use Rattle.operator_chains.specs.Standing.{AtStage, Enters}

-- of the rest these have entered, behind what was given before
abbrev pub HasEntered : {R : Type 0} (spec : R → Operator) (stands : R → List Event → Type 0) → Slot R → List Output → List Output → List Output → Slot R → List Output → Type 0
HasEntered spec stands old before rest taken new given = (s : Stage) → AtStage spec stands old s → Enters s (onward rest)
    → (given ≡ before ++ gives_all s (onward taken)) × AtStage spec stands new (stage_after s (onward taken))

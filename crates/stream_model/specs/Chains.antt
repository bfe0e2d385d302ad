-- What operators one behind the other give: each but the first takes, by its one connection, what the one before it gives
-- on its first port. The last one may give on several ports.
use Rattle.std.specs.Prelude.{List, [], ◌∷◌, map}
use Rattle.language_model.specs.declared.outs.Output.{Output}
use Rattle.stream_model.specs.Bodies.{output}
use Rattle.stream_model.specs.Stages.{Stage, gives_all, stage_after, on_port}
use Rattle.stream_model.specs.Stream.{Event, came}

-- what an operator gives, as the events of the next one
abbrev pub onward : List Output → List Event
onward outs = map (came 0) (on_port 0 outs)

-- what operators give behind these outputs of the one before them, and where they stand then
abbrev pub passed : List Stage → List Output → List Output
passed [] outs = outs
passed (s ∷ stages) outs = passed stages (gives_all s (onward outs))

abbrev pub stages_passed : List Stage → List Output → List Stage
stages_passed [] outs = []
stages_passed (s ∷ stages) outs = stage_after s (onward outs) ∷ stages_passed stages (gives_all s (onward outs))

-- what they give for events of the first one; where there is none, a source gives its items by itself
abbrev pub chain_gives : List Stage → List Event → List Output
chain_gives [] events = map (λ (e : Event). output 0 e.item) events
chain_gives (s ∷ stages) events = passed stages (gives_all s events)

abbrev pub chain_after : List Stage → List Event → List Stage
chain_after [] events = []
chain_after (s ∷ stages) events = stage_after s events ∷ stages_passed stages (gives_all s events)

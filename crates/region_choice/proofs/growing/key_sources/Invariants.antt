use Rattle.std.proofs.Common.{◌≡◌, map, take}
use Rattle.stream_model.specs.CheckedMeaning.{graph_of}
use Rattle.stream_model.specs.Meaning.{Graph}
use Rattle.region_choice.specs.steps.Growing.{key_source, LeadsBack}
use Rattle.region_choice.proofs.growing.key_sources.Given as goal

abbrev pub invariant-loop-place : goal.invariant-loop-place
invariant-loop-place l =
    (g : Graph) → graph_of l.checked ≡ g → LeadsBack g l.growing → l.sources ≡ map (key_source g l.growing.ops) (take l.place-index l.places)

use Rattle.std.proofs.Common.{◌≡◌, filter}
use Rattle.stream_model.specs.Regions.{numbers_to}
use Rattle.region_choice.specs.steps.Keys.{is_copied}
use Rattle.region_choice.proofs.keys.first_key.Given as goal

abbrev pub invariant-loop-attribute : goal.invariant-loop-attribute
invariant-loop-attribute l = l.key ≡ filter (is_copied l.sources) (numbers_to l.attribute)

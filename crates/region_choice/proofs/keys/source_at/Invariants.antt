use Rattle.std.proofs.Common.{◌≡◌, drop}
use Rattle.region_choice.specs.steps.Keys.{source_at}
use Rattle.region_choice.proofs.keys.source_at.Given as goal

abbrev pub invariant-loop-x : goal.invariant-loop-x
invariant-loop-x l = source_at l.sources l.place ≡ source_at (drop l.x-index l.sources) l.place

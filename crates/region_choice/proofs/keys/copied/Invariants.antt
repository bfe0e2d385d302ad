use Rattle.std.proofs.Common.{◌≡◌, drop}
use Rattle.region_choice.specs.steps.Keys.{copied}
use Rattle.region_choice.proofs.keys.copied.Given as goal

abbrev pub invariant-loop-x : goal.invariant-loop-x
invariant-loop-x l = copied l.sources l.attribute ≡ copied (drop l.x-index l.sources) l.attribute

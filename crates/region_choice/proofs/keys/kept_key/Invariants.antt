use Rattle.std.proofs.Common.{◌≡◌, filter, take}
use Rattle.region_choice.specs.steps.Keys.{is_copied}
use Rattle.region_choice.proofs.keys.kept_key.Given as goal

abbrev pub invariant-loop-attribute : goal.invariant-loop-attribute
invariant-loop-attribute l = l.kept ≡ filter (is_copied l.sources) (take l.attribute-index l.fn.key)

use Rattle.std.proofs.Common.{◌≡◌, map, take}
use Rattle.stream_model.specs.Customs.{first_value}
use Rattle.custom_logic.proofs.custom.first.first_values.Given as goal

abbrev pub invariant-variables : goal.invariant-variables
invariant-variables l = l.values ≡ map first_value (take l.variable-index l.state)

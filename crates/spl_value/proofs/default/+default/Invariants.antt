use Rattle.std.proofs.Common.{◌≡◌, take, map}
use Rattle.spl_value.specs.Values.{default_value}
use Rattle.spl_value.proofs.default.+default.Given as goal

abbrev pub invariant-default_values-loop-attribute : goal.invariant-default_values-loop-attribute
invariant-default_values-loop-attribute l = l.values ≡ map (λ a. default_value a.kind) (take l.attribute-index l.schema)

use Rattle.std.proofs.Common.{◌≡◌, ◌+◌, drop}
use Rattle.std.specs.Prelude.{flat_map}
use Rattle.std.specs.Option.{option_copied}
use Rattle.language_model.specs.Declarations.{type_sets, attribute_sets}
use Rattle.duplicate_rules.specs.steps.Earliest.{earliest_in}
use Rattle.duplicate_rules.proofs.SetWeights.{type_weight, attribute_weights}
use Rattle.duplicate_rules.proofs.declarations.types.+types.Given as goal

abbrev pub invariant-earliest_in_attributes-loop-attribute : goal.invariant-earliest_in_attributes-loop-attribute
invariant-earliest_in_attributes-loop-attribute l =
    earliest_in (option_copied l.fn.best) (attribute_sets l.attributes)
    ≡ earliest_in (option_copied l.found) (flat_map (λ a. type_sets a.kind) (drop l.attribute-index l.attributes))

abbrev pub decreases-earliest_in_type : goal.decreases-earliest_in_type
decreases-earliest_in_type l = type_weight l.written.now

abbrev pub decreases-earliest_in_attributes : goal.decreases-earliest_in_attributes
decreases-earliest_in_attributes l = 1 + attribute_weights l.attributes.now

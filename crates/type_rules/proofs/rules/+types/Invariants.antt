use Rattle.std.proofs.Common.{◌≡◌, ◌+◌, ◌-◌, ◌++◌, Ok, drop, length}
use Rattle.std.specs.Option.{option_copied}
use Rattle.language_model.specs.Typing.{after, typed, list_typed, map_typed, tuple_typed, steps_typed, select_typed, selected, arguments_typed}
use Rattle.language_model.specs.parts.Typing.{wants_list, wants_map, wants_tuple}
use Rattle.language_model.specs.TypingLaws.{parts, entry_parts, field_parts, step_parts}
use Rattle.language_model.specs.Finds.{with_front}
use Rattle.type_rules.proofs.LiteralLaws.{list_on, map_on, tuple_on}
use Rattle.spl_tree.proofs.ExprWeights.{expr_weight, weights, entry_weights, field_weights, step_weights}
use Rattle.type_rules.proofs.rules.+types.Given as goal

abbrev pub invariant-list-loop-element : goal.invariant-list-loop-element
invariant-list-loop-element l =
    list_typed l.at l.scope (wants_list (option_copied l.wanted)) (parts l.all)
    ≡ list_on l.at l.scope l.kind l.codes (parts (drop l.element-index l.all))

abbrev pub invariant-map-loop-entry : goal.invariant-map-loop-entry
invariant-map-loop-entry l =
    map_typed l.at l.scope (wants_map (option_copied l.wanted)) (entry_parts l.all)
    ≡ map_on l.at l.scope l.kinds l.codes (entry_parts (drop l.entry-index l.all))

abbrev pub invariant-tuple-loop-place : goal.invariant-tuple-loop-place
invariant-tuple-loop-place l =
    tuple_typed l.at l.scope (wants_tuple (option_copied l.wanted)) (field_parts l.fields)
    ≡ tuple_on l.scope l.place (option_copied l.schema) l.own l.codes (field_parts (drop l.place l.fields))

abbrev pub invariant-taken-loop-next : goal.invariant-taken-loop-next
invariant-taken-loop-next l =
    select_typed l.base l.scope l.fn.first (step_parts l.steps)
    ≡ after (steps_typed l.base l.scope l.kind (step_parts (drop l.next-index l.steps))) (λ xs. Ok (typed xs.1 (selected l.fn.first.code (l.takings ++ xs.0))))

abbrev pub invariant-arguments-arguments : goal.invariant-arguments-arguments
invariant-arguments-arguments l =
    with_front l.fn.front (arguments_typed l.scope l.kinds (parts l.arguments))
    ≡ with_front l.codes (arguments_typed l.scope (drop l.at l.kinds) (parts (drop l.at l.arguments)))

abbrev pub decreases-arguments-arguments : goal.decreases-arguments-arguments
decreases-arguments-arguments l = length l.kinds - l.at

abbrev pub decreases-type_of : goal.decreases-type_of
decreases-type_of l = expr_weight l.expr.now

abbrev pub decreases-conditional : goal.decreases-conditional
decreases-conditional l = expr_weight l.condition.now + (expr_weight l.first.now + expr_weight l.second.now) + 1

abbrev pub decreases-list : goal.decreases-list
decreases-list l = weights l.all.now + 1

abbrev pub decreases-map : goal.decreases-map
decreases-map l = entry_weights l.all.now + 1

abbrev pub decreases-tuple : goal.decreases-tuple
decreases-tuple l = field_weights l.fields.now + 1

abbrev pub decreases-taken : goal.decreases-taken
decreases-taken l = step_weights l.steps.now + 1

abbrev pub decreases-selection : goal.decreases-selection
decreases-selection l = expr_weight l.base.now + step_weights l.steps.now + 2

abbrev pub decreases-operation : goal.decreases-operation
decreases-operation l = expr_weight l.left.now + expr_weight l.right.now + 1

abbrev pub decreases-arguments : goal.decreases-arguments
decreases-arguments l = weights l.arguments.now + 1

abbrev pub decreases-call : goal.decreases-call
decreases-call l = weights l.all.now + 3

abbrev pub decreases-built_in : goal.decreases-built_in
decreases-built_in l = weights l.all.now + 2

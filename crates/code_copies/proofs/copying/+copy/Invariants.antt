use Rattle.std.proofs.Common.{◌≡◌, ◌+◌, take}
use Rattle.code_copies.proofs.CodeWeights.{weight, weights, entry_weights, field_weights, taking_weights}
use Rattle.code_copies.proofs.copying.+copy.Given as goal

abbrev pub invariant-copy_codes-loop-code : goal.invariant-copy_codes-loop-code
invariant-copy_codes-loop-code l = l.copied ≡ take l.code-index l.codes

abbrev pub invariant-copy_entries-loop-entry : goal.invariant-copy_entries-loop-entry
invariant-copy_entries-loop-entry l = l.copied ≡ take l.entry-index l.entries

abbrev pub invariant-copy_fields-loop-field : goal.invariant-copy_fields-loop-field
invariant-copy_fields-loop-field l = l.copied ≡ take l.field-index l.fields

abbrev pub invariant-copy_takings-loop-taking : goal.invariant-copy_takings-loop-taking
invariant-copy_takings-loop-taking l = l.copied ≡ take l.taking-index l.takings

abbrev pub decreases-copy_code : goal.decreases-copy_code
decreases-copy_code l = weight l.code.now

abbrev pub decreases-copy_select : goal.decreases-copy_select
decreases-copy_select l = weight l.base.now + taking_weights l.takings.now + 2

abbrev pub decreases-copy_unary : goal.decreases-copy_unary
decreases-copy_unary l = weight l.operand.now + 1

abbrev pub decreases-copy_binary : goal.decreases-copy_binary
decreases-copy_binary l = weight l.left.now + weight l.right.now + 1

abbrev pub decreases-copy_conditional : goal.decreases-copy_conditional
decreases-copy_conditional l = weight l.condition.now + weight l.first.now + weight l.second.now + 1

abbrev pub decreases-copy_built_in : goal.decreases-copy_built_in
decreases-copy_built_in l = weights l.arguments.now + 2

abbrev pub decreases-copy_codes : goal.decreases-copy_codes
decreases-copy_codes l = weights l.codes.now + 1

abbrev pub decreases-copy_entries : goal.decreases-copy_entries
decreases-copy_entries l = entry_weights l.entries.now + 1

abbrev pub decreases-copy_fields : goal.decreases-copy_fields
decreases-copy_fields l = field_weights l.fields.now + 1

abbrev pub decreases-copy_takings : goal.decreases-copy_takings
decreases-copy_takings l = taking_weights l.takings.now + 1

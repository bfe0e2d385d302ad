use Rattle.std.proofs.Common.{◌≡◌, ◌+◌, drop}
use Rattle.std.specs.Prelude.{◌&&◌}
use Rattle.std.specs.List.{list_all}
use Rattle.language_model.specs.parts.LogicTyping.{is_plain}
use Rattle.code_copies.proofs.CodeWeights.{weight, weights, entry_weights, field_weights}
use Rattle.logic_rules.proofs.plain_codes.+plain.Given as goal

abbrev pub invariant-are_plain-loop-code : goal.invariant-are_plain-loop-code
invariant-are_plain-loop-code l = list_all is_plain l.codes ≡ list_all is_plain (drop l.code-index l.codes)

abbrev pub invariant-are_plain_entries-loop-key : goal.invariant-are_plain_entries-loop-key
invariant-are_plain_entries-loop-key l =
    list_all (λ e. is_plain e.0 && is_plain e.1) l.entries ≡ list_all (λ e. is_plain e.0 && is_plain e.1) (drop l.key-index l.entries)

abbrev pub invariant-are_plain_fields-loop-value : goal.invariant-are_plain_fields-loop-value
invariant-are_plain_fields-loop-value l = list_all (λ f. is_plain f.1) l.fields ≡ list_all (λ f. is_plain f.1) (drop l.value-index l.fields)

abbrev pub decreases-is_plain : goal.decreases-is_plain
decreases-is_plain l = weight l.code.now

abbrev pub decreases-are_plain : goal.decreases-are_plain
decreases-are_plain l = weights l.codes.now + 1

abbrev pub decreases-are_plain_entries : goal.decreases-are_plain_entries
decreases-are_plain_entries l = entry_weights l.entries.now + 1

abbrev pub decreases-are_plain_fields : goal.decreases-are_plain_fields
decreases-are_plain_fields l = field_weights l.fields.now + 1

use Rattle.std.proofs.Common.{drop}
use Rattle.dollar_rules.specs.steps.Weights.{entry_codes, field_codes, selector_codes}
use Rattle.dollar_rules.proofs.CountedParts.{Passed}
use Rattle.dollar_rules.proofs.weights.+fits.Given as goal

abbrev pub invariant-all_fit-loop-code : goal.invariant-all_fit-loop-code
invariant-all_fit-loop-code l = Passed l.levels l.fn.left l.left l.codes (drop l.code-index l.codes)

abbrev pub invariant-entries_fit-loop-entry : goal.invariant-entries_fit-loop-entry
invariant-entries_fit-loop-entry l = Passed l.levels l.fn.left l.left (entry_codes l.entries) (entry_codes (drop l.entry-index l.entries))

abbrev pub invariant-fields_fit-loop-field : goal.invariant-fields_fit-loop-field
invariant-fields_fit-loop-field l = Passed l.levels l.fn.left l.left (field_codes l.fields) (field_codes (drop l.field-index l.fields))

abbrev pub invariant-takings_fit-loop-taking : goal.invariant-takings_fit-loop-taking
invariant-takings_fit-loop-taking l = Passed l.levels l.fn.left l.left (selector_codes l.takings) (selector_codes (drop l.taking-index l.takings))

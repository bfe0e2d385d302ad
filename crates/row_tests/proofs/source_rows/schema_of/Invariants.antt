use Rattle.std.proofs.Common.{◌≡◌, true}
use Rattle.language_model.specs.Checking.{has_text_form}
use Rattle.row_tests.proofs.source_rows.schema_of.Given as goal

abbrev pub invariant-loop-word : goal.invariant-loop-word
invariant-loop-word l = has_text_form l.schema ≡ true

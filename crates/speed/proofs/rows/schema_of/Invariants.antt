use Rattle.std.proofs.Common.{◌≡◌, true}
use Rattle.language_model.specs.Checking.{has_text_form}
use Rattle.speed.proofs.rows.schema_of.Given as goal

abbrev pub invariant-loop-letter : goal.invariant-loop-letter
invariant-loop-letter l = has_text_form l.schema ≡ true

use Rattle.std.proofs.Common.{◌≡◌, drop}
use Rattle.language_model.specs.Checking.{has_text_form}
use Rattle.clause_rules.proofs.parts.has_text_form.Given as goal

abbrev pub invariant-loop-attribute : goal.invariant-loop-attribute
invariant-loop-attribute l = has_text_form l.schema ≡ has_text_form (drop l.attribute-index l.schema)

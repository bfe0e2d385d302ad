-- Words for parts of the rules of a Custom, by which proofs speak of them.
use Rattle.spl_value.specs.declared.value.Value.{Value}
use Rattle.language_model.specs.Outcomes.{Outcome}
use Rattle.stream_model.specs.Bodies.{done_or}

abbrev pub value_or : Value → Outcome Value → Value
value_or other outcome = done_or (λ v. v) outcome other

use Rattle.type_rules.proofs.statements.compound_value.Goals as goal
use Rattle.language_model.proofs.FoundAnswers.{goes}

pub returns : goal.returns
returns c = goes _ _ c.in_ok-first.first _ c.in_ok-first.ensures (c.required.ensures _ c.same_operands-typed.ensures)

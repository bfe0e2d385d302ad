use Rattle.std.proofs.Common.{subst, sym}
use Rattle.language_model.specs.parts.Operators.{unary_of}
use Rattle.value_operations.specs.Answers.{Settles}
use Rattle.value_operations.specs.steps.Unaries.{FitsUnary}
use Rattle.value_operations.proofs.operators.applied.Goals as goal

pub unary_of-requires : goal.unary_of-requires
unary_of-requires c = subst (FitsUnary c.args.operator) (sym c.value.ensures) c.requires

pub returns : goal.returns
returns c = c.owned.ensures.settled _ (subst (λ v. Settles (unary_of c.args.operator v) c.unary_of.result) c.value.ensures c.unary_of.ensures)

use Rattle.expr_parser.proofs.Expressions.{one_tree}
use Rattle.expr_parser.proofs.OneAnswer.{one_answer}
use Rattle.expr_parser.proofs.laws.expressions_law.Goals as goal

pub returns : goal.returns
returns c = record { one = λ e f a d g. one_tree d g; answer = one_answer }

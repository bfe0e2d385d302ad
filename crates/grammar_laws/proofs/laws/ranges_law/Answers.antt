use Rattle.spl_tree.proofs.RangeLaws.{ranges_law}
use Rattle.grammar_laws.proofs.FromLines.{expression_from_lines}
use Rattle.grammar_laws.proofs.laws.ranges_law.Goals as goal

pub returns : goal.returns
returns c = λ bytes ts e before own after lexed list spells. ranges_law bytes ts e before own after lexed list (expression_from_lines e own spells)

use Rattle.grammar_laws.proofs.ExpressionLines.{list_lines, operator_lines, primary_line_law}
use Rattle.grammar_laws.proofs.laws.expression_lines_law.Goals as goal

pub returns : goal.returns
returns c = record { primary = primary_line_law; lists = list_lines; operators = operator_lines }

use Rattle.grammar_laws.proofs.PartLines.{part_lines}
use Rattle.grammar_laws.proofs.TypeLines.{type_line_law}
use Rattle.grammar_laws.proofs.StatementLines.{first_arm_law, next_arm_law, statement_line_law}
use Rattle.grammar_laws.proofs.laws.lines_law.Goals as goal

pub returns : goal.returns
returns c = record { types = type_line_law; statements = statement_line_law; first_arm = first_arm_law; next_arm = next_arm_law; parts = part_lines }

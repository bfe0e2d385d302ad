use Rattle.grammar_laws.proofs.FromLines.{expression_from_lines, unit_from_lines}
use Rattle.grammar_laws.proofs.ToLines.{expression_to_lines}
use Rattle.grammar_laws.proofs.UnitToLines.{unit_to_lines}
use Rattle.grammar_laws.proofs.laws.relations_law.Goals as goal

pub returns : goal.returns
returns c =
    record {
      expressions = λ e ts. (expression_to_lines e ts, expression_from_lines e ts);
      programs = λ unit ts. (unit_to_lines unit ts, unit_from_lines unit ts);
    }

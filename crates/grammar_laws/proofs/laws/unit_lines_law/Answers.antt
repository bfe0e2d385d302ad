use Rattle.grammar_laws.proofs.DefinitionLines.{clause_lines, definition_lines, invocation_lines, port_lines}
use Rattle.grammar_laws.proofs.laws.unit_lines_law.Goals as goal

pub returns : goal.returns
returns c = record { clauses = clause_lines; ports = port_lines; invocations = invocation_lines; definitions = definition_lines }

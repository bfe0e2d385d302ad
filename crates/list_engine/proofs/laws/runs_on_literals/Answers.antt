use Rattle.list_engine.proofs.Chained.{chain_are_operators, chain_keeps, chain_rows_fit}
use Rattle.list_engine.proofs.laws.runs_on_literals.Goals as goal

pub returns-clause-keeps : goal.returns-clause-keeps
returns-clause-keeps c = chain_keeps

pub returns-clause-operators : goal.returns-clause-operators
returns-clause-operators c = chain_are_operators

pub returns-clause-rows : goal.returns-clause-rows
returns-clause-rows c = chain_rows_fit

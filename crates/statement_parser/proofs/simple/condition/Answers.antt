use Rattle.statement_parser.proofs.simple.condition.Goals as goal

pub returns : goal.returns
returns c = c.expression_between.ensures

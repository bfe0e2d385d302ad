use Rattle.expr_eval.proofs.flow.returned.Goals as goal

pub returned_by-requires : goal.returned_by-requires
returned_by-requires c = c.requires c.in-Ok.flow c.in-Ok.is

pub returns-in-Ok : goal.returns-in-Ok
returns-in-Ok c = (c.in-Ok.flow, c.in-Ok.is, c.returned_by.ensures)

pub returns-in-Err : goal.returns-in-Err
returns-in-Err c = c.in-Err.is

use Rattle.aggregate_op.proofs.aggregate.events.mark.Goals as goal

pub returns-clause-outs : goal.returns-clause-outs
returns-clause-outs c rule h stood = (c.in_ok-outs.outs, c.in_ok-outs.ensures.outs rule h stood, c.in_ok-pass_marker.ensures)

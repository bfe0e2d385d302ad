use Rattle.operator_chains.proofs.places.pass_at.Goals as goal

pub returns-in-Tuple-clause-fits : goal.returns-in-Tuple-clause-fits
returns-in-Tuple-clause-fits g c = rw (c.in-Tuple.is) (c.enter_at.ensures.fits)

use Rattle.enabled_events.proofs.asking.front.Goals as goal

pub returns-in-Put : goal.returns-in-Put
returns-in-Put g c part a poured at = c.in-Put.ensures.next part a poured at

pub returns-in-Read : goal.returns-in-Read
returns-in-Read g c part a poured at = (c.in-Read.ensures.next part a poured at).0

pub returns-in-Take : goal.returns-in-Take
returns-in-Take g c part a poured at = (c.in-Take.ensures.next part a poured at).0

pub returns-in-Done : goal.returns-in-Done
returns-in-Done g c part a poured at = (c.in-Done.ensures.next part a poured at).pushed

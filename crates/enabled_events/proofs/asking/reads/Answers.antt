use Rattle.enabled_events.proofs.Nexts.{done_reads, reads_behind, reads_not, reads_now}
use Rattle.enabled_events.proofs.asking.reads.Goals as goal

pub returns-in-Read : goal.returns-in-Read
returns-in-Read g c part a poured at = let n = c.in-Read.ensures.next part a poured at in reads_now part a n.0 n.1

pub returns-in-Take : goal.returns-in-Take
returns-in-Take g c part a poured at = let n = c.in-Take.ensures.next part a poured at in reads_not part a n.0 n.1

pub returns-in-Put : goal.returns-in-Put
returns-in-Put g c part a poured at = let n = c.in-Put.ensures.next part a poured at in reads_behind part a n.0 n.1 n.2

pub returns-in-Done : goal.returns-in-Done
returns-in-Done g c part a poured at =
    let n = c.in-Done.ensures.next part a poured at in
    reads_not part a n.pushed (done_reads part a at.spent.closed n)

use Rattle.std.proofs.Common.{◌∙◌, sym}
use Rattle.list_engine.proofs.Faults.{unread_next}
use Rattle.list_engine.proofs.Gathering.{first_and_rest}
use Rattle.list_engine.proofs.ends.unread_faults.Goals as goal

pub streams-preserved : goal.streams-preserved
streams-preserved c = λ g e.
    unread_next g c.args.streams.now c.streams.rest.now _ _ c.unread_fault-fault.result (first_and_rest c.streams.rest.now c.in-len1-up.len_at_least)
    (c.unread_fault-fault.ensures g e) (sym c.is_some.ensures ∙ c.if-is_some.false)
    ∙ c.streams.invariant g e

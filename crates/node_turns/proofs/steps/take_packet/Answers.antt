use Rattle.std.proofs.Common.{inl, inr, refl}
use Rattle.network_model.specs.Receipts.{Popped}
use Rattle.network_model.specs.States.{drops}
use Rattle.node_turns.proofs.steps.take_packet.Goals as goal

pub returns-in-Ok : goal.returns-in-Ok
returns-in-Ok g c = inl (refl, c.in-Ok.ensures.takes)

pub returns-in-Err : goal.returns-in-Err
returns-in-Err g c =
    inr (
      c.stop.ensures.note,
      λ part a poured at few.
          c.stop.ensures.spent part (drops a (Popped c.args.input c.args.packet)) poured (c.in-Err.ensures.lacks part
          a poured at few),
    )

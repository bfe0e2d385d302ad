use Rattle.std.proofs.Common.{inl, inr, refl}
use Rattle.spl_value.specs.declared.item.Item.TheVariants as I
use Rattle.network_model.specs.Receipts.{WasRead}
use Rattle.network_model.specs.States.{drops}
use Rattle.node_turns.proofs.steps.read_tuple.Goals as goal

pub returns-in-Ok : goal.returns-in-Ok
returns-in-Ok g c = inl (refl, c.in-Ok.ensures.reads)

pub returns-in-Err : goal.returns-in-Err
returns-in-Err g c =
    inr (
      c.stop.ensures.note,
      λ part a poured at. c.stop.ensures.spent part (drops a (WasRead (I.Tuple
          c.args.tuple.now))) poured (c.in-Err.ensures.lacks part a poured at),
    )

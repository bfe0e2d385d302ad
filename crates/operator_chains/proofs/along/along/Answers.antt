use Rattle.std.proofs.Common.{◌+◌, ◌<◌, length, take, drop, get_or, arith}
use Rattle.std.proofs.lemmas.List.{drop_more}
use Rattle.operator_chains.proofs.Passing.{along_first, along_enters, along_step}
use Rattle.operator_chains.proofs.along.along.Goals as goal

pub loop-slot-init : goal.loop-slot-init
loop-slot-init g c = along_first g.R.React.spec g.R.React.stands c.args.slots.now c.args.caused

pub pass-requires : goal.pass-requires
pass-requires g c =
    let may = c.requires.may in
    let lt : c.loop-slot.slot-index < length c.loop-slot.slots = omega arith in
    record {
      may = along_enters g.R.React.spec g.R.React.stands c.args.slots.now (take c.loop-slot.slot-index c.loop-slot.slots) (drop (c.loop-slot.slot-index + 1) c.loop-slot.slots)
          (get_or c.loop-slot.slots c.loop-slot.slot-index c.slot-item.result) c.loop-slot.now c.args.caused may.0 may.1
          (rw (← drop_more c.loop-slot.slots c.loop-slot.slot-index c.slot-item.result lt) c.loop-slot.invariant)
          may.2 may.3 may.4;
    }

pub loop-slot-preserved : goal.loop-slot-preserved
loop-slot-preserved g c =
    along_step g.R.React.spec g.R.React.stands c.args.slots.now c.loop-slot.slots c.loop-slot.slot-index c.slot-item.result c.pass.new.slot c.loop-slot.now c.in_ok-now.now c.args.caused
    c.loop-slot.invariant (omega arith) c.in_ok-now.ensures.gives c.in_ok-now.ensures.fits

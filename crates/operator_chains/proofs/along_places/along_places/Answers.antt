use Rattle.std.proofs.Common.{◌+◌, ◌<◌, ◌≡◌, length, take, drop, get_or, arith, refl, ◌∙◌}
use Rattle.std.proofs.lemmas.List.{drop_more}
use Rattle.operator_chains.specs.Places.{given_by}
use Rattle.operator_chains.proofs.Passing.{along_enters, along_first, along_fits, along_step}
use Rattle.operator_chains.proofs.along_places.along_places.Goals as goal

pub loop-slot-init : goal.loop-slot-init
loop-slot-init g c =
    (along_first g.R.React.spec g.R.React.stands c.args.slots.now (given_by c.args.given c.args.places.now c.args.outs.now), refl, refl, c.requires.before)

pub pass_at-requires-clause-may : goal.pass_at-requires-clause-may
pass_at-requires-clause-may g c =
    let may = c.requires.may in
    let lt : c.loop-slot.slot-index < length c.loop-slot.slots = omega arith in
    along_enters g.R.React.spec g.R.React.stands c.args.slots.now (take c.loop-slot.slot-index c.loop-slot.slots) (drop (c.loop-slot.slot-index + 1) c.loop-slot.slots)
    (get_or c.loop-slot.slots c.loop-slot.slot-index c.slot-item.result) (given_by c.loop-slot.now c.loop-slot.places c.loop-slot.outs)
    (given_by c.args.given c.args.places.now c.args.outs.now) may.0 may.1
    (rw (← drop_more c.loop-slot.slots c.loop-slot.slot-index c.slot-item.result lt) c.loop-slot.invariant.0)
    may.2 may.3 may.4

pub loop-slot-preserved : goal.loop-slot-preserved
loop-slot-preserved g c =
    let may = c.requires.may in
    let lt : c.loop-slot.slot-index < length c.loop-slot.slots = omega arith in
    let own = c.loop-slot.invariant.1 in
    let fits = along_fits g.R.React.spec g.R.React.stands c.args.slots.now (take c.loop-slot.slot-index c.loop-slot.slots) (drop (c.loop-slot.slot-index + 1) c.loop-slot.slots)
    (get_or c.loop-slot.slots c.loop-slot.slot-index c.slot-item.result) c.pass_at.new.slot (given_by c.loop-slot.now c.loop-slot.places c.loop-slot.outs)
    (given_by c.in_ok-now.now c.pass_at.new.places c.pass_at.new.outs) (given_by c.args.given c.args.places.now c.args.outs.now) may.0 may.1
    (rw (← drop_more c.loop-slot.slots c.loop-slot.slot-index c.slot-item.result lt) c.loop-slot.invariant.0)
    may.2 may.3 may.4 c.in_ok-now.ensures.gives c.in_ok-now.ensures.fits in (
      along_step g.R.React.spec g.R.React.stands c.args.slots.now c.loop-slot.slots c.loop-slot.slot-index c.slot-item.result c.pass_at.new.slot
          (given_by c.loop-slot.now c.loop-slot.places c.loop-slot.outs) (given_by c.in_ok-now.now c.pass_at.new.places c.pass_at.new.outs)
          (given_by c.args.given c.args.places.now c.args.outs.now) c.loop-slot.invariant.0 lt c.in_ok-now.ensures.gives fits,
      (let e : c.loop-slot.own + 1 ≡ c.loop-slot.slot-index + 1 + 2 = omega arith in e),
      c.in_ok-now.ensures.places ∙ c.loop-slot.invariant.2,
      c.in_ok-now.ensures.below,
    )

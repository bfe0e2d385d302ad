use Rattle.std.proofs.Common.{add-one}
use Rattle.std.proofs.lemmas.Option.{slice_get-get_or}
use Rattle.cycle_rules.proofs.Takings.{takes_more}
use Rattle.cycle_rules.proofs.calls.take_ready.Goals as goal

pub loop-place-preserved : goal.loop-place-preserved
loop-place-preserved c =
    rw add-one (takes_more c.args.calls.now c.args.taken.now c.loop-place.taken c.take.new.taken c.loop-place.place-index c.args.places.now _ (slice_get-get_or c.args.places.now c.loop-place.place-index 0 c.loop-place-test.true) c.loop-place.invariant c.in_ok-take.ensures)

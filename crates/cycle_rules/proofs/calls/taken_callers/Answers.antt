use Rattle.std.proofs.Common.{◌≡◌, length, arith, sym, subst}
use Rattle.place_sets.specs.Places.{HasPlace}
use Rattle.place_sets.proofs.Fitting.{places_fit}
use Rattle.cycle_rules.proofs.Takings.{settled_now}
use Rattle.cycle_rules.proofs.calls.taken_callers.Goals as goal

pub returns-then-len-before-clause-others : goal.returns-then-len-before-clause-others
returns-then-len-before-clause-others c =
    let s = c.passes.taken in
    let t = c.take_ready.new.taken in
    let e = c.if-len-before.true in
    let same : length t.places.items ≡ length s.places.items = let a = c.len.ensures in let b = c.len-before.ensures in omega arith in
    λ i below. settled_now c.args.calls.now s t c.as_slice.result.now c.in_ok-take_ready.ensures same i below (subst (λ xs. HasPlace xs i) (sym c.as_slice.ensures.value) (c.in_ok-places.ensures i below))

pub passes-smaller : goal.passes-smaller
passes-smaller c =
    let h = places_fit c.take_ready.new.taken c.in_ok-take_ready.ensures.now.set in
    let s = c.in_ok-take_ready.ensures.now.size in
    let g = c.in_ok-take_ready.ensures.grows in
    let e = c.if-len-before.false in
    let a = c.len.ensures in
    let b = c.len-before.ensures in
    omega arith

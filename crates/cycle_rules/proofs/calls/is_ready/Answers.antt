use Rattle.std.proofs.Common.{ℕ, add-one, get_or, subst, inl, inr}
use Rattle.std.proofs.lemmas.Option.{slice_get-get_or}
use Rattle.spl_tree.specs.declared.expression.Placed.{Placed}
use Rattle.place_sets.specs.Places.{HasPlace}
use Rattle.cycle_rules.proofs.Noting.{calling_cases}
use Rattle.cycle_rules.proofs.calls.is_ready.Goals as goal

pub loop-call-preserved : goal.loop-call-preserved
loop-call-preserved c =
    let none : Placed ℕ = record { at = 0; what = 0 } in
    let call = get_or c.args.calls.now c.loop-call.call-index none in
    let f = c.if-not-has.false in
    let there : HasPlace c.args.taken.now.places.items call.what = c.requires.standing call.what (c.has.ensures.0 f) in
    λ to calling. elim (calling_cases c.loop-call.call-index c.args.calls.now call to (slice_get-get_or c.args.calls.now c.loop-call.call-index none c.loop-call-test.true) (rw add-one at calling)) [
      | inl h ↦ c.loop-call.invariant to h
      | inr e ↦ subst (λ m. HasPlace c.args.taken.now.places.items m) e there
    ]

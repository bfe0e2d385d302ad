use Rattle.std.proofs.Common.{◌≡◌, ◌∙◌, ◌<◌, add-one, Some, ap, sym, subst, arith, length}
use Rattle.std.specs.Prelude.{slice_get}
use Rattle.std.proofs.lemmas.Option.{slice_get-get_or}
use Rattle.place_sets.proofs.Fitting.{places_fit}
use Rattle.cycle_rules.proofs.Reaching.{first_found, more_found, all_found, found_below}
use Rattle.cycle_rules.proofs.calls.add_leading.Goals as goal

pub add_all-requires-clause-below : goal.add_all-requires-clause-below
add_all-requires-clause-below c =
    let at : slice_get c.args.callers.now c.args.place ≡ Some c.as_slice.result.now = slice_get-get_or c.args.callers.now c.args.place c.index-callers-place.result c.requires.place ∙ ap Some (sym c.index-callers-place.is ∙ sym c.as_slice.ensures) in
    λ i st. subst (λ n. i < n) (sym c.requires.empty.1) (c.requires.within c.args.place i (record { list = c.as_slice.result.now; at_place = at; stands = st }))

pub told-init : goal.told-init
told-init c =
    let at : slice_get c.args.callers.now c.args.place ≡ Some c.as_slice.result.now = slice_get-get_or c.args.callers.now c.args.place c.index-callers-place.result c.requires.place ∙ ap Some (sym c.index-callers-place.is ∙ sym c.as_slice.ensures) in
    first_found c.args.callers.now c.args.place c.as_slice.result.now c.args.found.now c.add_all.new.self at c.requires.empty.2 c.requires.empty.1 c.in_ok-add_all.ensures

pub bounds-callers-next : goal.bounds-callers-next
bounds-callers-next c =
    let told : c.told.told < length c.told.found.places.items = let t = c.told-test.true in let l = c.len.ensures in omega arith in
    found_below c.args.callers.now c.args.place c.told.found c.told.told c.told.told c.index.result.now (slice_get-get_or c.told.found.places.items c.told.told c.index.result.now told ∙ ap Some (sym c.index.ensures)) c.told.invariant

pub add_all-requires-in-told-clause-below : goal.add_all-requires-in-told-clause-below
add_all-requires-in-told-clause-below c =
    let told : c.told.told < length c.told.found.places.items = let t = c.told-test.true in let l = c.len.ensures in omega arith in
    let below : c.index.result.now < length c.args.callers.now = found_below c.args.callers.now c.args.place c.told.found c.told.told c.told.told c.index.result.now (slice_get-get_or c.told.found.places.items c.told.told c.index.result.now told ∙ ap Some (sym c.index.ensures)) c.told.invariant in
    let at : slice_get c.args.callers.now c.index.result.now ≡ Some c.as_slice-in-told.result.now = slice_get-get_or c.args.callers.now c.index.result.now c.index-callers-next.result below ∙ ap Some (sym c.index-callers-next.is ∙ sym c.as_slice-in-told.ensures) in
    λ i st. subst (λ n. i < n) (sym c.told.invariant.size) (c.requires.within c.index.result.now i (record { list = c.as_slice-in-told.result.now; at_place = at; stands = st }))

pub told-smaller : goal.told-smaller
told-smaller c =
    let h = places_fit c.told.found c.told.invariant.set in
    let t = c.told-test.true in
    let s = c.told.invariant.size in
    omega arith

pub told-preserved : goal.told-preserved
told-preserved c =
    let told : c.told.told < length c.told.found.places.items = let t = c.told-test.true in let l = c.len.ensures in omega arith in
    let at_n : slice_get c.told.found.places.items c.told.told ≡ Some c.index.result.now = slice_get-get_or c.told.found.places.items c.told.told c.index.result.now told ∙ ap Some (sym c.index.ensures) in
    let below : c.index.result.now < length c.args.callers.now = found_below c.args.callers.now c.args.place c.told.found c.told.told c.told.told c.index.result.now at_n c.told.invariant in
    let at : slice_get c.args.callers.now c.index.result.now ≡ Some c.as_slice-in-told.result.now = slice_get-get_or c.args.callers.now c.index.result.now c.index-callers-next.result below ∙ ap Some (sym c.index-callers-next.is ∙ sym c.as_slice-in-told.ensures) in
    rw add-one (more_found c.args.callers.now c.args.place c.told.found c.add_all-in-told.new.self c.told.told c.index.result.now c.as_slice-in-told.result.now at_n at c.told.invariant c.in_ok-add_all-2.ensures)

pub returns-clause-leading : goal.returns-clause-leading
returns-clause-leading c = all_found c.args.callers.now c.args.place c.told.found c.told.told (let t = c.told-test.false in let l = c.len.ensures in omega arith) c.told.invariant

use Rattle.std.proofs.Common.{◌≡◌, ◌<◌, length, add-one, Some, refl, sym, subst, ltb-true, arith}
use Rattle.std.specs.Prelude.{slice_get}
use Rattle.written_types.proofs.Searching.{read_at, row_within, first_found, more_found, found_below, is_found, tells}
use Rattle.place_sets.proofs.Fitting.{places_fit}
use Rattle.written_types.proofs.leading.leads_back.Goals as goal

pub told-init : goal.told-init
told-init c =
    let l = c.in-Some.ensures.lookup in
    let row : slice_get c.args.next.now c.args.place ≡ Some c.as_slice.result.now =
    read_at c.args.next.now c.args.place c.in-Some.first.now c.as_slice.result.now (ltb-true _ _ (sym l.0)) l.1 c.as_slice.ensures in
    first_found c.args.next.now c.args.place c.as_slice.result.now c.in_ok-found.found c.add_all.new.self row c.in_ok-found.ensures.2 c.in_ok-found.ensures.1 c.in_ok-add_all.ensures

pub returns-then-has : goal.returns-then-has
returns-then-has c = sym (is_found c.args.next.now c.args.place c.told.found c.told.told c.told.invariant (c.has.ensures.0 c.if-has.true))

pub bounds-next-from : goal.bounds-next-from
bounds-next-from c =
    let told : c.told.told < length c.told.found.places.items = let t = c.told-test.true in let l = c.len.ensures in omega arith in
    found_below c.args.next.now c.args.place c.told.found c.told.told c.told.told c.index.result.now c.told.invariant
    (read_at c.told.found.places.items c.told.told c.index.result.now c.index.result.now told c.index.ensures refl)

pub add_all-requires-in-told-clause-below : goal.add_all-requires-in-told-clause-below
add_all-requires-in-told-clause-below c =
    let told : c.told.told < length c.told.found.places.items = let t = c.told-test.true in let l = c.len.ensures in omega arith in
    let below : c.index.result.now < length c.args.next.now =
    found_below c.args.next.now c.args.place c.told.found c.told.told c.told.told c.index.result.now c.told.invariant
    (read_at c.told.found.places.items c.told.told c.index.result.now c.index.result.now told c.index.ensures refl) in
    let row : slice_get c.args.next.now c.index.result.now ≡ Some c.as_slice-in-told.result.now =
    read_at c.args.next.now c.index.result.now c.index-next-from.result c.as_slice-in-told.result.now below c.index-next-from.is c.as_slice-in-told.ensures in
    λ i st. subst (λ n. i < n) (sym c.told.invariant.size) (row_within c.args.next.now c.requires.below c.index.result.now c.as_slice-in-told.result.now row i st)

pub told-smaller : goal.told-smaller
told-smaller c =
    let h = places_fit c.told.found c.told.invariant.set in
    let t = c.told-test.true in
    let l = c.len.ensures in
    let s = c.told.invariant.size in
    omega arith

pub told-preserved : goal.told-preserved
told-preserved c =
    let told : c.told.told < length c.told.found.places.items = let t = c.told-test.true in let l = c.len.ensures in omega arith in
    let at : slice_get c.told.found.places.items c.told.told ≡ Some c.index.result.now =
    read_at c.told.found.places.items c.told.told c.index.result.now c.index.result.now told c.index.ensures refl in
    let below : c.index.result.now < length c.args.next.now = found_below c.args.next.now c.args.place c.told.found c.told.told c.told.told c.index.result.now c.told.invariant at in
    let row : slice_get c.args.next.now c.index.result.now ≡ Some c.as_slice-in-told.result.now =
    read_at c.args.next.now c.index.result.now c.index-next-from.result c.as_slice-in-told.result.now below c.index-next-from.is c.as_slice-in-told.ensures in
    rw add-one (more_found c.args.next.now c.args.place c.told.found c.add_all-in-told.new.self c.told.told c.index.result.now c.as_slice-in-told.result.now at row c.told.invariant c.in_ok-add_all-2.ensures)

pub returns : goal.returns
returns c =
    tells c.args.next.now c.args.place c.told.found c.told.told (let t = c.told-test.false in let l = c.len.ensures in omega arith) c.told.invariant c.has-2.result c.has-2.ensures

use Rattle.std.proofs.Common.{◌≡◌, ◌∙◌, ◌++◌, ◌∷◌, [], add-one, Some, ap, sym}
use Rattle.std.specs.Prelude.{slice_get, filter_map}
use Rattle.std.specs.HashMap as hash
use Rattle.std.specs.Str.{bytes_eq}
use Rattle.std.proofs.lemmas.Option.{slice_get-get_or}
use Rattle.cycle_rules.specs.steps.Named.{name_seen, found_place}
use Rattle.cycle_rules.proofs.Snoc.{names_snoc}
use Rattle.cycle_rules.proofs.recursion.call_places.Goals as goal

pub loop-name-preserved : goal.loop-name-preserved
loop-name-preserved c =
    let x = c.name-item.result in
    let n = c.loop-name.name-index in
    let e = c.as_slice-name-items.ensures.value in
    let at : slice_get c.args.caller.now.called.items n ≡ Some x = ap (λ xs. slice_get xs n) (sym e) ∙ slice_get-get_or c.as_slice-name-items.result.now n x c.loop-name-test.true ∙ ap Some (sym c.name-item.is) in
    rw add-one (c.in_ok-add_place.ensures ∙ ap (λ list. list ++ filter_map (found_place (λ q. hash.get_by (λ k. bytes_eq q k.now) c.args.places.now)) (name_seen x ∷ [])) c.loop-name.invariant
    ∙ sym (names_snoc (found_place (λ q. hash.get_by (λ k. bytes_eq q k.now) c.args.places.now)) n c.args.caller.now.called.items x at))

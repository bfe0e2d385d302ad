use Rattle.std.proofs.Common.{◌≡◌, ◌∙◌, Some, sym, ap}
use Rattle.std.specs.Prelude.{slice_get}
use Rattle.std.proofs.lemmas.Option.{slice_get-get_or}
use Rattle.cycle_rules.proofs.Cases.{match_option}
use Rattle.cycle_rules.proofs.Leading.{callers_within, taken_not, recursion_from, none_from}
use Rattle.cycle_rules.proofs.calls.recursion_at.Goals as goal

pub leading_to-requires-clause-within : goal.leading_to-requires-clause-within
leading_to-requires-clause-within c = callers_within c.args.calls.now c.args.callers.now c.requires.callers

pub returns-then-has : goal.returns-then-has
returns-then-has c = taken_not c.args.calls.now c.args.taken.now c.requires.taken c.args.place (c.requires.taken.set.standing c.args.place (c.has.ensures.0 c.if-has.true))

pub returns : goal.returns
returns c =
    let at : slice_get c.args.calls.now c.args.place ≡ Some c.as_slice.result.now = slice_get-get_or c.args.calls.now c.args.place c.index-calls-place.result c.requires.place ∙ ap Some (sym c.index-calls-place.is ∙ sym c.as_slice.ensures) in
    match_option c.first_back.result _ _ _ _
    (none_from c.args.calls.now c.args.callers.now c.requires.callers c.args.place c.requires.place c.in_ok-leading.leading.places.items c.in_ok-leading.ensures.leading c.as_slice.result.now at)
    (recursion_from c.args.calls.now c.args.callers.now c.requires.callers c.args.place c.requires.place c.in_ok-leading.leading.places.items c.in_ok-leading.ensures.leading c.as_slice.result.now at)
    c.first_back.ensures

use Rattle.std.proofs.Common.{◌≡◌, ◌∙◌, Some, sym, ap, ltb-true}
use Rattle.std.specs.Prelude.{slice_get}
use Rattle.std.proofs.lemmas.Option.{slice_get-get_or}
use Rattle.cycle_rules.proofs.Cases.{on_ok}
use Rattle.cycle_rules.proofs.Takings.{takes_not, takes_one}
use Rattle.cycle_rules.proofs.calls.take.Goals as goal

pub returns-then-not-is_ready : goal.returns-then-not-is_ready
returns-then-not-is_ready c =
    let l = c.in-Some.ensures.lookup in
    let at : slice_get c.args.calls.now c.args.place ≡ Some c.as_slice.result.now =
    slice_get-get_or c.args.calls.now c.args.place c.in-Some.list.now (ltb-true _ _ (sym l.0)) ∙ ap Some (sym l.1 ∙ sym c.as_slice.ensures) in
    takes_not c.args.calls.now c.args.place c.as_slice.result.now c.args.taken.now c.requires at c.if-not-is_ready.ensures

pub returns : goal.returns
returns c =
    let l = c.in-Some.ensures.lookup in
    let at : slice_get c.args.calls.now c.args.place ≡ Some c.as_slice.result.now =
    slice_get-get_or c.args.calls.now c.args.place c.in-Some.list.now (ltb-true _ _ (sym l.0)) ∙ ap Some (sym l.1 ∙ sym c.as_slice.ensures) in
    on_ok c.add.result _ _ (λ w. takes_one c.args.calls.now c.args.place c.as_slice.result.now c.args.taken.now c.add.new.self c.requires at c.if-not-is_ready.ensures w) c.add.ensures

use Rattle.std.proofs.Common.{◌≡◌, ◌∙◌, true, false, sym, ap, arith, ◌+◌, drop}
use Rattle.language_model.specs.Finds.{with_front}
use Rattle.language_model.specs.OutputTyping.{filled_from}
use Rattle.language_model.proofs.parts.OutputTyping.{is_assigned}
use Rattle.output_rules.proofs.OutputMarks.{tells_assigned}
use Rattle.output_rules.proofs.OutputRows.{fill_past, fill_on, fill_stops}
use Rattle.output_rules.proofs.outputs.assigned.others.Goals.{then-not-marks-place+in_ok-number+in_ok-value+in_ok-push, else-not-marks-place}
use Rattle.output_rules.proofs.outputs.assigned.others.Goals as goal
use Rattle.language_model.proofs.FoundAnswers.{fails, finds_by}

pub loop-place-preserved : goal.loop-place-preserved
loop-place-preserved g c =
    let fills = g.T.Gives.fills c.args.gives.now in
    let front = c.args.front in
    let schema = c.args.schema.now.schema.now in
    let i = c.loop-place.place in
    let given = c.loop-place.given in
    let a = c.attribute-item.result in
    let told = tells_assigned front c.args.marks.now c.requires.told i in
    elim c.if-not-marks-place.branch [
      | then-not-marks-place+in_ok-number+in_ok-value+in_ok-push w ↦
          let free : is_assigned i front ≡ false = grind (arith, told) in
          c.loop-place.invariant
          ∙ fill_on fills front schema i given a c.loop-place-test.true c.attribute-item.is free w.in_ok-number.number w.in_ok-value.value c.if-not-marks-place.given w.in_ok-number.ensures
          w.in_ok-value.ensures (w.given-is ∙ w.in_ok-push.ensures.ok)
      | else-not-marks-place w ↦
          let taken : is_assigned i front ≡ true = grind (arith, told) in
          c.loop-place.invariant
          ∙ fill_past fills front schema i given a c.loop-place-test.true c.attribute-item.is taken
          ∙ ap (λ l. with_front l (filled_from fills front (i + 1) (drop (i + 1) schema))) (sym w.given-is)
    ]

pub returns-in_err-value : goal.returns-in_err-value
returns-in_err-value g c =
    let told = tells_assigned c.args.front c.args.marks.now c.requires.told c.loop-place.place in
    let free : is_assigned c.loop-place.place c.args.front ≡ false = grind (arith, told) in
    finds_by _ _ _ c.loop-place.invariant
    (fails _ _ c.in_err-value.field-0.0 c.from_residual-in_err-value.ensures.1
    (fill_stops (g.T.Gives.fills c.args.gives.now) c.args.front c.args.schema.now.schema.now c.loop-place.place c.loop-place.given c.attribute-item.result c.loop-place-test.true c.attribute-item.is free
    c.in_err-value.field-0.0 c.in_err-value.ensures))

use Rattle.std.proofs.Common.{◌≡◌, ◌∙◌, [], true, ap, sym, arith}
use Rattle.std.specs.Str.{bytes_eq}
use Rattle.language_model.specs.OutputTyping.{assignments_typing}
use Rattle.language_model.specs.parts.OutputTyping.{places}
use Rattle.language_model.specs.Finds.{with_front}
use Rattle.output_rules.proofs.OutputRows.{rows_on}
use Rattle.output_rules.proofs.outputs.assigned.rows.Goals as goal

pub loop-row-preserved : goal.loop-row-preserved
loop-row-preserved g c =
    let assigns = g.T.Gives.assigns c.args.gives.now in
    let schema = c.args.schema.now.schema.now in
    let given = c.loop-row.given in
    let row = c.row-item.result in
    let named : bytes_eq row.stream.what c.args.output.now ≡ true = grind arith in
    record {
      same =
          c.loop-row.invariant.same
          ∙ rows_on assigns schema c.args.output.now c.args.rows.now c.loop-row.row-index given row c.loop-row-test.true c.row-item.is named c.in_ok-given.given
          (ap (λ fs. with_front given (assignments_typing assigns schema (places [] given) fs)) (sym c.as_slice.ensures) ∙ c.in_ok-given.ensures.given);
      told = c.in_ok-given.ensures.told;
    }

use Rattle.std.proofs.Common.{[], ◌∷◌, ◌++◌, ◌∙◌, arith, refl}
use Rattle.std.proofs.lemmas.Option.{slice_get_read}
use Rattle.stream_model.specs.Bodies.{most_turns}
use Rattle.aggregate_op.proofs.ArgumentSteps.{blanks_more, nothing_yet, one_more}
use Rattle.aggregate_op.proofs.arguments.arguments.Goals as goal

pub loop-assignment-init : goal.loop-assignment-init
unfolding most_turns
loop-assignment-init c = ([], c.in_ok-values.ensures, nothing_yet _)

pub argument-requires : goal.argument-requires
argument-requires c =
    let x = c.assignment-item.result in
    let i = c.loop-assignment.assignment-index in
    c.requires i x (slice_get_read c.args.output.now _ i x refl (omega arith) c.assignment-item.is)

pub loop-assignment-preserved : goal.loop-assignment-preserved
loop-assignment-preserved c =
    let x = c.assignment-item.result in
    let i = c.loop-assignment.assignment-index in
    let inv = c.loop-assignment.invariant in
    let v = c.in_ok-value.value in (
      inv.0 ++ v ∷ [],
      c.in_ok-push.ensures.ok ∙ (λ j. c.loop-assignment.values ++ (c.or_blank.ensures j) ∷ []) ∙ blanks_more c.loop-assignment.values inv.0 v inv.1,
      one_more c.args.functions.now c.args.output.now c.args.env.now i x (omega arith) c.assignment-item.is c.loop-assignment.turns c.argument.new.turns inv.0 v c.in_ok-value.ensures ∙ inv.2,
    )

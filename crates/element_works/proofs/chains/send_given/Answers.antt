use Rattle.std.proofs.Common.{◌≡◌, ◌<◌, ◌∙◌, ◌++◌, [], ap, sym, subst, append-nil, length, slice_get, slice_index_or, Some}
use Rattle.std.specs.Option.{unwrap_or}
use Rattle.std.proofs.lemmas.Option.{slice_get-get_or}
use Rattle.spl_value.specs.declared.item.Item.TheVariants as I
use Rattle.stream_model.specs.Bodies.{output}
use Rattle.stream_model.specs.Fans.{fans_out}
use Rattle.operator_chains.specs.Places.{IsBelow, given_by, tuple_at}
use Rattle.element_outboxes.specs.Waiting.{all_out, waits}
use Rattle.element_outboxes.proofs.Fans.{ok_then}
use Rattle.element_works.proofs.chains.send_given.Goals as goal

pub returns-in-Tuple-clause-sends : goal.returns-in-Tuple-clause-sends
returns-in-Tuple-clause-sends c =
    let places = c.args.tuples.now.places.items in
    let at = c.in-Tuple.at in
    let within : at < length places = subst (IsBelow (length places)) c.in-Tuple.is c.requires.below in
    let here : slice_get places at ≡ Some (slice_index_or places at c.index_mut.result.now) = slice_get-get_or places at c.index_mut.result.now within in
    let tuple : c.replace-tuple.result ≡ tuple_at places at = c.replace-tuple.ensures.value ∙ c.index_mut.ensures.value ∙ sym (ap (λ o. unwrap_or o []) here) in
    ok_then _ _ c.send_output.result
    (λ u sent counts e. sent counts e ∙ ap (λ vs. waits c.args.outbox.now ++ fans_out counts (output 0 (I.Tuple vs))) tuple
    ∙ ap (λ z. waits c.args.outbox.now ++ z) (sym (append-nil (fans_out counts (output 0 (I.Tuple (tuple_at places at))))))
    ∙ ap (λ given. waits c.args.outbox.now ++ all_out counts (given_by given places c.args.tuples.now.outs)) (sym c.in-Tuple.is))
    c.send_output.ensures
